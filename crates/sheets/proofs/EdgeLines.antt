-- An edge's line and the edge that it writes.
use Rattle.std.proofs.Common.{◌≡◌, ℕ, ◌<◌, ◌≤◌, true, not, List, [], ◌∷◌, length, get_or, None, decimal, sym, refl, ap, ◌∙◌, arith}
use Rattle.std.specs.List.{AllByRecursion}
use Rattle.std.proofs.ByRecursion.{All-get_or}
use Rattle.std.proofs.lemmas.Bool.{not-false, not_from_true, leb-false, lt-leb}
use Rattle.lexer.specs.Text.{fields, line_of}
use Rattle.cells.specs.Bytes.{well, field}
use Rattle.cells.specs.Values.{named}
use Rattle.cells.specs.Checks.{first}
use Rattle.cells.proofs.Firsts.{passed, all_none}
use Rattle.cells.proofs.Parts.{line_back}
use Rattle.graph.specs.declared.parts.Edge.{Edge}
use Rattle.sheets.specs.Pages.{edge_cells, edge_line}
use Rattle.sheets.specs.Legal.{Distinct}
use Rattle.sheets.specs.Checks.{taken, index_of, edge_of, edge_checks}
use Rattle.sheets.proofs.Names.{place, taken_at, index_same}
use Rattle.sheets.proofs.Cells.{cells_are, fields_count, parted_at, number_is, number_at, value_at, decimal_cell, name_cell, LineBack, line_is}

-- An edge between two of n tasks, with no more tokens than an edge takes.
pub record Joins (n : ℕ) (e : Edge) : Type 0 where
  pub from : e.from < n
  pub to : e.to < n
  pub tokens : e.tokens ≤ 255

pub record EdgeRead (ns : List (List ℕ)) (k : ℕ) (l : List ℕ) : Type 0 where
  pub is : edge_line ns (edge_of ns l) ≡ l
  pub joins : Joins (length ns) (edge_of ns l)
  pub room : k < 48

-- a line that passes its checks is the written form of what it says
pub edge_read : (ns : List (List ℕ)) (k line : ℕ) (l : List ℕ) → first (edge_checks ns k line l) ≡ None → EdgeRead ns k l
edge_read ns k line l e =
    let p = passed (edge_checks ns k line l) e in
    let w = not-false (well l) p.0 in
    let q = p.1.1 in
    let n = fields_count 3 l q.1.0 in
    let r = q.1.1 in
    let from = place ns (field 0 l) (not-false (taken ns (field 0 l)) r.1.0) in
    let to = place ns (field 1 l) (not-false (taken ns (field 1 l)) r.1.1.1.0) in
    let tokens = number_is 0 255 (field 2 l) r.1.1.1.1.0 in
    let same : edge_cells ns (edge_of ns l) ≡ fields l = (λ i. from.1 i ∷ to.1 i ∷ tokens.is i ∷ []) ∙ sym (cells_are 0 3 (fields l) n) in
    record {
      is = ap line_of same ∙ sym (line_back l w);
      joins = record { from = from.0; to = to.0; tokens = tokens.most };
      room = leb-false 48 k q.0;
    }

name_of : (ns : List (List ℕ)) (v : ℕ) → AllByRecursion (λ n. named n ≡ true) ns → v < length ns → named (get_or ns v []) ≡ true
name_of ns v a h = All-get_or (λ n. named n ≡ true) ns v [] h a

-- what an edge between tasks of these names is written as
pub edge_back : (ns : List (List ℕ)) (e : Edge) → AllByRecursion (λ n. named n ≡ true) ns → Joins (length ns) e → LineBack (edge_cells ns e)
edge_back ns e a j =
    let from = name_cell (get_or ns e.from []) (name_of ns e.from a j.from) in
    let to = name_cell (get_or ns e.to []) (name_of ns e.to a j.to) in
    let tokens = decimal_cell e.tokens (omega (arith, j.tokens)) in
    line_is (get_or ns e.from []) (get_or ns e.to [] ∷ decimal e.tokens ∷ []) (from, (to, (tokens, tt)))

pub edge_same : (ns : List (List ℕ)) (e : Edge) → AllByRecursion (λ n. named n ≡ true) ns → Distinct ns → Joins (length ns) e → edge_of ns (edge_line ns e) ≡ e
edge_same ns e a d j =
    let c = (edge_back ns e a j).cut in
    let from = ap (λ x. index_of ns (get_or x 0 [])) c ∙ index_same ns e.from d j.from in
    let to = ap (λ x. index_of ns (get_or x 1 [])) c ∙ index_same ns e.to d j.to in
    let tokens = value_at e.tokens (field 2 (edge_line ns e)) (ap (λ x. get_or x 2 []) c) (omega (arith, j.tokens)) in
    λ i. record { from = from i; to = to i; tokens = tokens i }

pub edge_clear : (ns : List (List ℕ)) (k line : ℕ) (e : Edge) → AllByRecursion (λ n. named n ≡ true) ns → Joins (length ns) e → k < 48 → first (edge_checks ns k line (edge_line ns e)) ≡ None
edge_clear ns k line e a j room =
    let l = edge_line ns e in
    let b = edge_back ns e a j in
    let c = b.cut in
    let shape = parted_at 3 l (edge_cells ns e) c b.filled refl in
    let from = ap (λ x. not (named (get_or x 0 []))) c ∙ not_from_true (named (get_or ns e.from [])) (name_of ns e.from a j.from) in
    let from_there = ap (λ x. not (taken ns (get_or x 0 []))) c ∙ not_from_true (taken ns (get_or ns e.from [])) (taken_at ns e.from j.from) in
    let to = ap (λ x. not (named (get_or x 1 []))) c ∙ not_from_true (named (get_or ns e.to [])) (name_of ns e.to a j.to) in
    let to_there = ap (λ x. not (taken ns (get_or x 1 []))) c ∙ not_from_true (taken ns (get_or ns e.to [])) (taken_at ns e.to j.to) in
    let tokens = number_at 0 255 e.tokens (field 2 l) (ap (λ x. get_or x 2 []) c) (omega arith) (omega arith) j.tokens in
    all_none (edge_checks ns k line l) (not_from_true (well l) b.fine, (b.full, (lt-leb 48 k room, (shape, (from, (from_there, (to, (to_there, (tokens, tt)))))))))
