-- A text with no fault is the written form of its meaning, and that is in order.
use Rattle.std.proofs.Common.{◌≡◌, ℕ, ◌+◌, ◌<◌, ◌≤◌, Bool, true, false, cond, ◌||◌, eqb, leb, List, [], ◌∷◌, ◌++◌, map, length, get_or, drop, None, sym, refl, ap, ◌∙◌, subst, arith}
use Rattle.std.specs.List.{AllByRecursion}
use Rattle.std.specs.Str.{bytes_eq}
use Rattle.std.proofs.lemmas.List.{length_push, length-map}
use Rattle.std.proofs.lemmas.Slice.Eq.{bytes_eq-Decides}
use Rattle.std.proofs.lemmas.Bool.{true≢false, or_parts, not-false, eqb-false, leb-false}
use Rattle.lexer.specs.Text.{lines, fields, end, line_of}
use Rattle.cells.specs.Bytes.{well, field}
use Rattle.cells.specs.Values.{value}
use Rattle.cells.specs.Checks.{bad, first}
use Rattle.cells.proofs.Firsts.{passed, clear, none_parts}
use Rattle.cells.proofs.Parts.{joined_lines, line_back}
use Rattle.headings.specs.declared.table.Table.TheVariants as table
use Rattle.headings.specs.Tables.{heading}
use Rattle.sheets.specs.Pages.{names, goal_cells, entry_line, edge_line, page_lines, all_of, write}
use Rattle.sheets.specs.Legal.{InOrder}
use Rattle.sheets.specs.Checks.{empty, exact_checks, goal_checks, entry_of, entry_checks, entries_checks, edge_of, edge_checks, edges_checks, up_to_empty, past_empty, edge_table, names_in, text_checks, checks, page_of, meaning}
use Rattle.sheets.proofs.Names.{Apart, distinct}
use Rattle.sheets.proofs.Cells.{cells_are, fields_count, number_is}
use Rattle.sheets.proofs.EntryLines.{Fine, entry_read}
use Rattle.sheets.proofs.EdgeLines.{Joins, edge_read}
use Rattle.sheets.proofs.Orders.{Parts, in_order}

exact_line : (wanted : List ℕ) (line : ℕ) (l : List ℕ) → first (exact_checks wanted line l) ≡ None → wanted ≡ l
exact_line wanted line l e = sym ((bytes_eq-Decides l wanted).0 (not-false (bytes_eq l wanted) (passed (exact_checks wanted line l) e).1.1.0))

pub record GoalRead (l : List ℕ) : Type 0 where
  pub is : line_of (goal_cells (value (field 0 l))) ≡ l
  pub least : 1 ≤ value (field 0 l)
  pub most : value (field 0 l) ≤ 999999999

goal_read : (l : List ℕ) → first (goal_checks l) ≡ None → GoalRead l
goal_read l e =
    let p = passed (goal_checks l) e in
    let w = not-false (well l) p.1.0 in
    let q = p.1.1.1 in
    let n = number_is 1 999999999 (field 0 l) q.1.0 in
    let same : goal_cells (value (field 0 l)) ≡ fields l = ap (λ f. f ∷ []) n.is ∙ sym (cells_are 0 1 (fields l) (fields_count 1 l q.0)) in
    record { is = ap line_of same ∙ sym (line_back l w); least = n.least; most = n.most }

-- The task table: ls are the lines below its heading, up those of tasks, and past those behind the empty line.
pub record Entries (ns ls up past : List (List ℕ)) : Type 0 where
  pub split : up ++ (end ∷ past) ≡ ls
  pub is : map entry_line (map entry_of up) ≡ up
  pub fine : AllByRecursion Fine (map entry_of up)
  pub apart : Apart ns (map (field 0) up)
  pub most : length ns ≤ 16 → length ns + length up ≤ 16
  pub some : 0 < length ns + length up

entries_step : (b : Bool) (ns : List (List ℕ)) (l : List ℕ) (ls : List (List ℕ)) → (b ≡ true → l ≡ end)
    → (first (entries_checks (ns ++ field 0 l ∷ []) ls) ≡ None → Entries (ns ++ field 0 l ∷ []) ls (up_to_empty ls) (past_empty ls))
    → first (cond b (bad (eqb (length ns) 0) 9 (5 + length ns) 0 ∷ []) (entry_checks ns (5 + length ns) l ++ entries_checks (ns ++ field 0 l ∷ []) ls)) ≡ None
    → Entries ns (l ∷ ls) (cond b [] (l ∷ up_to_empty ls)) (cond b ls (past_empty ls))
entries_step true ns l ls same k e =
    let some = eqb-false (length ns) 0 (passed (bad (eqb (length ns) 0) 9 (5 + length ns) 0 ∷ []) e).0 in
    record { split = ap (λ x. x ∷ ls) (sym (same refl)); is = refl; fine = tt; apart = tt; most = λ h. omega arith; some = omega arith }
entries_step false ns l ls same k e =
    let p = none_parts (entry_checks ns (5 + length ns) l) (entries_checks (ns ++ field 0 l ∷ []) ls) e in
    let a = entry_read ns (5 + length ns) l p.0 in
    let b = k p.1 in
    let n = length_push ns (field 0 l) in
    record {
      split = ap (λ x. l ∷ x) b.split;
      is = λ i. a.is i ∷ b.is i;
      fine = (a.fine, b.fine);
      apart = (a.free, b.apart);
      most = λ h. omega (arith, n, a.room, b.most (omega (arith, n, a.room)));
      some = omega arith;
    }

entries : (ns ls : List (List ℕ)) → first (entries_checks ns ls) ≡ None → Entries ns ls (up_to_empty ls) (past_empty ls)
entries ns [] e = absurd (true≢false (passed (entries_checks ns []) e).0)
entries ns (l ∷ ls) e = entries_step (empty l) ns l ls (bytes_eq-Decides l end).0 (entries (ns ++ field 0 l ∷ []) ls) e

-- The lines below the edges' heading.
pub record Edges (ns : List (List ℕ)) (k : ℕ) (ls : List (List ℕ)) : Type 0 where
  pub is : map (edge_line ns) (map (edge_of ns) ls) ≡ ls
  pub joins : AllByRecursion (Joins (length ns)) (map (edge_of ns) ls)
  pub most : k ≤ 48 → k + length ls ≤ 48

edges : (ns : List (List ℕ)) (k : ℕ) (ls : List (List ℕ)) → first (edges_checks ns k ls) ≡ None → Edges ns k ls
edges ns k [] e = record { is = refl; joins = tt; most = λ h. omega arith }
edges ns k (l ∷ ls) e =
    let p = none_parts (edge_checks ns k (7 + (length ns + k)) l) (edges_checks ns (k + 1) ls) e in
    let a = edge_read ns k (7 + (length ns + k)) l p.0 in
    let b = edges ns (k + 1) ls p.1 in
    record { is = λ i. a.is i ∷ b.is i; joins = (a.joins, b.joins); most = λ h. omega (arith, a.room, b.most (omega (arith, a.room))) }

pub names_are : (ls : List (List ℕ)) → names (map entry_of ls) ≡ map (field 0) ls
names_are [] = refl
names_are (l ∷ ls) = ap (λ x. field 0 l ∷ x) (names_are ls)

headed : (h : List ℕ) (line : ℕ) (ls : List (List ℕ)) → first (exact_checks h line (get_or ls 0 [])) ≡ None → h ∷ drop 1 ls ≡ ls
headed h line [] e = absurd (true≢false (passed (exact_checks h line []) e).0)
headed h line (l ∷ ls) e = ap (λ x. x ∷ ls) (exact_line h line l e)

pub record PageRead (ls : List (List ℕ)) : Type 0 where
  pub is : page_lines (page_of ls) ≡ ls
  pub parts : Parts (page_of ls)

page_read : (ls : List (List ℕ)) → first (exact_checks (heading table.Goal) 1 (get_or ls 0 [])) ≡ None → first (goal_checks (get_or ls 1 [])) ≡ None → first (exact_checks end 3 (get_or ls 2 [])) ≡ None → first (exact_checks (heading table.Tasks) 4 (get_or ls 3 [])) ≡ None
    → first (entries_checks [] (drop 4 ls)) ≡ None → first (exact_checks (heading table.Edges) (6 + length (names_in ls)) (get_or (edge_table ls) 0 [])) ≡ None → first (edges_checks (names_in ls) 0 (drop 1 (edge_table ls))) ≡ None → PageRead ls
page_read [] a b c d e f g = absurd (true≢false (passed (exact_checks (heading table.Goal) 1 []) a).0)
page_read (l0 ∷ []) a b c d e f g = absurd (true≢false (passed (goal_checks []) b).0)
page_read (l0 ∷ l1 ∷ []) a b c d e f g = absurd (true≢false (passed (exact_checks end 3 []) c).0)
page_read (l0 ∷ l1 ∷ l2 ∷ []) a b c d e f g = absurd (true≢false (passed (exact_checks (heading table.Tasks) 4 []) d).0)
page_read (l0 ∷ l1 ∷ l2 ∷ l3 ∷ ls) a b c d e f g =
    let up = up_to_empty ls in
    let past = past_empty ls in
    let ns = map (field 0) up in
    let h0 = exact_line (heading table.Goal) 1 l0 a in
    let goal = goal_read l1 b in
    let h2 = exact_line end 3 l2 c in
    let h3 = exact_line (heading table.Tasks) 4 l3 d in
    let tasks = entries [] ls e in
    let head = headed (heading table.Edges) (6 + length ns) past f in
    let arcs = edges ns 0 (drop 1 past) g in
    let same = names_are up in
    let written = ap (λ ms. map (edge_line ms) (map (edge_of ns) (drop 1 past))) same ∙ arcs.is in
    let tail = ap (λ x. heading table.Edges ∷ x) written ∙ head in
    let rest = (λ i. tasks.is i ++ (end ∷ tail i)) ∙ tasks.split in
    let n = length-map up (field 0) in
    let m = length-map up entry_of in
    record {
      is = λ i. h0 i ∷ goal.is i ∷ h2 i ∷ h3 i ∷ rest i;
      parts = record {
        least = goal.least;
        most = goal.most;
        some = omega (arith, m, tasks.some);
        few = omega (arith, m, tasks.most (omega arith));
        sparse = omega (arith, length-map (drop 1 past) (edge_of ns), arcs.most (omega arith));
        fine = tasks.fine;
        joins = subst (λ k. AllByRecursion (Joins k) (map (edge_of ns) (drop 1 past))) (n ∙ sym m) arcs.joins;
        distinct = distinct (names (map entry_of up)) (subst (Apart []) (sym same) tasks.apart);
      };
    }

text_read : (size : ℕ) (ls : List (List ℕ)) → first (text_checks size ls) ≡ None → (size ≤ 8192) × PageRead ls
text_read size ls e =
    let A = exact_checks (heading table.Goal) 1 (get_or ls 0 []) in
    let B = goal_checks (get_or ls 1 []) in
    let C = exact_checks end 3 (get_or ls 2 []) in
    let D = exact_checks (heading table.Tasks) 4 (get_or ls 3 []) in
    let E = entries_checks [] (drop 4 ls) in
    let F = exact_checks (heading table.Edges) (6 + length (names_in ls)) (get_or (edge_table ls) 0 []) in
    let G = edges_checks (names_in ls) 0 (drop 1 (edge_table ls)) in
    let k0 = clear (bad (eqb size 0 || leb 8193 size) 1 0 0) (A ++ (B ++ (C ++ (D ++ (E ++ (F ++ G)))))) e in
    let k1 = none_parts A (B ++ (C ++ (D ++ (E ++ (F ++ G))))) k0.1 in
    let k2 = none_parts B (C ++ (D ++ (E ++ (F ++ G)))) k1.1 in
    let k3 = none_parts C (D ++ (E ++ (F ++ G))) k2.1 in
    let k4 = none_parts D (E ++ (F ++ G)) k3.1 in
    let k5 = none_parts E (F ++ G) k4.1 in
    let k6 = none_parts F G k5.1 in
    let small = leb-false 8193 size (or_parts (eqb size 0) (leb 8193 size) k0.0).1 in
    (omega (arith, small), page_read ls k1.0 k2.0 k3.0 k4.0 k5.0 k6.0 k6.1)

pub taken_is : (t : List ℕ) → first (checks t) ≡ None → (t ≡ write (meaning t)) × InOrder (meaning t)
taken_is t e =
    let r = text_read (length t) (lines t) e in
    let same : t ≡ write (meaning t) = sym (joined_lines t) ∙ ap all_of (sym r.1.is) in
    (same, in_order (meaning t) r.1.parts (subst (λ x. length x ≤ 8192) same r.0))
