-- What is written of a sheet in order has no fault, and means that sheet.
use Rattle.std.proofs.Common.{◌≡◌, ℕ, ◌+◌, ◌<◌, ◌≤◌, true, cond, ◌||◌, eqb, leb, List, [], ◌∷◌, ◌++◌, map, length, get_or, drop, None, decimal, sym, refl, ap, ◌∙◌, subst, arith}
use Rattle.std.specs.List.{AllByRecursion}
use Rattle.std.proofs.ByRecursion.{All-append, All-map, All-weaker}
use Rattle.std.proofs.lemmas.List.{length_push, length-map}
use Rattle.std.proofs.lemmas.Bool.{or_from, not_from_true, ne_eqb, lt-leb}
use Rattle.lexer.specs.Text.{lines, end, line_of}
use Rattle.cells.specs.Bytes.{well, field}
use Rattle.cells.specs.Values.{named}
use Rattle.cells.specs.Checks.{bad, first}
use Rattle.cells.proofs.Firsts.{all_none, none_both}
use Rattle.cells.proofs.Parts.{lines_all}
use Rattle.graph.specs.declared.parts.Edge.{Edge}
use Rattle.headings.specs.declared.table.Table.TheVariants as table
use Rattle.headings.specs.Tables.{heading}
use Rattle.sheets.specs.Pages.{Entry, Page, names, task_of, goal_cells, entry_line, edge_line, page_lines, write}
use Rattle.sheets.specs.Legal.{InOrder, Distinct}
use Rattle.sheets.specs.Checks.{exact_checks, goal_checks, entry_of, entry_checks, entries_checks, edge_of, edge_checks, edges_checks, up_to_empty, past_empty, edge_table, names_in, text_checks, checks, page_of, meaning}
use Rattle.sheets.proofs.Names.{Apart, apart}
use Rattle.sheets.proofs.Cells.{LineBack, line_is, decimal_cell, parted_at, number_at, value_at, there}
use Rattle.sheets.proofs.EntryLines.{Fine, entry_back, entry_same, entry_clear}
use Rattle.sheets.proofs.EdgeLines.{Joins, edge_back, edge_same, edge_clear}
use Rattle.sheets.proofs.Orders.{entries_fine, edges_join}

-- The goal.

goal_back : (n : ℕ) → n ≤ 999999999 → LineBack (goal_cells n)
goal_back n h = line_is (decimal n) [] (decimal_cell n (omega arith), tt)

goal_clear : (n : ℕ) → 1 ≤ n → n ≤ 999999999 → first (goal_checks (line_of (goal_cells n))) ≡ None
goal_clear n least most =
    let l = line_of (goal_cells n) in
    let b = goal_back n most in
    let shape = parted_at 1 l (goal_cells n) b.cut b.filled refl in
    let goal = number_at 1 999999999 n (field 0 l) (ap (λ x. get_or x 0 []) b.cut) (omega arith) least most in
    all_none (goal_checks l) (there l b.fine, (not_from_true (well l) b.fine, (b.full, (shape, (goal, tt)))))

-- The tasks.

name_back : (e : Entry) → Fine e → field 0 (entry_line e) ≡ e.name
name_back e f = ap (λ x. get_or x 0 []) (entry_back e f).cut

entries_clear : (ns : List (List ℕ)) (es : List Entry) (rest : List (List ℕ)) → AllByRecursion Fine es → Apart ns (names es) → length ns + length es ≤ 16 → 0 < length ns + length es → first (entries_checks ns (map entry_line es ++ (end ∷ rest))) ≡ None
entries_clear ns [] rest f a few some = all_none (bad (eqb (length ns) 0) 9 (5 + length ns) 0 ∷ []) (ne_eqb (length ns) 0 (λ z. omega arith), tt)
entries_clear ns (e ∷ es) rest f a few some =
    let l = entry_line e in
    let ls = map entry_line es ++ (end ∷ rest) in
    let n = length_push ns e.name in
    let more = entries_checks (ns ++ field 0 l ∷ []) ls in
    ap (λ b. first (cond b (bad (eqb (length ns) 0) 9 (5 + length ns) 0 ∷ []) (entry_checks ns (5 + length ns) l ++ more))) (entry_back e f.0).full
    ∙ none_both (entry_checks ns (5 + length ns) l) more
    (entry_clear ns (5 + length ns) e f.0 a.0 (omega arith))
    (ap (λ m. first (entries_checks (ns ++ m ∷ []) ls)) (name_back e f.0) ∙ entries_clear (ns ++ e.name ∷ []) es rest f.1 a.1 (omega (arith, n)) (omega (arith, n)))

up_to : (es : List Entry) (rest : List (List ℕ)) → AllByRecursion Fine es → up_to_empty (map entry_line es ++ (end ∷ rest)) ≡ map entry_line es
up_to [] rest f = refl
up_to (e ∷ es) rest f =
    ap (λ b. cond b [] (entry_line e ∷ up_to_empty (map entry_line es ++ (end ∷ rest)))) (entry_back e f.0).full
    ∙ ap (λ x. entry_line e ∷ x) (up_to es rest f.1)

past : (es : List Entry) (rest : List (List ℕ)) → AllByRecursion Fine es → past_empty (map entry_line es ++ (end ∷ rest)) ≡ rest
past [] rest f = refl
past (e ∷ es) rest f =
    let ls = map entry_line es ++ (end ∷ rest) in
    ap (λ b. cond b ls (past_empty ls)) (entry_back e f.0).full ∙ past es rest f.1

entries_same : (es : List Entry) → AllByRecursion Fine es → map entry_of (map entry_line es) ≡ es
entries_same [] f = refl
entries_same (e ∷ es) f = let a = entry_same e f.0 in let b = entries_same es f.1 in λ i. a i ∷ b i

names_same : (es : List Entry) → AllByRecursion Fine es → map (field 0) (map entry_line es) ≡ names es
names_same [] f = refl
names_same (e ∷ es) f = let a = name_back e f.0 in let b = names_same es f.1 in λ i. a i ∷ b i

-- The edges.

edges_clear : (ns : List (List ℕ)) (k : ℕ) (es : List Edge) → AllByRecursion (λ n. named n ≡ true) ns → AllByRecursion (Joins (length ns)) es → k + length es ≤ 48 → first (edges_checks ns k (map (edge_line ns) es)) ≡ None
edges_clear ns k [] a j h = refl
edges_clear ns k (e ∷ es) a j h =
    none_both (edge_checks ns k (7 + (length ns + k)) (edge_line ns e)) (edges_checks ns (k + 1) (map (edge_line ns) es))
    (edge_clear ns k (7 + (length ns + k)) e a j.0 (omega arith))
    (edges_clear ns (k + 1) es a j.1 (omega arith))

edges_same : (ns : List (List ℕ)) (es : List Edge) → AllByRecursion (λ n. named n ≡ true) ns → Distinct ns → AllByRecursion (Joins (length ns)) es → map (edge_of ns) (map (edge_line ns) es) ≡ es
edges_same ns [] a d j = refl
edges_same ns (e ∷ es) a d j = let x = edge_same ns e a d j.0 in let y = edges_same ns es a d j.1 in λ i. x i ∷ y i

-- A sheet in order, with its edges by the names of its tasks.
pub record Ready (p : Page) : Type 0 where
  pub in_order : InOrder p
  pub fine : AllByRecursion Fine p.tasks
  pub named : AllByRecursion (λ n. named n ≡ true) (names p.tasks)
  pub joins : AllByRecursion (Joins (length (names p.tasks))) p.edges

ready : (p : Page) → InOrder p → Ready p
ready p o =
    let f = entries_fine p o in
    let n = length-map p.tasks (λ t. t.name) in
    record {
      in_order = o;
      fine = f;
      named = All-map (λ n. named n ≡ true) (λ t. t.name) p.tasks (All-weaker Fine (λ t. named t.name ≡ true) (λ t g. g.legal.name) p.tasks f);
      joins = subst (λ k. AllByRecursion (Joins k) p.edges) (sym n) (edges_join p o);
    }

written_lines : (p : Page) → Ready p → lines (write p) ≡ page_lines p
written_lines p r =
    let Well = λ (l : List ℕ). well l ≡ true in
    let ns = names p.tasks in
    let tasks = All-map Well entry_line p.tasks (All-weaker Fine (λ e. Well (entry_line e)) (λ e f. (entry_back e f).fine) p.tasks r.fine) in
    let edges = All-map Well (edge_line ns) p.edges (All-weaker (Joins (length ns)) (λ e. Well (edge_line ns e)) (λ e j. (edge_back ns e r.named j).fine) p.edges r.joins) in
    lines_all (page_lines p)
    (refl, ((goal_back p.goal r.in_order.ranges.most).fine, (refl, (refl, All-append Well (map entry_line p.tasks) (end ∷ heading table.Edges ∷ map (edge_line ns) p.edges) tasks (refl, (refl, edges))))))

-- What the lines of a sheet are cut into.
pub record Cut (p : Page) : Type 0 where
  pub names_are : names_in (page_lines p) ≡ names p.tasks
  pub table_is : edge_table (page_lines p) ≡ heading table.Edges ∷ map (edge_line (names p.tasks)) p.edges

cut : (p : Page) → Ready p → Cut p
cut p r =
    let rest = heading table.Edges ∷ map (edge_line (names p.tasks)) p.edges in
    record { names_are = ap (map (field 0)) (up_to p.tasks rest r.fine) ∙ names_same p.tasks r.fine; table_is = past p.tasks rest r.fine }

lines_clear : (p : Page) → Ready p → (size : ℕ) → 0 < size → size ≤ 8192 → first (text_checks size (page_lines p)) ≡ None
lines_clear p r size some room =
    let o = r.in_order in
    let ls = page_lines p in
    let ns = names p.tasks in
    let n = length-map p.tasks task_of in
    let c = cut p r in
    let rest = heading table.Edges ∷ map (edge_line ns) p.edges in
    let A = exact_checks (heading table.Goal) 1 (heading table.Goal) in
    let B = goal_checks (line_of (goal_cells p.goal)) in
    let C = exact_checks end 3 end in
    let D = exact_checks (heading table.Tasks) 4 (heading table.Tasks) in
    let E = entries_checks [] (map entry_line p.tasks ++ (end ∷ rest)) in
    let F = exact_checks (heading table.Edges) (6 + length (names_in ls)) (get_or (edge_table ls) 0 []) in
    let G = edges_checks (names_in ls) 0 (drop 1 (edge_table ls)) in
    let size_is : first (bad (eqb size 0 || leb 8193 size) 1 0 0 ∷ []) ≡ None = all_none (bad (eqb size 0 || leb 8193 size) 1 0 0 ∷ []) (or_from (eqb size 0) (leb 8193 size) (ne_eqb size 0 (λ z. omega arith)) (lt-leb 8193 size (omega arith)), tt) in
    let tasks = entries_clear [] p.tasks rest r.fine (apart [] ns o.distinct) (omega (arith, n, o.counts.few)) (omega (arith, n, o.counts.some)) in
    let head : first F ≡ None = ap (λ x. first (exact_checks (heading table.Edges) (6 + length (names_in ls)) (get_or x 0 []))) c.table_is in
    let arcs : first G ≡ None = (λ i. first (edges_checks (c.names_are i) 0 (drop 1 (c.table_is i)))) ∙ edges_clear ns 0 p.edges r.named r.joins (omega (arith, o.counts.sparse)) in
    none_both (bad (eqb size 0 || leb 8193 size) 1 0 0 ∷ []) (A ++ (B ++ (C ++ (D ++ (E ++ (F ++ G)))))) size_is
    (none_both A (B ++ (C ++ (D ++ (E ++ (F ++ G))))) refl
    (none_both B (C ++ (D ++ (E ++ (F ++ G)))) (goal_clear p.goal o.ranges.least o.ranges.most)
    (none_both C (D ++ (E ++ (F ++ G))) refl
    (none_both D (E ++ (F ++ G)) refl
    (none_both E (F ++ G) tasks
    (none_both F G head arcs))))))

page_same : (p : Page) → Ready p → page_of (page_lines p) ≡ p
page_same p r =
    let ns = names p.tasks in
    let c = cut p r in
    let rest = heading table.Edges ∷ map (edge_line ns) p.edges in
    let goal = value_at p.goal (field 0 (line_of (goal_cells p.goal))) (ap (λ x. get_or x 0 []) (goal_back p.goal r.in_order.ranges.most).cut) (omega (arith, r.in_order.ranges.most)) in
    let tasks = ap (map entry_of) (up_to p.tasks rest r.fine) ∙ entries_same p.tasks r.fine in
    let edges = (λ i. map (edge_of (c.names_are i)) (drop 1 (c.table_is i))) ∙ edges_same ns p.edges r.named r.in_order.distinct r.joins in
    λ i. record { goal = goal i; tasks = tasks i; edges = edges i }

pub back_is : (p : Page) → InOrder p → (first (checks (write p)) ≡ None) × (meaning (write p) ≡ p)
back_is p o =
    let r = ready p o in
    let e = written_lines p r in
    let some : 0 < length (write p) = omega arith in
    (ap (λ ls. first (text_checks (length (write p)) ls)) e ∙ lines_clear p r (length (write p)) some o.room, ap page_of e ∙ page_same p r)
