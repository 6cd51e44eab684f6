-- The tables of a text, one after another.
use Rattle.std.proofs.Common.{◌≡◌, ℕ, false, cond, ◌||◌, eqb, leb, List, [], ◌++◌, length, get_or, drop, Some, None, sym, ap, ◌∙◌, append_assoc}
use Rattle.std.proofs.lemmas.List.{get_or-drop, drop-drop}
use Rattle.faults.specs.Faults.{fault}
use Rattle.faults.specs.declared.layer.Layer.TheVariants.{Reader}
use Rattle.lexer.specs.Text.{lines, end}
use Rattle.cells.specs.Checks.{first}
use Rattle.cells.proofs.Firsts.{first_after}
use Rattle.headings.specs.declared.table.Table.TheVariants as table
use Rattle.headings.specs.Tables.{heading}
use Rattle.sheets.specs.Checks.{exact_checks, goal_checks, entries_checks, checks, names_in, edge_table}
use Rattle.reader.specs.TableChecks as tables

-- a text of a size that a sheet may have
abbrev pub Sized : List ℕ → Type 0
Sized t = (eqb (length t) 0 || leb 8193 (length t)) ≡ false

-- its checks are those of its tables
pub by_tables : (t : List ℕ) → Sized t → first (checks t) ≡ first (tables.goal_table (lines t) ++ (tables.task_table [] (drop 3 (lines t)) ++ tables.edge_table (names_in (lines t)) 0 (edge_table (lines t))))
by_tables t s =
    let ls = lines t in
    let A = exact_checks (heading table.Goal) 1 (get_or ls 0 []) in
    let B = goal_checks (get_or ls 1 []) in
    let C = exact_checks end 3 (get_or ls 2 []) in
    let D = exact_checks (heading table.Tasks) 4 (get_or ls 3 []) in
    let E = entries_checks [] (drop 4 ls) in
    let Y = tables.edge_table (names_in ls) 0 (edge_table ls) in
    let there = get_or-drop 3 ls 0 [] in
    let below = drop-drop 1 3 ls in
    ap (λ b. cond b (Some (fault 1 Reader 0 0)) (first (A ++ (B ++ (C ++ (D ++ (E ++ Y))))))) s
    ∙ ap first (sym (append_assoc A (B ++ C) (D ++ (E ++ Y)) ∙ ap (λ x. A ++ x) (append_assoc B C (D ++ (E ++ Y)))))
    ∙ ap (λ x. first ((A ++ (B ++ C)) ++ x)) (sym (append_assoc D E Y))
    ∙ (λ i. first ((A ++ (B ++ C)) ++ ((exact_checks (heading table.Tasks) 4 (sym there i) ++ entries_checks [] (sym below i)) ++ Y)))

-- where the goal's table is in order, and m are the lines from it on
pub past_goal : (t : List ℕ) (m : List (List ℕ)) → Sized t → m ≡ lines t → first (tables.goal_table m) ≡ None → first (checks t) ≡ first (tables.task_table [] (drop 3 (lines t)) ++ tables.edge_table (names_in (lines t)) 0 (edge_table (lines t)))
past_goal t m s e n =
    by_tables t s ∙ first_after (tables.goal_table (lines t)) (tables.task_table [] (drop 3 (lines t)) ++ tables.edge_table (names_in (lines t)) 0 (edge_table (lines t))) (ap (λ l. first (tables.goal_table l)) (sym e) ∙ n)
