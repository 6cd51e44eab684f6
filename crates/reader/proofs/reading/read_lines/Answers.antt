-- Table after table.
use Rattle.std.proofs.Common.{◌≡◌, ℕ, List, [], ◌++◌, map, length, get_or, drop, sym, ap, ◌∙◌, arith}
use Rattle.std.proofs.lemmas.List.{drop-drop}
use Rattle.std.proofs.lemmas.Bool.Decides.{nat_tests}
use Rattle.lexer.specs.Text.{lines}
use Rattle.cells.specs.Bytes.{field}
use Rattle.cells.specs.Values.{value}
use Rattle.cells.specs.Checks.{first}
use Rattle.cells.proofs.Firsts.{first_within, first_after}
use Rattle.sheets.specs.Pages.{Entry, names}
use Rattle.sheets.specs.Checks.{checks, names_in, entry_lines, edge_table, entry_of, edge_of, up_to_empty, past_empty}
use Rattle.sheets.proofs.Taken.{names_are}
use Rattle.sheet_lines.proofs.Handed.{handed_on}
use Rattle.reader.specs.Numbered.{left}
use Rattle.reader.specs.TableChecks as tables
use Rattle.reader.proofs.Steps.{Sized, by_tables, past_goal}
use Rattle.reader.proofs.reading.read_lines.Goals as goal
use Rattle.reader.proofs.reading.read_lines.Goals.{In_ok-task_table}

pub returns-in_err-goal : goal.returns-in_err-goal
returns-in_err-goal c =
    let t = c.args.text.now in
    let sized : Sized c.args.text.now = grind (arith, nat_tests) in
    let r = c.from_residual in
    handed_on r.result _ (checks t) _ r.ensures.1
    (by_tables t sized
    ∙ first_within (tables.goal_table (lines t)) (tables.task_table [] (drop 3 (lines t)) ++ tables.edge_table (names_in (lines t)) 0 (edge_table (lines t))) _
    (ap (λ m. first (tables.goal_table m)) (sym c.new-lines.ensures.lines) ∙ c.in_err-goal.ensures))

pub returns-in_err-task_table : goal.returns-in_err-task_table
returns-in_err-task_table c =
    let t = c.args.text.now in
    let sized : Sized c.args.text.now = grind (arith, nat_tests) in
    let r = c.from_residual-in_err-task_table in
    let from = c.in_ok-goal.ensures.1.1.lines ∙ ap (drop 3) c.new-lines.ensures.lines in
    let none = ap names c.args.room.no_entries in
    handed_on r.result _ (checks t) _ r.ensures.1
    (past_goal t (left c.new-lines.result) sized c.new-lines.ensures.lines c.in_ok-goal.ensures.0
    ∙ first_within (tables.task_table [] (drop 3 (lines t))) (tables.edge_table (names_in (lines t)) 0 (edge_table (lines t))) _
    ((λ i. first (tables.task_table (sym none i) (sym from i))) ∙ c.in_err-task_table.ensures))

-- the first two tables were in order
record Past (t : List ℕ) (ls : List (List ℕ)) (es : List Entry) : Type 0 where
  go_on : first (checks t) ≡ first (tables.edge_table (names es) 0 ls)
  left : ls ≡ edge_table (lines t)
  are : es ≡ map entry_of (entry_lines (lines t))
  named : names es ≡ names_in (lines t)

past : (c : In_ok-task_table) → Past c.args.text.now (left c.task_table.new.lines) c.task_table.new.entries
past c =
    let t = c.args.text.now in
    let ls = lines t in
    let sized : Sized c.args.text.now = grind (arith, nat_tests) in
    let from = c.in_ok-goal.ensures.1.1.lines ∙ ap (drop 3) c.new-lines.ensures.lines in
    let below = ap (drop 1) from ∙ drop-drop 1 3 ls in
    let k = c.in_ok-task_table.ensures in
    let past = k.1.1.lines ∙ ap past_empty below in
    let none = c.args.room.no_entries in
    let are = k.1.0 ∙ (λ i. none i ++ map entry_of (up_to_empty (below i))) in
    let named = ap names are ∙ names_are (entry_lines ls) in
    record {
      go_on = past_goal t (left c.new-lines.result) sized c.new-lines.ensures.lines c.in_ok-goal.ensures.0
          ∙ first_after (tables.task_table [] (drop 3 ls)) (tables.edge_table (names_in ls) 0 (edge_table ls)) ((λ i. first (tables.task_table (names (sym none i)) (sym from i))) ∙ k.0)
          ∙ (λ i. first (tables.edge_table (sym named i) 0 (sym past i)));
      left = past;
      are = are;
      named = named;
    }

pub returns-in_err-edge_table : goal.returns-in_err-edge_table
returns-in_err-edge_table c =
    let p = past (goal.at.returns-in_err-edge_table c).In_ok-task_table in
    let r = c.from_residual-in_err-edge_table in
    let none = ap length c.args.room.no_edges in
    handed_on r.result _ (checks c.args.text.now) _ r.ensures.1
    (p.go_on ∙ ap (λ k. first (tables.edge_table (names c.task_table.new.entries) k (left c.task_table.new.lines))) (sym none) ∙ c.in_err-edge_table.ensures)

pub returns : goal.returns
returns c =
    let p = past (goal.at.returns c).In_ok-task_table in
    let none = c.args.room.no_edges in
    let named = p.named in
    let past = p.left in (
      p.go_on ∙ ap (λ es. first (tables.edge_table (names c.task_table.new.entries) (length es) (left c.task_table.new.lines))) (sym none) ∙ c.in_ok-edge_table.ensures.0,
      record {
        goal = c.in_ok-goal.ensures.1.0 ∙ ap (λ m. value (field 0 (get_or m 1 []))) c.new-lines.ensures.lines;
        tasks = p.are;
        edges = c.in_ok-edge_table.ensures.1 ∙ (λ i. none i ++ map (edge_of (named i)) (drop 1 (past i)));
      },
    )
