-- The first of the three lines that is not in order, or the goal.
use Rattle.std.proofs.Common.{◌≡◌, [], ◌++◌, get_or, drop, sym, refl, ap, ◌∙◌, rules}
use Rattle.std.proofs.lemmas.List.{get_or-drop, drop-drop}
use Rattle.lexer.specs.Text.{end}
use Rattle.cells.specs.Bytes.{field}
use Rattle.cells.specs.Checks.{first}
use Rattle.cells.specs.Values.{value}
use Rattle.cells.proofs.Firsts.{first_within, first_after}
use Rattle.headings.specs.declared.table.Table.TheVariants as table
use Rattle.headings.specs.Tables.{heading}
use Rattle.sheets.specs.Checks.{exact_checks, goal_line_checks, goal_checks}
use Rattle.sheet_lines.proofs.Handed.{handed_on}
use Rattle.reader.specs.Numbered.{left, Stands}
use Rattle.reader.specs.TableChecks.{goal_table}
use Rattle.reader.proofs.Numbered.{stands_on, at_stand}
use Rattle.reader.proofs.tables.goal_table.Goals as goal
use Rattle.reader.proofs.tables.goal_table.Goals.{In_ok-heading}

-- the heading is in order

second : (c : In_ok-heading) → Stands 2 (drop 1 (left c.args.lines.now)) c.heading.new.self
second c = stands_on 1 (left c.args.lines.now) _ _ (search rules) (record { lines = refl; number = c.requires }) c.in_ok-heading.ensures.1

headed : (c : In_ok-heading) → first (goal_table (left c.args.lines.now)) ≡ first (goal_checks (get_or (left c.args.lines.now) 1 []) ++ exact_checks end 3 (get_or (left c.args.lines.now) 2 []))
headed c =
    let ls = left c.args.lines.now in
    first_after (exact_checks (heading table.Goal) 1 (get_or ls 0 [])) (goal_checks (get_or ls 1 []) ++ exact_checks end 3 (get_or ls 2 []))
    (at_stand (exact_checks (heading table.Goal)) 1 ls c.args.lines.now (record { lines = refl; number = c.requires }) ∙ c.in_ok-heading.ensures.0)

aimed : (c : In_ok-heading) → first (goal_checks (get_or (left c.args.lines.now) 1 [])) ≡ first (goal_line_checks c.heading.new.self.number (get_or (left c.heading.new.self) 0 []))
aimed c =
    let ls = left c.args.lines.now in
    ap (λ l. first (goal_checks l)) (sym (get_or-drop 1 ls 0 [])) ∙ at_stand goal_line_checks 2 (drop 1 ls) c.heading.new.self (second c)

pub returns-in_err-heading : goal.returns-in_err-heading
returns-in_err-heading c =
    let ls = left c.args.lines.now in
    let r = c.from_residual in
    handed_on r.result _ (goal_table ls) _ r.ensures.1
    (first_within (exact_checks (heading table.Goal) 1 (get_or ls 0 [])) (goal_checks (get_or ls 1 []) ++ exact_checks end 3 (get_or ls 2 [])) _
    (at_stand (exact_checks (heading table.Goal)) 1 ls c.args.lines.now (record { lines = refl; number = c.requires }) ∙ c.in_err-heading.ensures))

pub returns-in_err-goal : goal.returns-in_err-goal
returns-in_err-goal c =
    let ls = left c.args.lines.now in
    let h = (goal.at.returns-in_err-goal c).In_ok-heading in
    let r = c.from_residual-in_err-goal in
    handed_on r.result _ (goal_table ls) _ r.ensures.1 (headed h ∙ first_within (goal_checks (get_or ls 1 [])) (exact_checks end 3 (get_or ls 2 [])) _ (aimed h ∙ c.in_err-goal.ensures))

pub returns-in_err-gap : goal.returns-in_err-gap
returns-in_err-gap c =
    let ls = left c.args.lines.now in
    let h = (goal.at.returns-in_err-gap c).In_ok-heading in
    let third = stands_on 2 (drop 1 ls) c.heading.new.self c.goal.new.self (search rules) (second h) c.in_ok-goal.ensures.1.1 in
    let line = get_or-drop 1 (drop 1 ls) 0 [] ∙ get_or-drop 1 ls 1 [] in
    let r = c.from_residual-in_err-gap in
    handed_on r.result _ (goal_table ls) _ r.ensures.1
    (headed h ∙ first_after (goal_checks (get_or ls 1 [])) (exact_checks end 3 (get_or ls 2 [])) (aimed h ∙ c.in_ok-goal.ensures.0)
    ∙ ap (λ l. first (exact_checks end 3 l)) (sym line) ∙ at_stand (exact_checks end) 3 (drop 1 (drop 1 ls)) c.goal.new.self third ∙ c.in_err-gap.ensures)

pub returns : goal.returns
returns c =
    let ls = left c.args.lines.now in
    let h = (goal.at.returns c).In_ok-heading in
    let third = stands_on 2 (drop 1 ls) c.heading.new.self c.goal.new.self (search rules) (second h) c.in_ok-goal.ensures.1.1 in
    let line = get_or-drop 1 (drop 1 ls) 0 [] ∙ get_or-drop 1 ls 1 [] in
    let fourth = stands_on 3 (drop 1 (drop 1 ls)) c.goal.new.self c.gap.new.self (search rules) third c.in_ok-gap.ensures.1 in
    let aim = ap (λ ms. get_or ms 0 []) (second h).lines ∙ get_or-drop 1 ls 0 [] in (
      headed h ∙ first_after (goal_checks (get_or ls 1 [])) (exact_checks end 3 (get_or ls 2 [])) (aimed h ∙ c.in_ok-goal.ensures.0)
          ∙ ap (λ l. first (exact_checks end 3 l)) (sym line) ∙ at_stand (exact_checks end) 3 (drop 1 (drop 1 ls)) c.goal.new.self third ∙ c.in_ok-gap.ensures.0,
      (c.in_ok-goal.ensures.1.0 ∙ ap (λ l. value (field 0 l)) aim, record { lines = fourth.lines ∙ ap (drop 1) (drop-drop 1 1 ls) ∙ drop-drop 1 2 ls; number = fourth.number }),
    )
