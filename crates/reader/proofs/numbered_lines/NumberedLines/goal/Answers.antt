-- A line that is missing, or has no goal.
use Rattle.std.proofs.Common.{refl, ◌∙◌}
use Rattle.cells.specs.Bytes.{field}
use Rattle.cells.specs.Values.{value}
use Rattle.sheets.specs.Checks.{goal_line_checks}
use Rattle.sheet_lines.proofs.Handed.{handed_on, handed_back}
use Rattle.reader.proofs.Numbered.{missed, met, read_as, one_on}
use Rattle.reader.proofs.numbered_lines.NumberedLines.goal.Goals as goal

pub returns-in_err-line : goal.returns-in_err-line
returns-in_err-line c =
    let r = c.from_residual in
    handed_on r.result _ _ _ r.ensures.1 (missed goal_line_checks c.args.self.now _ (λ _. refl) c.in_err-line.ensures.0 c.in_err-line.ensures.1)

pub returns : goal.returns
returns c =
    let k = c.in_ok-line.ensures in
    handed_back c.goal_in.result _ _ _ _ (met goal_line_checks _ _ _ k) (λ n e. (e ∙ read_as (λ l. value (field 0 l)) _ _ _ k, one_on _ _ _ k)) c.goal_in.ensures
