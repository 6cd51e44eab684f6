-- A line that is missing, or is not the heading.
use Rattle.std.proofs.Common.{refl}
use Rattle.headings.specs.Tables.{heading}
use Rattle.sheets.specs.Checks.{exact_checks}
use Rattle.sheet_lines.proofs.Handed.{handed_on, handed_back}
use Rattle.reader.proofs.Numbered.{missed, met, one_on}
use Rattle.reader.proofs.numbered_lines.NumberedLines.heading.Goals as goal

pub returns-in_err-line : goal.returns-in_err-line
returns-in_err-line c =
    let r = c.from_residual in
    handed_on r.result _ _ _ r.ensures.1 (missed (exact_checks (heading c.args.table)) c.args.self.now _ (λ _. refl) c.in_err-line.ensures.0 c.in_err-line.ensures.1)

pub returns : goal.returns
returns c =
    let k = c.in_ok-line.ensures in
    handed_back c.heading_in.result _ _ _ _ (met (exact_checks (heading c.args.table)) _ _ _ k) (λ _ _. one_on _ _ _ k) c.heading_in.ensures
