-- The first of the three numbers that is out of its range, or the settings that they say.
use Rattle.std.proofs.Common.{◌++◌, sym, ap, ◌∙◌}
use Rattle.cells.specs.Checks.{first}
use Rattle.cells.specs.Values.{value}
use Rattle.cells.proofs.Firsts.{first_within, first_after}
use Rattle.cells.specs.Checks.{number_checks}
use Rattle.sheet_lines.specs.Values.{here}
use Rattle.sheet_lines.proofs.Columns.{passed_on, part_on, here_on}
use Rattle.sheet_lines.proofs.Handed.{handed_on}
use Rattle.sheet_lines.proofs.values.Values.settings.Goals as goal

pub returns-in_err-period : goal.returns-in_err-period
returns-in_err-period c =
    let f = c.args.self.now.fields in
    let a = number_checks c.args.low 65535 in
    let r = c.from_residual in
    handed_on r.result _ _ _ r.ensures.1 (first_within (here a 0 f) (here a 1 f ++ here (number_checks 0 65534) 2 f) _ c.in_err-period.ensures)

pub returns-in_err-slice : goal.returns-in_err-slice
returns-in_err-slice c =
    let f = c.args.self.now.fields in
    let a = number_checks c.args.low 65535 in
    let b = number_checks 0 65534 in
    let one = c.in_ok-period.ensures in
    let r = c.from_residual-in_err-slice in
    handed_on r.result _ _ _ r.ensures.1
    (first_after (here a 0 f) (here a 1 f ++ here b 2 f) one.0 ∙ first_within (here a 1 f) (here b 2 f) _ (ap first (sym (here_on a 1 0 f _ one.1.1)) ∙ c.in_err-slice.ensures))

pub returns-in_err-phase : goal.returns-in_err-phase
returns-in_err-phase c =
    let f = c.args.self.now.fields in
    let a = number_checks c.args.low 65535 in
    let b = number_checks 0 65534 in
    let one = c.in_ok-period.ensures in
    let two = c.in_ok-slice.ensures in
    let r = c.from_residual-in_err-phase in
    handed_on r.result _ _ _ r.ensures.1
    (first_after (here a 0 f) (here a 1 f ++ here b 2 f) one.0 ∙ first_after (here a 1 f) (here b 2 f) (ap first (sym (here_on a 1 0 f _ one.1.1)) ∙ two.0)
    ∙ ap first (sym (here_on b 2 0 f _ (passed_on 1 1 f _ _ one.1.1 two.1.1))) ∙ c.in_err-phase.ensures)

pub returns : goal.returns
returns c =
    let f = c.args.self.now.fields in
    let a = number_checks c.args.low 65535 in
    let b = number_checks 0 65534 in
    let one = c.in_ok-period.ensures in
    let two = c.in_ok-slice.ensures in
    let three = c.in_ok-phase.ensures in
    let on = passed_on 1 1 f _ _ one.1.1 two.1.1 in
    let period = one.1.0 in
    let slice = two.1.0 ∙ ap value (part_on 1 0 f _ one.1.1) in
    let phase = three.1.0 ∙ ap value (part_on 2 0 f _ on) in (
      first_after (here a 0 f) (here a 1 f ++ here b 2 f) one.0 ∙ first_after (here a 1 f) (here b 2 f) (ap first (sym (here_on a 1 0 f _ one.1.1)) ∙ two.0)
          ∙ ap first (sym (here_on b 2 0 f _ on)) ∙ three.0,
      (λ i. record { period = period i; slice = slice i; phase = phase i }, passed_on 2 1 f _ _ on three.1.1),
    )
