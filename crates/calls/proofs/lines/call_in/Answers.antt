-- The line's shape, and then field by field.
use Rattle.std.proofs.Common.{◌≡◌, true, false, sym, ◌∙◌, rules, tests}
use Rattle.cells.specs.Bytes.{well}
use Rattle.cells.specs.Checks.{first}
use Rattle.sheets.specs.Checks.{empty}
use Rattle.sheet_lines.proofs.Handed.{handed_on, handed_back}
use Rattle.calls.specs.Checks.{call_checks}
use Rattle.calls.specs.Written.{fields_of, written}
use Rattle.calls.proofs.Read.{behind, checks_of, shaped, no_word, all_three, line_written}
use Rattle.calls.proofs.lines.call_in.Goals as goal
use Rattle.calls.proofs.lines.call_in.Goals.{In_ok-fields}

in_order : (c : In_ok-fields) → well c.args.line.text.now ≡ true
in_order c = sym c.is_well.ensures ∙ c.in_ok-must.ensures.1

by_field : (c : In_ok-fields) → first (call_checks c.args.line.number c.args.line.text.now) ≡ first (checks_of c.in_ok-fields.fields)
by_field c =
    let filled : empty c.args.line.text.now ≡ false = search (rules, tests, sym c.is_gap.ensures, c.in_ok-must-2.ensures.1) in
    shaped c.args.line.number c.args.line.text.now c.in_ok-fields.fields (in_order c) filled c.in_ok-fields.ensures.1

pub returns-in_err-word : goal.returns-in_err-word
returns-in_err-word c =
    let l = c.args.line in
    let r = c.from_residual-in_err-word in
    handed_on r.result _ (call_checks l.number l.text.now) _ r.ensures.1
    (no_word c.in_ok-fields.fields (call_checks l.number l.text.now) _ (by_field (goal.at.returns-in_err-word c).In_ok-fields) c.in_err-word.ensures)

pub returns : goal.returns
returns c =
    let l = c.args.line in
    let k = (goal.at.returns c).In_ok-fields in
    let f = c.in_ok-fields.fields in
    let w = c.in_ok-word.word in
    handed_back c.call_of.result (call_checks l.number l.text.now) (behind w f) (λ c. fields_of c ≡ _) (λ c. l.text.now ≡ written c)
    (all_three f w (call_checks l.number l.text.now) (by_field k) c.in_ok-word.ensures.0 c.in_ok-word.ensures.1)
    (λ x. line_written l.number l.text.now f w x (in_order k) c.in_ok-fields.ensures.1 c.in_ok-word.ensures.1) c.call_of.ensures
