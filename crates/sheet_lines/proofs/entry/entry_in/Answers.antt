-- The shape, the fields, the name and the server, in this order.
use Rattle.std.proofs.Common.{◌≡◌, true, false, [], ◌++◌, Some, sym, ap, ◌∙◌, subst, arith}
use Rattle.std.proofs.lemmas.Bool.{ltb-true}
use Rattle.headings.specs.declared.table.Table.TheVariants.{Tasks}
use Rattle.cells.specs.Checks.{first}
use Rattle.cells.proofs.Firsts.{first_within}
use Rattle.sheets.specs.Pages.{Entry}
use Rattle.sheets.specs.Offers.{Made}
use Rattle.sheets.specs.Checks.{value_checks, entry_checks}
use Rattle.sheet_lines.proofs.Entries.{last_checks, past_shape, past_cells}
use Rattle.sheet_lines.proofs.Handed.{handed_on}
use Rattle.sheet_lines.proofs.entry.entry_in.Goals as goal
use Rattle.sheet_lines.proofs.entry.entry_in.Goals.{In_ok-must-2}

-- the shape is in order
shaped : (c : In_ok-must-2) → first (entry_checks c.args.above.now c.args.line.number c.args.line.text.now) ≡ first (value_checks [] Tasks c.args.line.number c.args.line.text.now ++ last_checks c.args.above.now c.args.line.number c.args.line.text.now)
shaped c =
    past_shape c.args.above.now c.args.line.number c.args.line.text.now (sym c.is_well.ensures ∙ c.in_ok-must.ensures.1)
    (omega (arith, c.len.ensures, ltb-true _ 16 c.in_ok-must-2.ensures.1))

pub returns-in_err-task : goal.returns-in_err-task
returns-in_err-task c =
    let l = c.args.line in
    let ns = c.args.above.now in
    let r = c.from_residual-in_err-task in
    handed_on r.result _ (entry_checks ns l.number l.text.now) _ r.ensures.1
    (shaped (goal.at.returns-in_err-task c).In_ok-must-2 ∙ first_within (value_checks [] Tasks l.number l.text.now) (last_checks ns l.number l.text.now) _ c.in_err-task.ensures)

pub returns-then-is_taken : goal.returns-then-is_taken
returns-then-is_taken c =
    let k = c.in_ok-task.ensures in
    shaped (goal.at.returns-then-is_taken c).In_ok-must-2
    ∙ past_cells c.args.above.now c.args.line.number c.args.line.text.now c.in_ok-task.task c.as_bytes.result.now true k.0 k.1 c.as_bytes.ensures c.if-is_taken.ensures
    ∙ ap Some (sym c.refuses.ensures)

pub returns-in_err-server : goal.returns-in_err-server
returns-in_err-server c =
    let k = c.in_ok-task.ensures in
    let r = c.from_residual-in_err-server in
    handed_on r.result _ (entry_checks c.args.above.now c.args.line.number c.args.line.text.now) _ r.ensures.1
    (shaped (goal.at.returns-in_err-server c).In_ok-must-2
    ∙ past_cells c.args.above.now c.args.line.number c.args.line.text.now c.in_ok-task.task c.as_bytes.result.now false k.0 k.1 c.as_bytes.ensures c.if-is_taken.ensures ∙ c.in_err-server.ensures)

pub returns : goal.returns
returns c =
    let k = c.in_ok-task.ensures in
    let s = c.in_ok-server.ensures in (
      shaped (goal.at.returns c).In_ok-must-2
          ∙ past_cells c.args.above.now c.args.line.number c.args.line.text.now c.in_ok-task.task c.as_bytes.result.now false k.0 k.1 c.as_bytes.ensures c.if-is_taken.ensures ∙ s.0,
      (k.1, subst (λ (e : Entry). Made e c.in_ok-server.server) k.1 s.1),
    )
