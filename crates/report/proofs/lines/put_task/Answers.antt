-- The rack tells the task's figures, and they are the sheet's.
use Rattle.std.proofs.Common.{arith}
use Rattle.texts.proofs.Chains.{same_text}
use Rattle.report.proofs.Planned.{tasks_are_many}
use Rattle.report.proofs.Told.{tells, line_is}
use Rattle.report.proofs.lines.put_task.Goals as goal

pub unwrap-told-requires : goal.unwrap-told-requires
unwrap-told-requires c =
    let s = c.args.sheet.now in
    let p = c.requires.planned in
    tells s c.args.place c.index-task.result.now p c.requires.there c.index-task.ensures c.figures_at.result (c.figures_at.ensures.there (omega (arith, p.fits.0, tasks_are_many s p)))

pub returns : goal.returns
returns c =
    let s = c.args.sheet.now in
    let p = c.requires.planned in
    let text = line_is s c.args.place c.index-task.result.now p c.requires.there c.index-task.ensures c.figures_at.result c.unwrap-told.result _ _ _ (c.figures_at.ensures.there (omega (arith, p.fits.0, tasks_are_many s p))) c.unwrap-told.ensures c.as_bytes.ensures in
    same_text _ _ c.put_line.result text c.put_line.ensures
