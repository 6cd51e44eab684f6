-- One line more, and all of them.
use Rattle.std.proofs.Common.{ℕ, ◌≡◌, ◌<◌, get_or, vec_len, sym, ◌∙◌, arith, zero-add}
use Rattle.std.specs.List.{range_with_len}
use Rattle.std.proofs.lemmas.List.FromFn.{length-range_with_len, get_or-range_with_len}
use Rattle.sheets.specs.Reads.{page}
use Rattle.texts.proofs.Loops.{turn, halt, after}
use Rattle.report.specs.Texts.{task_line}
use Rattle.report.proofs.tables.put_tasks.Goals as goal

-- place v is the v-th
counted : (n v : ℕ) → v < n → v ≡ get_or (range_with_len 0 n) v v
counted n v h = sym (get_or-range_with_len 0 n v v h ∙ zero-add v)

pub loop-place-preserved : goal.loop-place-preserved
loop-place-preserved c =
    let s = c.args.sheet.now in
    let n = vec_len s.tasks in
    let v = c.loop-place.place in
    turn (task_line (page s) c.args.figures.now) (range_with_len 0 n) v v (omega (arith, length-range_with_len 0 n)) (counted n v (omega arith)) c.loop-place.invariant c.in_ok-put_task.ensures

pub returns-in_err-put_task : goal.returns-in_err-put_task
returns-in_err-put_task c =
    let s = c.args.sheet.now in
    let n = vec_len s.tasks in
    let v = c.loop-place.place in
    let r = c.from_residual.result in
    halt (task_line (page s) c.args.figures.now) _ (range_with_len 0 n) v v r (omega (arith, length-range_with_len 0 n)) (counted n v (omega arith)) c.loop-place.invariant c.from_residual.ensures.1 c.in_err-put_task.ensures

pub returns : goal.returns
returns c =
    let s = c.args.sheet.now in
    let n = vec_len s.tasks in
    after (task_line (page s) c.args.figures.now) (range_with_len 0 n) c.loop-place.place (omega (arith, length-range_with_len 0 n)) c.loop-place.invariant
