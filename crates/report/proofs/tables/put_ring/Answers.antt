-- One line more, and all of them.
use Rattle.std.proofs.Common.{◌≡◌, ℕ, ◌<◌, List, length, get_or, arith}
use Rattle.std.proofs.lemmas.List.{get_or_default}
use Rattle.sheets.specs.Reads.{page}
use Rattle.texts.proofs.Loops.{turn, halt, after}
use Rattle.report.specs.Texts.{ring_line}
use Rattle.report.proofs.tables.put_ring.Goals as goal

same : (vs : List ℕ) (i : ℕ) → i < length vs → get_or vs i 0 ≡ get_or vs i (get_or vs i 0)
same vs i h = get_or_default vs i 0 (get_or vs i 0) h

pub loop-place-preserved : goal.loop-place-preserved
loop-place-preserved c =
    let vs = c.args.places.now in
    let i = c.loop-place.place-index in
    turn (ring_line (page c.args.sheet.now)) vs i (get_or vs i 0) (omega arith) (same vs i (omega arith)) c.loop-place.invariant c.in_ok-put_ring_task.ensures

pub returns-in_err-put_ring_task : goal.returns-in_err-put_ring_task
returns-in_err-put_ring_task c =
    let vs = c.args.places.now in
    let i = c.loop-place.place-index in
    let r = c.from_residual.result in
    halt (ring_line (page c.args.sheet.now)) _ vs i (get_or vs i 0) r (omega arith) (same vs i (omega arith)) c.loop-place.invariant c.from_residual.ensures.1 c.in_err-put_ring_task.ensures

pub returns : goal.returns
returns c = after (ring_line (page c.args.sheet.now)) c.args.places.now c.loop-place.place-index (omega arith) c.loop-place.invariant
