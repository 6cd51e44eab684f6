-- One text more, and all of them.
use Rattle.std.proofs.Common.{arith}
use Rattle.texts.proofs.Loops.{turn, halt, after}
use Rattle.texts.proofs.put_each.Goals as goal

pub returns-in_err-put_item : goal.returns-in_err-put_item
returns-in_err-put_item g c =
    λ text puts. halt text _ c.args.items.now c.loop-item.item-index c.item-item.result c.from_residual.result (omega arith) c.item-item.is (c.loop-item.invariant text puts) c.from_residual.ensures.1 (puts _ _ _ _ c.in_err-put_item.ensures)

pub loop-item-preserved : goal.loop-item-preserved
loop-item-preserved g c =
    λ text puts. turn text c.args.items.now c.loop-item.item-index c.item-item.result (omega arith) c.item-item.is (c.loop-item.invariant text puts) (puts _ _ _ _ c.in_ok-put_item.ensures)

pub returns : goal.returns
returns g c = λ text puts. after text c.args.items.now c.loop-item.item-index c.loop-item-test.false (c.loop-item.invariant text puts)
