-- One task more of the row, or a bound above the ceiling.
use Rattle.std.proofs.Common.{arith}
use Rattle.finish.proofs.Orders.{row_more, row_over}
use Rattle.finish.proofs.rows.fill_row.Goals as goal

pub returns-then-step-gt-CEILING : goal.returns-then-step-gt-CEILING
returns-then-step-gt-CEILING c = row_over c.args.waits.now.graph.now _ c.args.waits.now.n c.args.i c.loop-p.p c.arrival-arrival.result c.step.result c.args.waits.now.worst.now c.args.ready.now c.args.table.now c.loop-p.ready c.loop-p.table _ _ (omega (arith, c.loop-p-test.true, c.len-p-end.ensures)) c.requires.firing c.loop-p.invariant c.arrival-arrival.ensures.came c.step.ensures.stepped c.step.ensures.wrote c.if-step-gt-CEILING.true _

pub loop-p-preserved : goal.loop-p-preserved
loop-p-preserved c = row_more c.args.waits.now.graph.now _ c.args.waits.now.n c.args.i c.loop-p.p c.arrival-arrival.result c.step.result c.args.waits.now.worst.now c.args.ready.now c.args.table.now c.loop-p.ready c.loop-p.table _ _ (omega (arith, c.loop-p-test.true, c.len-p-end.ensures)) c.requires.firing c.loop-p.invariant c.arrival-arrival.ensures.came c.step.ensures.stepped c.step.ensures.wrote c.if-step-gt-CEILING.false
