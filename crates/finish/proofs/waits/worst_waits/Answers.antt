-- One wait more is told.
use Rattle.std.proofs.Common.{arith}
use Rattle.finish.proofs.Waitings.{waiting_more}
use Rattle.finish.proofs.waits.worst_waits.Goals as goal

pub loop-j-preserved : goal.loop-j-preserved
loop-j-preserved g c = waiting_more _ _ c.args.n c.loop-v.v c.loop-j.j c.wait_of.result c.loop-j.worst (omega (arith, c.loop-v-test.true, c.len-v-end.ensures)) c.loop-j-test.true (omega (arith, c.requires.wide, c.loop-j.auto.worst, c.loop-v.auto.worst)) c.wait_of.ensures c.loop-j.invariant
