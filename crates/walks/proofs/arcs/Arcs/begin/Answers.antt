-- At the end each task is at its base.
use Rattle.std.proofs.Common.{arith}
use Rattle.walks.proofs.arcs.Arcs.begin.Goals as goal

pub returns : goal.returns
returns c = record {
  tasks = c.loop-task.invariant.0;
  value = λ v h. c.loop-task.invariant.1 v (omega arith);
  count = c.loop-task.invariant.2;
  room = c.loop-task.invariant.3;
}
