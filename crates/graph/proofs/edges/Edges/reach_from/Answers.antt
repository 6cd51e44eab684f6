-- One task is marked at first.
use Rattle.std.proofs.Common.{arith}
use Rattle.graph.proofs.Marks.{marks_one}
use Rattle.graph.proofs.edges.Edges.reach_from.Goals as goal

pub loop-init : goal.loop-init
loop-init c = marks_one c.args.self.now.list.now c.args.task 16 (omega arith)
