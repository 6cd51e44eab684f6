-- The largest over the edges so far.
use Rattle.std.proofs.Common.{◌-◌}
use Rattle.flow.specs.Nets.{net_of}
use Rattle.flow.specs.Finish.{Feeds}
use Rattle.finish.specs.Filling.{IsLargest, entry}
use Rattle.finish.proofs.step.Waits.ready_at.Given as goal

abbrev pub invariant-loop-edge : goal.invariant-loop-edge
invariant-loop-edge l = IsLargest (Feeds (net_of l.self.graph.now) l.v l.i) (λ e. entry l.table l.self.n ((net_of l.self.graph.now).from e) (l.i - (net_of l.self.graph.now).tokens e)) l.arrival l.edge-index l.ready
