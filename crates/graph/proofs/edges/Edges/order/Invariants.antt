-- The first p tasks are placed.
use Rattle.std.proofs.Common.{◌≡◌}
use Rattle.graph.specs.Ordered.{Ordered}
use Rattle.graph.proofs.edges.Edges.order.Given as goal

abbrev pub invariant-loop-p : goal.invariant-loop-p
invariant-loop-p l = (l.order.tasks ≡ l.self.tasks) × Ordered l.self.list.now l.order.place l.p
