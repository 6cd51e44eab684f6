-- No task so far lies on a ring; no edge so far comes back to this one.
use Rattle.std.proofs.Common.{◌≡◌, ℕ, ◌<◌, None}
use Rattle.graph.specs.Edges.{FreeEdge, NoRing}
use Rattle.graph.specs.Reached.{Marked}
use Rattle.graph.proofs.edges.Edges.first_on_ring.Given as goal

abbrev pub invariant-search : goal.invariant-search
invariant-search l = (l.found ≡ None) × NoRing l.self.list.now l.task

abbrev pub invariant-loop-edge : goal.invariant-loop-edge
invariant-loop-edge l = (l.found ≡ None) × ((e a : ℕ) → e < l.edge-index → FreeEdge l.self.list.now a l.task e → Marked l.marked a → ⊥)
