-- The arcs so far.
use Rattle.std.proofs.Common.{◌≡◌, ℕ, ◌<◌, length}
use Rattle.graph.specs.Edges.{edge_at}
use Rattle.walks.specs.Arcs.{arc_at}
use Rattle.rings.specs.Spans.{arc_of}
use Rattle.rings.proofs.arcs.arcs.Given as goal

abbrev pub invariant-loop-e : goal.invariant-loop-e
invariant-loop-e l = (length l.arcs ≡ 48) × ((k : ℕ) → k < l.e → arc_at l.arcs k ≡ arc_of l.spans l.ratio.cycle l.ratio.parts (edge_at l.graph.edges.items k))
