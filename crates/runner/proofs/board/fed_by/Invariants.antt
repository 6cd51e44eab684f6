-- The first e edges are looked at.
use Rattle.std.proofs.Common.{◌≡◌, ℕ, ◌<◌, ◌≤◌, length, slice_index, Decides}
use Rattle.graph.specs.Edges.{edge_at}
use Rattle.runner.specs.Serves.{marked}
use Rattle.runner.proofs.board.fed_by.Given as goal

abbrev pub invariant-loop-e : goal.invariant-loop-e
invariant-loop-e l = (length l.marks ≡ 16) × ((v : ℕ) → v < 16 → Decides (marked l.marks v) ((e : ℕ) → e < l.e → (edge_at l.edges e).to ≡ v → 1 ≤ slice_index l.held e))
