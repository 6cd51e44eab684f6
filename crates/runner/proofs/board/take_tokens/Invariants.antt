-- The first e edges are done.
use Rattle.std.proofs.Common.{◌≡◌, ℕ, ◌-◌, ◌<◌, ◌≤◌, length, slice_index}
use Rattle.graph.specs.Edges.{edge_at}
use Rattle.runs.specs.States.{one}
use Rattle.runner.specs.Serves.{marked}
use Rattle.runner.proofs.board.take_tokens.Given as goal

abbrev pub invariant-loop-e : goal.invariant-loop-e
invariant-loop-e l =
    (length l.held ≡ 48)
    × ((e : ℕ) → e < l.e → slice_index l.held e ≡ slice_index l.initial.held e - one (marked l.starts (edge_at l.edges e).to))
    × ((e : ℕ) → l.e ≤ e → slice_index l.held e ≡ slice_index l.initial.held e)
