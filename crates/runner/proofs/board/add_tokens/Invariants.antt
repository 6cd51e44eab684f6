-- The first v tasks are done.
use Rattle.std.proofs.Common.{◌≡◌, ℕ, ◌+◌, ◌<◌, ◌≤◌, ◌&&◌, nat_lt, length, slice_index}
use Rattle.graph.specs.Edges.{edge_at}
use Rattle.runs.specs.States.{one}
use Rattle.runner.specs.Serves.{marked}
use Rattle.runner.proofs.board.add_tokens.Given as goal

abbrev pub invariant-loop-v : goal.invariant-loop-v
invariant-loop-v l =
    (length l.held ≡ 48)
    × ((e : ℕ) → e < length l.edges → slice_index l.held e ≡ slice_index l.initial.held e + one (nat_lt (edge_at l.edges e).from l.v && marked l.ends (edge_at l.edges e).from))
    × ((e : ℕ) → length l.edges ≤ e → slice_index l.held e ≡ slice_index l.initial.held e)
