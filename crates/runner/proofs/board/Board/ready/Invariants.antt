-- The first v tasks are judged.
use Rattle.std.proofs.Common.{◌≡◌, ℕ, ◌<◌, length}
use Rattle.flow.specs.Nets.{net_of}
use Rattle.runs.specs.States.{supplied}
use Rattle.runner.specs.Boards.{shown}
use Rattle.runner.specs.Serves.{marked}
use Rattle.runner.proofs.board.Board.ready.Given as goal

abbrev pub invariant-loop-v : goal.invariant-loop-v
invariant-loop-v l = (length l.ready ≡ 16) × ((u : ℕ) → u < l.v → marked l.ready u ≡ supplied (net_of l.graph) (shown l.self) u)
