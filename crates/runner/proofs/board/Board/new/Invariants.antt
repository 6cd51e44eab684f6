-- The tasks and edges so far are as a new runner's; the others have nothing.
use Rattle.std.proofs.Common.{◌≡◌, ℕ, ◌<◌, ◌≤◌, length, slice_index}
use Rattle.graph.specs.Edges.{edge_at}
use Rattle.graph.specs.Legal.{task_at}
use Rattle.runner.specs.Tasks.{task_in}
use Rattle.runner.specs.declared.task.Stage.TheVariants.{Idle}
use Rattle.runner.proofs.board.Board.new.Given as goal

abbrev pub invariant-loop-v : goal.invariant-loop-v
invariant-loop-v l =
    (length l.tasks ≡ 16)
    × ((u : ℕ) → (task_in l.tasks u).fired ≡ 0)
    × ((u : ℕ) → (task_in l.tasks u).waiting ≡ 0)
    × ((u : ℕ) → (task_in l.tasks u).stage ≡ Idle)
    × ((u : ℕ) → u < 16 → 1 ≤ (task_in l.tasks u).need)
    × ((u : ℕ) → u < l.v → (task_in l.tasks u).need ≡ (task_at l.graph.tasks.items u).time)

abbrev pub invariant-loop-e : goal.invariant-loop-e
invariant-loop-e l =
    (length l.held ≡ 48)
    × ((e : ℕ) → slice_index l.held e ≤ 255)
    × ((e : ℕ) → e < l.e → slice_index l.held e ≡ (edge_at l.graph.edges.items e).tokens)
