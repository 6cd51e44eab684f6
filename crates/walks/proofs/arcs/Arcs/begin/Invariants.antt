-- The tasks so far are at their bases; no task has a walk.
use Rattle.std.proofs.Common.{◌≡◌, ℕ, ◌<◌, length, get_or, pos}
use Rattle.walks.specs.Arcs.{best_at}
use Rattle.walks.proofs.arcs.Arcs.begin.Given as goal

abbrev pub invariant-loop-task : goal.invariant-loop-task
invariant-loop-task l =
    (length l.bests ≡ 16)
    × ((v : ℕ) → v < l.task → (best_at l.bests v).value ≡ get_or l.self.bases.now v (pos 0))
    × ((v : ℕ) → v < 16 → (best_at l.bests v).count ≡ 0)
    × ((v : ℕ) → v < 16 → length (best_at l.bests v).walk ≡ 16)
