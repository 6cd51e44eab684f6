-- The values so far.
use Rattle.std.proofs.Common.{◌≡◌, ℕ, ◌<◌, get_or, length, pos}
use Rattle.walks.specs.Arcs.{best_at}
use Rattle.walks.proofs.search.values.Given as goal

abbrev pub invariant-loop-task : goal.invariant-loop-task
invariant-loop-task l = (length l.values ≡ 16) × ((k : ℕ) → k < l.task → get_or l.values k (pos 0) ≡ (best_at l.bests k).value)
