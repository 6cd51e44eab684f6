-- The numbers so far, and 0 from there on.
use Rattle.std.proofs.Common.{◌≡◌, ℕ, ◌<◌, ◌≤◌, get_or, length}
use Rattle.figures.proofs.loads.of_tasks.Given as goal

abbrev pub invariant-loop-v : goal.invariant-loop-v
invariant-loop-v l = (length l.kept ≡ 16) × ((k : ℕ) → k < l.v → get_or l.kept k 0 ≡ get_or l.numbers k 0) × ((k : ℕ) → l.v ≤ k → get_or l.kept k 0 ≡ 0)
