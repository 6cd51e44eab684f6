-- None so far is less.
use Rattle.std.proofs.Common.{ℕ, ◌<◌, ◌≤◌, length, get_or}
use Rattle.figures.proofs.critical.place_of_least.Given as goal

abbrev pub invariant-loop-i : goal.invariant-loop-i
invariant-loop-i l = (l.least < length l.tasks) × ((k : ℕ) → k < l.i → get_or l.tasks l.least 0 ≤ get_or l.tasks k 0)
