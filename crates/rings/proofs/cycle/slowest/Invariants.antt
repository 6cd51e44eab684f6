-- No task so far has a greater pace.
use Rattle.std.proofs.Common.{ℕ, ◌<◌, ◌≤◌, get_or, vec_len}
use Rattle.rings.proofs.cycle.slowest.Given as goal

abbrev pub invariant-loop-v : goal.invariant-loop-v
invariant-loop-v l = (l.best < vec_len l.graph.tasks) × ((k : ℕ) → k < l.v → get_or l.paces k 0 ≤ get_or l.paces l.best 0)
