-- The times of the first r inlets do not fall.
use Rattle.std.proofs.Common.{ℕ, ◌<◌}
use Rattle.finish.specs.Table.{Rises}
use Rattle.finish.proofs.checks.all_rise.Given as goal

abbrev pub invariant-loop-r : goal.invariant-loop-r
invariant-loop-r l = (q : ℕ) → q < l.r → Rises l.times l.n q l.n
