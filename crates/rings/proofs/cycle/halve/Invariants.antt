-- The best ring is kept, and what is tried is no more than a ring may weigh.
use Rattle.std.proofs.Common.{◌≤◌}
use Rattle.rings.specs.Cycles.{Kept}
use Rattle.rings.proofs.cycle.halve.Given as goal

abbrev pub invariant-loop : goal.invariant-loop
invariant-loop l = (l.high ≤ 16000000000000) × Kept l.graph l.weights l.best
