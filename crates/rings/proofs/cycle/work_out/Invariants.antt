-- The best ring is kept.
use Rattle.rings.specs.Cycles.{Kept}
use Rattle.rings.proofs.cycle.work_out.Given as goal

abbrev pub invariant-loop : goal.invariant-loop
invariant-loop l = Kept l.graph l.weights l.best
