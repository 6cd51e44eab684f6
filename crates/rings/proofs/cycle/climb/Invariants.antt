-- The best ring is kept; its ratio grows.
use Rattle.std.proofs.Common.{◌-◌, ◌*◌}
use Rattle.rings.specs.Cycles.{Kept}
use Rattle.rings.proofs.Growing.{steps}
use Rattle.rings.proofs.cycle.climb.Given as goal

abbrev pub invariant-tries : goal.invariant-tries
invariant-tries l = Kept l.graph l.weights l.best

abbrev pub decreases-tries : goal.decreases-tries
decreases-tries l = 16646400 * 16000000000000 - steps l.best.ratio.cycle l.best.ratio.parts
