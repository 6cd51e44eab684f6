-- The bound on all rings, cited.
use Rattle.flow.proofs.Potential.{potential}
use Rattle.flow.proofs.potential_bounds_rings.Goals as goal

pub returns : goal.returns
returns c = potential
