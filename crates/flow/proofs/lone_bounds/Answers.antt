-- The finish bounds of one task alone, cited.
use Rattle.flow.proofs.Lone.{lone_bounds}
use Rattle.flow.proofs.lone_bounds.Goals as goal

pub returns : goal.returns
returns c = lone_bounds
