-- In phase 4 firing 1 ends at its bound.
use Rattle.runs.proofs.Exact.{phase_4}
use Rattle.runs.proofs.worked_phase.Goals as goal

pub returns : goal.returns
returns c = phase_4
