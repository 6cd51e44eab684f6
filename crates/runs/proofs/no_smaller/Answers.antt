-- No smaller bound is true in all phases.
use Rattle.runs.proofs.Exact.{no_smaller}
use Rattle.runs.proofs.no_smaller.Goals as goal

pub returns : goal.returns
returns c = no_smaller
