-- The sample's run.
use Rattle.runs.proofs.Sample.{sample}
use Rattle.runs.proofs.sample_run.Goals as goal

pub returns : goal.returns
returns c = sample
