-- The laws of margin, verdict and load, cited.
use Rattle.flow.proofs.Verdicts.{keeps_by_margin, keeps_by_cycle, one_rounded, one_load}
use Rattle.flow.proofs.verdict_says_goal.Goals as goal

pub returns : goal.returns
returns c = record { margin = keeps_by_margin; cycle = keeps_by_cycle; rounded = one_rounded; load = one_load }
