-- That ring figures are unique, and can be had, cited.
use Rattle.flow.proofs.RingFigures.{one_start, one_cycle, lone_figures}
use Rattle.flow.proofs.ring_figures.Goals as goal

pub returns : goal.returns
returns c = record { start = one_start; cycle = one_cycle; lone = lone_figures }
