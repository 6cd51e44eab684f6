-- The figures by the weights that were read.
use Rattle.rings.proofs.cycle.ring_figures.Goals as goal

pub returns : goal.returns
returns g c = (c.in_ok-weights.ensures.0, c.work_out.ensures (g.R.Rack.service c.args.rack.now) c.in_ok-weights.ensures.1 c.in_ok-weights.ensures.3)
