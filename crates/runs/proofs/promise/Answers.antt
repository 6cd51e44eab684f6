-- The promise holds on every rack.
use Rattle.flow.proofs.FinishRule.{graphs_sound}
use Rattle.runs.proofs.Forget.{Shows, on_time, steady}
use Rattle.runs.proofs.Pace.{paced}
use Rattle.runs.proofs.Exact.{exact, no_smaller}
use Rattle.runs.proofs.promise.Given as given
use Rattle.runs.proofs.promise.Goals as goal

shows : (g : given.Over) → Shows g.R.Rack.places g.R.Rack.service g.R.Rack.steps
shows g = record { keeps = g.met.R.Rack.keeps; moves = g.met.R.Rack.moves; others = g.met.R.Rack.others; stays = g.met.R.Rack.stays }

pub returns : goal.returns
returns g c = record {
  timely = on_time g.R.Rack.places g.R.Rack.service g.R.Rack.steps (shows g);
  paced = paced g.R.Rack.places g.R.Rack.service g.R.Rack.steps (shows g);
  exact = exact;
  smaller = no_smaller;
  steady = steady g.R.Rack.places g.R.Rack.service g.R.Rack.steps (shows g);
  sound = graphs_sound;
}
