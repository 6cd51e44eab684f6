-- Records come in order, and none is early.
use Rattle.runs.proofs.Order.{records}
use Rattle.runs.proofs.Early.{not_early}
use Rattle.runs.proofs.records.Goals as goal

pub returns : goal.returns
returns g c = record {
  in_order = records g.R.Rack.places g.R.Rack.steps;
  not_early = not_early g.R.Rack.places g.R.Rack.steps;
}
