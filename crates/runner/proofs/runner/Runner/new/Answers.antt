-- A run begins with a new runner.
use Rattle.std.proofs.Common.{rules, refl, arith}
use Rattle.graph.specs.Racked.{Racked}
use Rattle.runs.specs.Runs.{begin}
use Rattle.runner.proofs.runner.Runner.new.Goals as goal

pub returns : goal.returns
returns g c =
    let racked : Racked c.args.graph (g.R.Rack.places c.args.rack) (g.R.Rack.service c.args.rack) = search rules in (
      racked,
      record {
        its_graph = refl;
        its_rack = refl;
        stands = c.new-board.ensures.stands;
        led = λ slots. record { fits = omega (arith, racked.0); run = begin; stands = c.new-board.ensures.stands };
      },
    )
