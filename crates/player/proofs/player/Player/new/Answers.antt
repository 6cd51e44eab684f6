-- A run begins.
use Rattle.std.proofs.Common.{ap, refl}
use Rattle.flow.specs.Nets.{net_of}
use Rattle.player.proofs.Following.{follows_on}
use Rattle.player.proofs.player.Player.new.Goals as goal

pub returns : goal.returns
returns g c =
    let l = c.in_ok-ledger.ensures in
    let r = c.in-Ok.ensures in (
      l.0,
      record {
        its_tasks = refl;
        its_graph = r.1.its_graph;
        whole = _;
        follows = follows_on g.R.Rack.places g.R.Rack.service g.R.Rack.steps c.args.rack _ _ _ _ (net_of c.args.graph) (ap net_of r.1.its_graph) (r.1.led _) c.new-3.ensures.room refl (λ _. 0) (λ v h. refl) l.1;
        idle = refl;
      },
    )
