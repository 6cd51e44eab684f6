-- The runs go on with the need, or with its refusal.
use Rattle.std.proofs.Common.{refl}
use Rattle.player.proofs.Following.{need_does}
use Rattle.player.proofs.player.Player.need.Goals as goal

pub returns-clause-does : goal.returns-clause-does
returns-clause-does g c =
    need_does g.R.Rack.places g.R.Rack.service g.R.Rack.steps c.args.self.now _ c.args.task c.args.ticks c.need.result refl refl refl c.need.ensures.answers c.need.ensures.turns
