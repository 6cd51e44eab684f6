-- The calls so far, of which fewer are left at each turn.
use Rattle.player.specs.Players.{Gone}
use Rattle.player.proofs.player.Player.go.Given as goal

abbrev pub invariant-loop-self : goal.invariant-loop-self
invariant-loop-self g l = Gone g.R.Rack.places g.R.Rack.service g.R.Rack.steps l.fn.self l.fn.out l.fn.most l.calls l.self l.out

abbrev pub decreases-loop-self : goal.decreases-loop-self
decreases-loop-self g l = l.self.work.left
