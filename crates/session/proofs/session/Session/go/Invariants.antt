-- What is worked off so far; at each turn fewer lines are left.
use Rattle.std.proofs.Common.{length}
use Rattle.belt.specs.Belts.{contents}
use Rattle.session.proofs.Playing.{Working}
use Rattle.session.proofs.session.Session.go.Given as goal

abbrev pub invariant-loop-self : goal.invariant-loop-self
invariant-loop-self g l = Working g.R.Rack.places g.R.Rack.service g.R.Rack.steps l.fn.self l.fn.out l.calls l.self l.out

abbrev pub decreases-loop-self : goal.decreases-loop-self
decreases-loop-self g l = length (contents l.self.given)
