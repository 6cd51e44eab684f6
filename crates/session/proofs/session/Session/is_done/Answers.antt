-- Below a refused line nothing is read.
use Rattle.std.proofs.Common.{◌≡◌, Bool, true, false, not, IsTrue, refl}
use Rattle.session.proofs.Playing.{finishes}
use Rattle.session.proofs.session.Session.is_done.Goals as goal

not_busy : (b : Bool) → IsTrue (not b) → b ≡ false
not_busy true h = absurd cc
not_busy false h = refl

pub returns-then-is_over-clause-whole : goal.returns-then-is_over-clause-whole
returns-then-is_over-clause-whole g c over = finishes g.R.Rack.places g.R.Rack.service g.R.Rack.steps c.args.self.now (c.is_busy.ensures.0 (not_busy c.is_busy.result over)) (c.if-is_over.ensures.whole refl)
