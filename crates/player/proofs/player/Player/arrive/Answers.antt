-- The runs go on with the arrival, or with its refusal.
use Rattle.std.proofs.Common.{ℕ, refl, ◌∙◌, subst}
use Rattle.std.proofs.lemmas.Result.{err_from_is_err_and}
use Rattle.finish.specs.Ledgers.{Admits}
use Rattle.player.proofs.Following.{arrive_refused, arrive_does}
use Rattle.player.proofs.player.Player.arrive.Goals as goal

pub returns-in_err-arrive-clause-does : goal.returns-in_err-arrive-clause-does
returns-in_err-arrive-clause-does g c =
    let p = err_from_is_err_and c.from_residual.result c.from_residual.ensures.1 in
    rw (p.1, p.2) (arrive_refused g.R.Rack.places g.R.Rack.service g.R.Rack.steps c.args.self.now _ c.args.task c.in_err-arrive.field-0.0 refl refl refl c.in_err-arrive.ensures.answers c.in_err-arrive.ensures.turns)

pub returns-clause-does : goal.returns-clause-does
returns-clause-does g c =
    let h = c.in_ok-arrive.ensures in
    arrive_does g.R.Rack.places g.R.Rack.service g.R.Rack.steps c.args.self.now _ c.args.task refl refl h.answers h.turns
    (subst (λ (k : ℕ). Admits c.args.self.now.ledger c.args.task k c.arrive-2.new.self) (c.clock.ensures ∙ h.turns.2.clock) c.arrive-2.ensures.admits)
