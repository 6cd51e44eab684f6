-- A push keeps what the rounds keep, or closes a ring.
use Rattle.std.proofs.Common.{◌≡◌, ℕ, ◌<◌, subst, sym, length, add-one, arith}
use Rattle.walks.specs.Arcs.{net, Closes}
use Rattle.walks.proofs.Turns.{Held, held_none}
use Rattle.walks.proofs.Added.{state, begun, first_turn, next_turn, at_last, short, high, on_arcs, to_closes, not_closed}
use Rattle.walks.proofs.arcs.Arcs.rounds.Goals as goal

pub loop-round-init : goal.loop-round-init
loop-round-init c =
    let a = c.args.self.now in
    let bs = c.args.bests.now in
    (begun a.list.now a.bases.now a.sound bs c.requires.begun, held_none (net a.list.now a.bases.now) (state a.list.now a.bases.now bs) (length a.list.now))

pub loop-e-init : goal.loop-e-init
loop-e-init c =
    let a = c.args.self.now in
    first_turn a.list.now a.bases.now c.loop-round.bests c.loop-round.round c.loop-round.invariant.0 c.loop-round.invariant.1

pub push-requires-clause-count : goal.push-requires-clause-count
push-requires-clause-count c =
    let a = c.args.self.now in
    let h : c.loop-e.e < length a.list.now = c.loop-e-test.true in
    omega (arith, short a.list.now a.bases.now a.sound c.loop-e.bests c.loop-e.invariant.stands _ (a.sound.ends c.loop-e.e h).0, a.sound.tasks)

pub push-requires-clause-walk : goal.push-requires-clause-walk
push-requires-clause-walk c =
    let a = c.args.self.now in
    let h : c.loop-e.e < length a.list.now = c.loop-e-test.true in
    on_arcs a.list.now a.bases.now a.sound c.loop-e.bests c.loop-e.invariant.stands _ (a.sound.ends c.loop-e.e h).0

pub push-requires-clause-high : goal.push-requires-clause-high
push-requires-clause-high c =
    let a = c.args.self.now in
    let h : c.loop-e.e < length a.list.now = c.loop-e-test.true in
    high a.list.now a.bases.now a.sound c.loop-e.bests c.loop-e.invariant.stands _ (a.sound.ends c.loop-e.e h).0

pub returns-in-Closed : goal.returns-in-Closed
returns-in-Closed c =
    let a = c.args.self.now in
    let told = c.in-Closed.ensures in
    subst (λ l. Closes a.list.now a.bases.now l c.loop-e.e c.in-Closed.place) (sym told.0)
    (to_closes a.list.now a.bases.now a.sound c.loop-e.bests c.loop-e.invariant.stands c.loop-e.e c.loop-e-test.true c.in-Closed.place c.push.new.bests told)

pub loop-e-preserved : goal.loop-e-preserved
loop-e-preserved c =
    let a = c.args.self.now in
    rw add-one (next_turn a.list.now a.bases.now a.sound c.loop-e.bests c.push.new.bests c.loop-round.round c.loop-e.e c.loop-e-test.true c.loop-e.invariant c.push.result c.push.ensures (not_closed c.push.result c.in-Kept.is))

pub returns : goal.returns
returns c =
    let a = c.args.self.now in
    let bs = c.loop-round.bests in
    let all : c.loop-round.round ≡ length a.bases.now = omega arith in
    at_last a.list.now a.bases.now a.sound bs c.loop-round.invariant.0
    (subst (λ (k : ℕ). Held (net a.list.now a.bases.now) (state a.list.now a.bases.now bs) k (length a.list.now)) all c.loop-round.invariant.1)
