-- The line under way, and then those that lie on the belt.
use Rattle.std.proofs.Common.{◌+◌, ◌≤◌, vec_capacity, refl, subst, arith}
use Rattle.player.specs.Players.{Went}
use Rattle.player.specs.Works.{call_room}
use Rattle.session.specs.Sessions.{full}
use Rattle.session.proofs.Playing.{working_line, working_more}
use Rattle.session.proofs.session.Session.go.Goals as goal

pub loop-self-init : goal.loop-self-init
loop-self-init g c =
    let space : full + call_room ≤ vec_capacity c.reserve.new.self = omega (arith, c.in_ok-reserve.ensures.ok) in
    working_line g.R.Rack.places g.R.Rack.service g.R.Rack.steps c.args.self.now _ c.args.out.now c.reserve.new.self c.go.new.out _ c.reserve.ensures.items c.reserve.ensures.capacity space refl refl
    (subst (λ r. Went g.R.Rack.places g.R.Rack.service g.R.Rack.steps c.args.self.now.player c.reserve.new.self full r c.go.new.self c.go.new.out) c.unwrap-calls.ensures c.go.ensures)

pub loop-self-preserved : goal.loop-self-preserved
loop-self-preserved g c =
    working_more g.R.Rack.places g.R.Rack.service g.R.Rack.steps c.args.self.now c.loop-self.self c.work_off-calls.new.self c.in-Some.given _ c.args.out.now c.loop-self.out c.work_off-calls.new.out c.loop-self.calls c.work_off-calls.result c.if-calls-lt-CALLS.true c.loop-self.invariant c.in-Some.ensures.0 c.in-Some.ensures.1 refl refl c.work_off-calls.ensures
