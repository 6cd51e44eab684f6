-- One call more, and where memory lacks.
use Rattle.std.proofs.Common.{◌<◌, arith}
use Rattle.std.proofs.lemmas.Result.{err_from_is_err_and}
use Rattle.player.specs.Works.{calls_at_once}
use Rattle.player.proofs.Stepping.{gone_none, gone_more, gone_starved}
use Rattle.player.proofs.player.Player.go.Goals as goal

pub loop-self-init : goal.loop-self-init
loop-self-init g c = gone_none g.R.Rack.places g.R.Rack.service g.R.Rack.steps _ _ _

pub loop-self-preserved : goal.loop-self-preserved
loop-self-preserved g c =
    let busy : 0 < c.loop-self.self.work.left = omega (arith, c.loop-self-test.true) in
    let fewer : c.loop-self.calls < calls_at_once = c.if-calls-lt-CALLS.true in
    gone_more g.R.Rack.places g.R.Rack.service g.R.Rack.steps _ _ _ _ _ _ _ _ c.loop-self.invariant fewer busy (omega (arith, c.if-len-most.true, c.len.ensures)) c.in_ok-step.ensures

pub returns-in_err-step : goal.returns-in_err-step
returns-in_err-step g c =
    let p = err_from_is_err_and c.from_residual.result c.from_residual.ensures.1 in
    let fewer : c.loop-self.calls < calls_at_once = c.if-calls-lt-CALLS.true in
    let s = gone_starved g.R.Rack.places g.R.Rack.service g.R.Rack.steps _ _ _ _ _ _ _ _ fewer (omega (arith, c.if-len-most.true, c.len.ensures)) c.loop-self.invariant c.in_err-step.ensures in
    rw p.1 (c.loop-self.calls, s.0, s.1, s.2, s.3)
