-- Each tick that is not granted brings the grant nearer.
use Rattle.serving.proofs.Waiting.{missed_more, missed_ends}
use Rattle.serving.proofs.wait_for_grant.Invariants.{model}
use Rattle.serving.proofs.wait_for_grant.Goals as goal

pub loop-missed-preserved : goal.loop-missed-preserved
loop-missed-preserved g c =
    missed_more (model g) c.args.server.now c.loop-missed.server c.tick.new.self c.args.claimed c.tick.result c.loop-missed.missed
    c.loop-missed.invariant c.tick.ensures c.loop-missed-test.true

pub returns : goal.returns
returns g c =
    missed_ends (model g) c.args.server.now c.loop-missed.server c.tick.new.self c.args.claimed c.tick.result c.loop-missed.missed
    c.loop-missed.invariant c.tick.ensures c.loop-missed-test.false
