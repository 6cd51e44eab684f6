-- Each grant fills a slot; every server grants in time.
use Rattle.std.proofs.Common.{◌+◌, ◌≤◌, length, take, arith}
use Rattle.std.proofs.lemmas.List.{length-take-le}
use Rattle.servers.specs.Figures.{ceiling}
use Rattle.servers.proofs.RunLaws.{in_time}
use Rattle.serving.proofs.Waiting.{part_near, part_slot}
use Rattle.serving.proofs.serve.Invariants.{model}
use Rattle.serving.proofs.serve.Given as given
use Rattle.serving.proofs.serve.Goals as goal

pub returns-in_err-worst-clause-in_time : goal.returns-in_err-worst-clause-in_time
returns-in_err-worst-clause-in_time g c = in_time (model g)

near : (g : given.Over) (c : goal.After-wait_for_grant g) → c.loop-time.clock + (c.wait_for_grant.result + 1) ≤ ceiling
near g c =
    let l = c.loop-time in
    let size = length-take-le l.time-index l.times (omega arith) in
    omega (arith, c.wait_for_grant.ensures.sooner 0, part_near (model g) c.args.server.now l.server c.args.claimed l.clock (length c.args.times.now) (take l.time-index l.times) l.invariant (omega arith) c.in_ok-worst.ensures.1)

pub overflow_add-clock : goal.overflow_add-clock
overflow_add-clock g c = omega (arith, near g c)

pub overflow_add-clock-in-loop-time : goal.overflow_add-clock-in-loop-time
overflow_add-clock-in-loop-time g c = omega (arith, near g c)

pub loop-time-preserved : goal.loop-time-preserved
loop-time-preserved g c =
    let l = c.loop-time in
    part_slot (model g) c.args.server.now l.server c.wait_for_grant.new.server c.args.claimed l.clock l.time-index c.wait_for_grant.result l.times (omega arith) l.invariant c.wait_for_grant.ensures

pub returns-clause-in_time : goal.returns-clause-in_time
returns-clause-in_time g c = in_time (model g)
