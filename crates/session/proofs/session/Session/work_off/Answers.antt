-- A call's line is taken and its calls are made; a refusal is printed.
use Rattle.std.proofs.Common.{◌^◌, ◌<◌, refl, subst, arith, rules}
use Rattle.player.specs.Openings.{Begins}
use Rattle.player.specs.Players.{Went}
use Rattle.player.proofs.Stepping.{Roomy, refusal_put}
use Rattle.session.specs.Sessions.{full}
use Rattle.session.proofs.Playing.{worked_call, worked_fault}
use Rattle.session.proofs.session.Session.work_off.Goals as goal

pub unwrap-requires-in-Fault : goal.unwrap-requires-in-Fault
unwrap-requires-in-Fault g c =
    let roomy : Roomy c.args.out.now c.args.out.now = record { items = refl; len = refl; more = omega arith; space = omega (arith, c.requires.room, c.requires.few) } in
    let line : c.in-Fault.fault.line < 2 ^ 32 = search rules in
    let field : c.in-Fault.fault.field < 2 ^ 32 = search rules in
    (refusal_put c.in-Fault.fault c.args.out.now c.args.out.now c.put_fault.new.out c.put_fault.result roomy line field c.put_fault.ensures).0

pub returns-in-Call : goal.returns-in-Call
returns-in-Call g c =
    worked_call g.R.Rack.places g.R.Rack.service g.R.Rack.steps c.args.self.now c.args.given c.in-Call.line c.begin.new.self c.go.new.self c.args.out.now c.begin.new.out c.go.new.out _ c.in-Call.is c.requires.idle
    (subst (λ r. Begins c.args.self.now.player c.in-Call.line c.args.out.now r c.begin.new.self c.begin.new.out) c.unwrap.ensures c.begin.ensures)
    (subst (λ r. Went g.R.Rack.places g.R.Rack.service g.R.Rack.steps c.begin.new.self c.begin.new.out full r c.go.new.self c.go.new.out) c.unwrap-in-Call.ensures c.go.ensures)

pub returns-in-Fault : goal.returns-in-Fault
returns-in-Fault g c =
    let roomy : Roomy c.args.out.now c.args.out.now = record { items = refl; len = refl; more = omega arith; space = omega (arith, c.requires.room, c.requires.few) } in
    let line : c.in-Fault.fault.line < 2 ^ 32 = search rules in
    let field : c.in-Fault.fault.field < 2 ^ 32 = search rules in
    let put = refusal_put c.in-Fault.fault c.args.out.now c.args.out.now c.put_fault.new.out c.put_fault.result roomy line field c.put_fault.ensures in
    worked_fault g.R.Rack.places g.R.Rack.service g.R.Rack.steps c.args.self.now c.args.given c.in-Fault.fault c.args.out.now c.put_fault.new.out c.in-Fault.is c.requires.idle put.1
