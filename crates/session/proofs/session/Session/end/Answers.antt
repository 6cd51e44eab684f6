-- What the end of the text prints.
use Rattle.std.proofs.Common.{◌^◌, ◌<◌, rules}
use Rattle.player.proofs.Stepping.{Roomy, refusal_put}
use Rattle.session.proofs.Playing.{closes_so, closes_refused}
use Rattle.session.proofs.session.Session.end.Goals as goal

pub unwrap-requires : goal.unwrap-requires
unwrap-requires g c =
    let roomy : Roomy c.args.out.now c.reserve.new.self = record { items = c.reserve.ensures.items; len = c.reserve.ensures.len; more = c.reserve.ensures.capacity; space = c.in_ok-reserve.ensures.ok } in
    let line : c.in-Err.fault.line < 2 ^ 32 = search rules in
    let field : c.in-Err.fault.field < 2 ^ 32 = search rules in
    (refusal_put c.in-Err.fault c.args.out.now c.reserve.new.self c.put_fault.new.out c.put_fault.result roomy line field c.put_fault.ensures).0

pub returns-in-Err : goal.returns-in-Err
returns-in-Err g c =
    let roomy : Roomy c.args.out.now c.reserve.new.self = record { items = c.reserve.ensures.items; len = c.reserve.ensures.len; more = c.reserve.ensures.capacity; space = c.in_ok-reserve.ensures.ok } in
    let line : c.in-Err.fault.line < 2 ^ 32 = search rules in
    let field : c.in-Err.fault.field < 2 ^ 32 = search rules in
    let put = refusal_put c.in-Err.fault c.args.out.now c.reserve.new.self c.put_fault.new.out c.put_fault.result roomy line field c.put_fault.ensures in
    closes_refused g.R.Rack.places g.R.Rack.service g.R.Rack.steps c.args.self.now c.in-Err.fault c.args.out.now c.put_fault.new.out put.1 c.in-Err.ensures.value c.in-Err.ensures.whole

pub returns-in_default : goal.returns-in_default
returns-in_default g c = closes_so g.R.Rack.places g.R.Rack.service g.R.Rack.steps c.args.self.now c.args.out.now c.reserve.new.self c.reserve.ensures.items c.reserve.ensures.capacity c.in_default.ensures.value.0 c.in_default.ensures.whole
