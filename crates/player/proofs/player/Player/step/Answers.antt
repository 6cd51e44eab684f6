-- One call, and the line that is left.
use Rattle.std.proofs.Common.{◌-◌, ◌^◌, ◌<◌, refl, ap, rules}
use Rattle.player.specs.declared.work.Work.{Work}
use Rattle.player.proofs.Stepping.{Roomy, step_done, step_refused, refusal_fits}
use Rattle.player.proofs.player.Player.step.Goals as goal

pub unwrap-requires : goal.unwrap-requires
unwrap-requires g c =
    let roomy : Roomy c.args.out.now c.reserve.new.self = record { items = c.reserve.ensures.items; len = c.reserve.ensures.len; more = c.reserve.ensures.capacity; space = c.in_ok-reserve.ensures.ok } in
    let line : c.in-Err.fault.line < 2 ^ 32 = search rules in
    let field : c.in-Err.fault.field < 2 ^ 32 = search rules in
    (refusal_fits g.R.Rack.places g.R.Rack.service g.R.Rack.steps _ _ _ c.in-Err.fault _ _ _ _ c.put_fault.result roomy c.in-Err.ensures.does line field c.put_fault.ensures).0

pub returns-in-Ok : goal.returns-in-Ok
returns-in-Ok g c =
    let roomy : Roomy c.args.out.now c.reserve.new.self = record { items = c.reserve.ensures.items; len = c.reserve.ensures.len; more = c.reserve.ensures.capacity; space = c.in_ok-reserve.ensures.ok } in
    step_done g.R.Rack.places g.R.Rack.service g.R.Rack.steps _ _ _ _ _ _ c.if-self-eq0.false roomy c.in-Ok.ensures.does refl refl refl refl (ap (λ (w : Work). record { ask = w.ask; left = w.left - 1 }) c.call.ensures.work)

pub returns-in-Err : goal.returns-in-Err
returns-in-Err g c =
    let roomy : Roomy c.args.out.now c.reserve.new.self = record { items = c.reserve.ensures.items; len = c.reserve.ensures.len; more = c.reserve.ensures.capacity; space = c.in_ok-reserve.ensures.ok } in
    let line : c.in-Err.fault.line < 2 ^ 32 = search rules in
    let field : c.in-Err.fault.field < 2 ^ 32 = search rules in
    let fits = refusal_fits g.R.Rack.places g.R.Rack.service g.R.Rack.steps _ _ _ c.in-Err.fault _ _ _ _ c.put_fault.result roomy c.in-Err.ensures.does line field c.put_fault.ensures in
    step_refused g.R.Rack.places g.R.Rack.service g.R.Rack.steps _ _ _ c.in-Err.fault _ _ _ _ c.if-self-eq0.false c.in-Err.ensures.does fits.1 refl refl refl refl (ap (λ (w : Work). record { ask = w.ask; left = 0 }) c.call.ensures.work)
