-- A sheet's session, or the refusal of the text.
use Rattle.std.proofs.Common.{◌^◌, ◌<◌, ◌++◌, length, [], ap, ◌∙◌, subst, sym, refl, arith, rules}
use Rattle.ahead.specs.Texts.{Reads}
use Rattle.texts.specs.Puts.{Puts}
use Rattle.player.specs.Openings.{Opens}
use Rattle.player.proofs.Stepping.{Roomy, refusal_put}
use Rattle.session.specs.Opened.{heading, sheet_places, sheet_service, sheet_steps}
use Rattle.session.specs.Played.{nothing}
use Rattle.session.proofs.opening.open.Goals as goal

pub unwrap-requires-in-Err : goal.unwrap-requires-in-Err
unwrap-requires-in-Err c =
    let roomy : Roomy c.args.out.now c.reserve.new.self = record { items = c.reserve.ensures.items; len = c.reserve.ensures.len; more = c.reserve.ensures.capacity; space = c.in_ok-reserve.ensures.ok } in
    let line : c.in-Err.fault.line < 2 ^ 32 = search rules in
    let field : c.in-Err.fault.field < 2 ^ 32 = search rules in
    (refusal_put c.in-Err.fault c.args.out.now c.reserve.new.self c.put_fault.new.out c.put_fault.result roomy line field c.put_fault.ensures).0

pub returns-in-Ok : goal.returns-in-Ok
returns-in-Ok c =
    let s = c.in-Ok.field-0 in
    let p = subst (λ r. Opens sheet_places sheet_service sheet_steps s.tasks s.graph s.rack (length c.args.records.now) r) c.unwrap-player.ensures c.new.ensures in
    let put = subst (λ r. Puts c.reserve.new.self heading r c.put.new.out) c.unwrap.ensures c.put.ensures in (
      record {
        sheet = s;
        accepted = c.in-Ok.ensures.reads.says;
        starts = p.1;
        given = c.new-given.ensures.room;
        ahead = refl;
        plays = λ h. record { gs = []; reads = subst (λ gs. Reads [] gs c.args.ahead) (sym c.new-given.ensures.empty) h; played = nothing };
      },
      record { items = put.items ∙ ap (λ l. l ++ heading) c.reserve.ensures.items; room = omega (arith, put.room, c.reserve.ensures.capacity) },
    )
