-- The line that was taken, or its refusal.
use Rattle.std.proofs.Common.{◌^◌, ◌<◌, ◌++◌, refl, subst, lit<}
use Rattle.std.proofs.lemmas.Result.{err_from_is_err_and}
use Rattle.faults.specs.Faults.{fault_line}
use Rattle.faults.specs.declared.fault.Fault.{Fault}
use Rattle.lexer.specs.Text.{end}
use Rattle.texts.specs.Puts.{Added}
use Rattle.player.proofs.Stepping.{Roomy, refusal_put}
use Rattle.player.proofs.Beginning.{line_taken, line_refused}
use Rattle.player.proofs.player.Player.begin.Goals as goal

pub unwrap-requires : goal.unwrap-requires
unwrap-requires g c =
    let roomy : Roomy c.args.out.now c.reserve.new.self = record { items = c.reserve.ensures.items; len = c.reserve.ensures.len; more = c.reserve.ensures.capacity; space = c.in_ok-reserve.ensures.ok } in
    let line : c.refuses.result.line < 2 ^ 32 = rw c.refuses.ensures (lit< tt) in
    let field : c.refuses.result.field < 2 ^ 32 = rw c.refuses.ensures (lit< tt) in
    (refusal_put c.refuses.result c.args.out.now c.reserve.new.self c.put_fault.new.out c.put_fault.result roomy line field c.put_fault.ensures).0

pub returns-in_err-reserve : goal.returns-in_err-reserve
returns-in_err-reserve g c =
    let p = err_from_is_err_and c.from_residual.result c.from_residual.ensures.1 in
    rw p.1 (record { same = refl; items = c.reserve.ensures.items; room = c.in_err-reserve.ensures.err; short = c.in_err-reserve.ensures.full })

pub returns-in_default : goal.returns-in_default
returns-in_default g c =
    let roomy : Roomy c.args.out.now c.reserve.new.self = record { items = c.reserve.ensures.items; len = c.reserve.ensures.len; more = c.reserve.ensures.capacity; space = c.in_ok-reserve.ensures.ok } in
    let line : c.refuses.result.line < 2 ^ 32 = rw c.refuses.ensures (lit< tt) in
    let field : c.refuses.result.field < 2 ^ 32 = rw c.refuses.ensures (lit< tt) in
    let put = refusal_put c.refuses.result c.args.out.now c.reserve.new.self c.put_fault.new.out c.put_fault.result roomy line field c.put_fault.ensures in
    line_refused c.args.self.now _ c.args.line c.args.out.now c.put_fault.new.out _ (record { tasks = refl; runner = refl; ledger = refl; records = refl; work = refl }) c.deref.result.now c.deref.ensures.value c.in_default.ensures refl
    (subst (λ (f : Fault). Added c.args.out.now (fault_line f ++ end) c.put_fault.new.out) c.refuses.ensures put.1)

pub returns : goal.returns
returns g c =
    let roomy : Roomy c.args.out.now c.reserve.new.self = record { items = c.reserve.ensures.items; len = c.reserve.ensures.len; more = c.reserve.ensures.capacity; space = c.in_ok-reserve.ensures.ok } in
    line_taken c.args.self.now _ c.args.line c.args.out.now c.reserve.new.self c.in-Some.work (record { tasks = refl; runner = refl; ledger = refl; records = refl; work = refl }) c.deref.result.now c.deref.ensures.value c.in-Some.ensures roomy
