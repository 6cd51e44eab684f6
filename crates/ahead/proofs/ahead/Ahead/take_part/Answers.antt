-- Bytes of a line that goes on, and those that end one.
use Rattle.std.proofs.Common.{◌≡◌, true, false, ◌++◌, Some, None, refl, sym, ◌∙◌, subst, vec_items, rules, tests}
use Rattle.std.proofs.lemmas.List.{append-nil}
use Rattle.belt.specs.Belts.{contents}
use Rattle.ahead.specs.Texts.{ended}
use Rattle.ahead.specs.Givens.{Gives}
use Rattle.ahead.proofs.Cuts.{other_last}
use Rattle.ahead.proofs.Carries.{where_ok, where_err, put_free, carried_none, carried_on, carried_end}
use Rattle.ahead.proofs.ahead.Ahead.take_part.Goals as goal

pub returns-then-not-is_ended-clause-ok : goal.returns-then-not-is_ended-clause-ok
returns-then-not-is_ended-clause-ok c =
    let p = c.args.part.now in
    let goes_on : ended p ≡ false = search (rules, tests, sym c.is_ended.ensures) in
    let e = c.extend_from_slice.ensures in
    where_ok c.extend_from_slice.result
    (λ ok. carried_on c.args.self.now _ c.args.belt.now p c.requires.some (other_last p c.requires.part goes_on) (rw ok at e.items) refl refl e.capacity)

pub returns-in_err-given-clause-err : goal.returns-in_err-given-clause-err
returns-in_err-given-clause-err c =
    let e = c.end_line.ensures in
    where_err c.from_residual.result
    (carried_none c.args.self.now c.end_line.new.self c.args.belt.now c.args.part.now c.in_err-given.ensures.err e.same.0 e.same.1 e.capacity)

pub returns-in-Some-clause-ok : goal.returns-in-Some-clause-ok
returns-in-Some-clause-ok c =
    let a = c.args.self.now in
    let p = c.args.part.now in
    let e = c.end_line.ensures in
    let ends : ended p ≡ true = search (rules, tests, sym c.is_ended.ensures) in
    let put = put_free c.args.belt.now c.in-Some.given c.put.result c.put.new.self c.put.ensures c.requires.free in
    carried_end a _ c.args.belt.now c.put.new.self p (Some c.in-Some.given) c.requires.some c.requires.going ends
    (record {
      gives = subst (Gives a.number (vec_items a.held ++ p)) c.in-Some.is c.in_ok-given.ensures.ok.0;
      empty = c.in_ok-given.ensures.ok.1;
      number = search (rules, c.saturating_add-self.ensures, e.same.0);
      over = c.is_fault-self.ensures;
    }) put.0 put.1 e.capacity

pub returns-in_default-clause-ok : goal.returns-in_default-clause-ok
returns-in_default-clause-ok c =
    let a = c.args.self.now in
    let p = c.args.part.now in
    let e = c.end_line.ensures in
    let ends : ended p ≡ true = search (rules, tests, sym c.is_ended.ensures) in
    carried_end a _ c.args.belt.now c.args.belt.now p None c.requires.some c.requires.going ends
    (record {
      gives = subst (Gives a.number (vec_items a.held ++ p)) c.in_default.is c.in_ok-given.ensures.ok.0;
      empty = c.in_ok-given.ensures.ok.1;
      number = search (rules, c.saturating_add-self.ensures, e.same.0);
      over = e.same.1 ∙ c.requires.going;
    }) (sym (append-nil (contents c.args.belt.now))) refl e.capacity
