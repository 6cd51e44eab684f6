-- Where a text ends.
use Rattle.std.proofs.Common.{◌≡◌, ◌<◌, true, false, [], vec_items, length, arith}
use Rattle.std.proofs.lemmas.List.{nil_from_length}
use Rattle.std.proofs.lemmas.Bool.Decides.{nat_tests}
use Rattle.ahead.proofs.Told.{whole_refused, whole_ended, whole_missing, whole_cut}
use Rattle.ahead.proofs.ahead.Ahead.end.Goals as goal

pub returns-then-self-clause-whole : goal.returns-then-self-clause-whole
returns-then-self-clause-whole c = λ t gs r. (true, whole_refused c.args.self.now t gs r c.if-self.true)

pub returns-in-true-eq1-clause-whole : goal.returns-in-true-eq1-clause-whole
returns-in-true-eq1-clause-whole c = λ t gs r.
    let a = c.args.self.now in
    let size = a.held.ok.0 in
    let empty : vec_items a.held ≡ [] = nil_from_length (vec_items a.held) (grind (arith, nat_tests)) in
    rw c.refuses.ensures (true, whole_missing a t gs r c.if-self.false empty c.in-true-eq1.is-1)

pub returns-in-true-default-clause-whole : goal.returns-in-true-default-clause-whole
returns-in-true-default-clause-whole c = λ t gs r.
    let a = c.args.self.now in
    let size = a.held.ok.0 in
    let empty : vec_items a.held ≡ [] = nil_from_length (vec_items a.held) (grind (arith, nat_tests)) in
    let number = r.number in
    let below : 1 < a.number = omega (arith, c.in-true-default.is-1.1) in
    (false, whole_ended a t gs r c.if-self.false empty below)

pub returns-in-false-default-clause-whole : goal.returns-in-false-default-clause-whole
returns-in-false-default-clause-whole c = λ t gs r.
    let a = c.args.self.now in
    let size = a.held.ok.0 in
    let some : 0 < length (vec_items a.held) = grind (arith, nat_tests) in
    rw c.refuses-in-false-default.ensures (true, whole_cut a t gs r c.if-self.false some)
