-- The first field that is left.
use Rattle.std.proofs.Common.{rules, tests, arith, ◌≡◌, length, length-take, take, drop, sym, ap, ◌∙◌, ◌<◌, ◌+◌, ◌-◌, [], ◌∷◌}
use Rattle.std.proofs.lemmas.List.{drop_all, nil_from_length}
use Rattle.std.proofs.lemmas.Fn.{always_returns_same}
use Rattle.std.proofs.lemmas.Bool.Decides.{nat_tests}
use Rattle.lexer.specs.Text.{separates, fields}
use Rattle.lexer.proofs.Cuts.{first_part, past_place}
use Rattle.lexer.proofs.parts.PartsIterator.next.Goals as goal

pub returns-clause-steps : goal.returns-clause-steps
returns-clause-steps c =
    let s = c.in_ok-part.ensures.steps in
    let e = c.split.ensures.rest in
    let closure = c.split.ensures.closure in
    let some : 0 < length c.split.result.rest.now = grind (arith, nat_tests) in
    let first = s.2 separates (always_returns_same _ _ _ (λ a r f' k. search (rules, tests))) in
    let cut = first_part _ _ _ _ s.1 first.1 some in
    let bs = c.self.inside.rest.now in
    let none : take (length bs - length bs) (drop (length bs) bs) ≡ [] = nil_from_length _ (omega (arith, ap length (drop_all (length bs) bs (omega arith)), length-take (length bs - length bs) (drop (length bs) bs))) in
    let left = past_place bs _ c.get.result _ _ c.get.ensures.lookup none c.unwrap_or-self-inside.ensures in
    sym c.self.view_is ∙ ap fields (sym e) ∙ cut ∙ ap (λ l. c.in_ok-part.part.now ∷ fields l) (ap (drop (length c.in_ok-part.part.now + 1)) e ∙ sym left)

pub returns-clause-goes : goal.returns-clause-goes
returns-clause-goes c =
    let fewer = ap length (returns-clause-steps c) in
    record { on = λ _. (tt, tt, omega arith); keeps = tt; rests = λ _. tt }
