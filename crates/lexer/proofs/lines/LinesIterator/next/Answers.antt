-- The first line that is left.
use Rattle.std.proofs.Common.{◌∷◌, ◌∙◌, rules, tests, arith, eqb, length, drop, sym, ap}
use Rattle.std.proofs.lemmas.Fn.{always_returns_same}
use Rattle.std.proofs.lemmas.List.{take_rest}
use Rattle.lexer.specs.Text.{lines}
use Rattle.lexer.proofs.Cuts.{first_line}
use Rattle.lexer.proofs.lines.LinesIterator.next.Goals as goal

pub returns-clause-steps : goal.returns-clause-steps
returns-clause-steps c =
    let s = c.in_ok-line.ensures.steps in
    let e = c.split_inclusive.ensures.rest in
    let closure = c.split_inclusive.ensures.closure in
    let first = s.1.2 (λ b. eqb b 10) (always_returns_same _ _ _ (λ a r f' k. search (rules, tests))) in
    let cut = first_line _ _ _ s.1.0 s.0 s.1.1 first.1 s.2 in
    let line = c.in_ok-line.line.now in
    let bs = c.self.inside.rest.now in
    sym c.self.view_is ∙ ap lines (sym e) ∙ cut ∙ ap (λ l. line ∷ lines l) (ap (drop (length line)) e ∙ sym (take_rest bs (length line)))

pub returns-clause-goes : goal.returns-clause-goes
returns-clause-goes c =
    let fewer = ap length (returns-clause-steps c) in
    record { on = λ _. (tt, tt, omega arith); keeps = tt; rests = λ _. tt }
