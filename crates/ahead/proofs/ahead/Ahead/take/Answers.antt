-- One part after another.
use Rattle.std.proofs.Common.{[], length, get_or, drop, sym, ap, ◌∙◌, inl, arith}
use Rattle.std.proofs.lemmas.List.{drop-drop, length-drop}
use Rattle.lexer.specs.Text.{lines}
use Rattle.ahead.proofs.Cuts.{Cut, cut, no_lines}
use Rattle.ahead.proofs.Carries.{where_no_ok, carried_no_more, carried_line}
use Rattle.ahead.proofs.ahead.Ahead.take.Goals as goal
use Rattle.ahead.proofs.ahead.Ahead.take.Goals.{In-Some}

-- the part at hand is the first line of what is left
at_hand : (c : In-Some) → Cut (drop c.loop-part.taken c.args.bytes.now) c.in-Some.part.now c.next.new.self
at_hand c = cut (drop c.loop-part.taken c.args.bytes.now) c.in-Some.part.now c.next.new.self (sym c.loop-part.invariant.left ∙ c.in-Some.ensures.steps)

pub take_part-requires-clause-part : goal.take_part-requires-clause-part
take_part-requires-clause-part c = (at_hand (goal.at.take_part-requires-clause-part c).In-Some).one

pub take_part-requires-clause-some : goal.take_part-requires-clause-some
take_part-requires-clause-some c = (at_hand (goal.at.take_part-requires-clause-some c).In-Some).some

pub returns-in_err-take_part-clause-carried : goal.returns-in_err-take_part-clause-carried
returns-in_err-take_part-clause-carried c =
    let k = c.loop-part.invariant.carried in
    let wider = k.capacity in
    let line = ap (λ ls. length (get_or ls 0 [])) (sym c.loop-part.invariant.left ∙ c.in-Some.ensures.steps) in
    let e = c.in_err-take_part.ensures in
    let long = e.long in
    where_no_ok _ c.from_residual.result c.from_residual.ensures.0
    (c.loop-part.taken, carried_no_more c.args.self.now c.loop-part.self c.take_part.new.self c.args.belt.now c.loop-part.belt c.take_part.new.belt c.args.bytes.now c.in-Some.part.now c.loop-part.taken k e.err, omega (arith, line))

pub loop-part-preserved : goal.loop-part-preserved
loop-part-preserved c =
    let here = at_hand (goal.at.loop-part-preserved c).In-Some in
    record {
      carried = carried_line c.args.self.now c.loop-part.self c.take_part.new.self c.args.belt.now c.loop-part.belt c.take_part.new.belt c.args.bytes.now c.in-Some.part.now c.next.new.self c.loop-part.taken c.loop-part.invariant.carried here c.in_ok-take_part.ensures.ok;
      left = here.rest ∙ ap lines (drop-drop (length c.in-Some.part.now) c.loop-part.taken c.args.bytes.now);
    }

pub returns-clause-stops : goal.returns-clause-stops
returns-clause-stops c =
    let few = c.loop-part.invariant.carried.few in
    let none = no_lines (drop c.loop-part.taken c.args.bytes.now) (sym c.loop-part.invariant.left ∙ c.in-None.ensures.steps.0) in
    inl (omega (arith, ap length none, length-drop c.loop-part.taken c.args.bytes.now))
