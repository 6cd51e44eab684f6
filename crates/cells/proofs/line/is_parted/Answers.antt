-- All fields are filled, and there are as many as asked.
use Rattle.std.proofs.Common.{ℕ, ◌+◌, ◌&&◌, Bool, eqb, List, length, ap, ◌∙◌, arith}
use Rattle.std.proofs.lemmas.Bool.Decides.{nat_tests}
use Rattle.cells.specs.Bytes.{filled}
use Rattle.cells.proofs.line.is_parted.Goals as goal

-- What is answered of a text, once some of its fields were counted and these are left.
abbrev answer : ℕ → ℕ → List (List ℕ) → Bool
answer n count left = filled left && eqb (count + length left) n

pub loop-part-init : goal.loop-part-init
loop-part-init c =
    let all = c.into_iter-part-iterator.ensures.into_iter_gives ∙ c.new-part-items.ensures in
    (omega arith, grind (arith, nat_tests))

pub returns-then-is_empty : goal.returns-then-is_empty
returns-then-is_empty c =
    let more = c.loop-part.invariant.1 ∙ ap (answer c.args.n c.loop-part.count) c.in-Some.ensures.steps in
    grind (arith, nat_tests)

pub loop-part-preserved : goal.loop-part-preserved
loop-part-preserved c =
    let more = c.loop-part.invariant.1 ∙ ap (answer c.args.n c.loop-part.count) c.in-Some.ensures.steps in
    (omega (arith, c.if-count-n.false), grind (arith, nat_tests))

pub returns : goal.returns
returns c =
    let more = c.loop-part.invariant.1 ∙ ap (answer c.args.n c.loop-part.count) c.in-None.ensures.steps.0 in
    grind (arith, nat_tests)
