-- A new belt is empty, and so begins every history.
use Rattle.std.proofs.Common.{refl, ap, length, arith, rules}
use Rattle.belt.proofs.Turns.{cleared}
use Rattle.belt.proofs.InOrder.{in_order}
use Rattle.belt.proofs.belt.Belt.new.Goals as goal

pub invariant_of-result : goal.invariant_of-result
invariant_of-result g c =
    let empty = cleared _ (λ p o q r. search rules) c.fill_with.new.self _ _ c.fill_with.ensures.ran.1 in
    (omega arith, omega arith, refl, ap length empty)

pub returns : goal.returns
returns g c =
    let empty = cleared _ (λ p o q r. search rules) c.fill_with.new.self _ _ c.fill_with.ensures.ran.1 in
    record { empty = empty; room = c.fill_with.ensures.len; history = in_order _ empty }
