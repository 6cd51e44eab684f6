-- The oldest item leaves, and its slot is free again.
use Rattle.std.proofs.Common.{◌≡◌, Some, None, ◌∙◌, arith, length-set}
use Rattle.std.proofs.lemmas.List.{get_or_default}
use Rattle.belt.proofs.Turns.{take_step}
use Rattle.belt.proofs.belt.Belt.take.Goals as goal

pub invariant_of-self : goal.invariant_of-self
invariant_of-self g c =
    let b = c.self.inside in
    let t = take_step b.slots.now b.head b.len (omega arith) c.self.invariant _ c.take-item.ensures.after (omega arith) in
    rw c.round-self-inside.ensures t.rest

pub returns : goal.returns
returns g c =
    let b = c.self.inside in
    let s = b.slots.now in
    let t = take_step s b.head b.len (omega arith) c.self.invariant _ c.take-item.ensures.after (omega arith) in
    let is : c.take-item.result ≡ Some t.item = c.take-item.ensures.value ∙ get_or_default s b.head _ None (omega arith) ∙ t.was in
    rw (is, c.round-self-inside.ensures, ← c.self.view_is) (t.front, length-set s b.head _)
