-- An item goes into the first free slot after the head.
use Rattle.std.proofs.Common.{Some, arith, length-set}
use Rattle.belt.proofs.Turns.{put_held, put_sound}
use Rattle.belt.proofs.belt.Belt.put.Goals as goal

pub invariant_of-self : goal.invariant_of-self
invariant_of-self g c =
    let b = c.self.inside in
    rw c.round-free.ensures (put_sound b.slots.now b.head b.len (omega arith) c.self.invariant c.args.item (omega arith))

pub returns : goal.returns
returns g c =
    let b = c.self.inside in
    let s = b.slots.now in
    rw (c.round-free.ensures, ← c.self.view_is) (
      omega (arith, c.self.invariant.3),
      put_held s b.head b.len (omega arith) c.self.invariant c.args.item (omega arith),
      length-set s _ (Some c.args.item),
    )
