-- An order stays one.
use Rattle.graph.proofs.Swaps.{inverse, swap_at, swapped_inverse}
use Rattle.graph.proofs.order.Order.swap.Goals as goal

pub invariant_of-self : goal.invariant_of-self
invariant_of-self c =
    let o = c.args.self.now in
    let s = swapped_inverse o.tasks c.args.p c.args.q _ _ _ _ (inverse o) c.requires.p_in c.requires.q_in (swap_at o.list _ _ _ c.swap-2.ensures.by_index) (swap_at o.place _ _ _ c.swap.ensures.by_index) in
    record { few = o.few; listed = s.listed; placed = s.placed; found = s.found; back = s.back }
