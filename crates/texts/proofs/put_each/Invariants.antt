-- The texts so far stand behind what the buffer held.
use Rattle.std.proofs.Common.{ℕ, List, take}
use Rattle.std.specs.List.{flat_map}
use Rattle.texts.specs.Puts.{Added, PutsAs}
use Rattle.texts.proofs.put_each.Given as goal

abbrev pub invariant-loop-item : goal.invariant-loop-item
invariant-loop-item g l = (text : g.row.T.Denot → List ℕ) → PutsAs g.F.Fn l.fn.put_item text → Added l.initial.out (flat_map text (take l.item-index l.items)) l.out
