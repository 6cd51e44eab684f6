-- The arcs of the walk from the place to the next one.
use Rattle.std.proofs.Common.{◌≡◌, ◌+◌, take, drop, length}
use Rattle.walks.specs.Arcs.{arcs_of}
use Rattle.walks.proofs.search.ring.Given as goal

abbrev pub invariant-loop-k : goal.invariant-loop-k
invariant-loop-k l = (length l.ring.arcs ≡ 16) × (l.place + l.ring.count ≡ l.k) × (arcs_of l.ring ≡ drop l.place (take l.k l.best.walk))
