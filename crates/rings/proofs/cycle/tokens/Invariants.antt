-- What the edges so far hold.
use Rattle.std.proofs.Common.{◌≡◌, ◌*◌, ◌≤◌, map, take}
use Rattle.flow.specs.Nets.{net_of}
use Rattle.flow.specs.Rings.{edge, tokens_on}
use Rattle.rings.proofs.cycle.tokens.Given as goal

abbrev pub invariant-loop-i : goal.invariant-loop-i
invariant-loop-i l = (l.sum ≤ 255 * l.i) × (l.sum ≡ tokens_on (net_of l.graph) (map edge (take l.i l.walk.arcs)))
