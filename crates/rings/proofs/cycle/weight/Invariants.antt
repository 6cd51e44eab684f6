-- What the edges so far weigh.
use Rattle.std.proofs.Common.{◌≡◌, ℕ, ◌*◌, ◌≤◌, map, take}
use Rattle.servers.specs.Service.{Service}
use Rattle.flow.specs.Nets.{net_of}
use Rattle.flow.specs.Rings.{edge, weight}
use Rattle.rings.specs.Spans.{Spans}
use Rattle.rings.proofs.cycle.weight.Given as goal

abbrev pub invariant-loop-i : goal.invariant-loop-i
invariant-loop-i l =
    (l.sum ≤ 1000000000000 * l.i)
    × ((service : ℕ → Service) → Spans l.graph service l.spans → l.sum ≡ weight (net_of l.graph) service (map edge (take l.i l.walk.arcs)))
