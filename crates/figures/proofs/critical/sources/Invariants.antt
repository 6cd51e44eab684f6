-- The tasks so far.
use Rattle.std.proofs.Common.{◌≡◌, length, map, take}
use Rattle.flow.specs.Nets.{net_of}
use Rattle.flow.specs.Rings.{edge, out_of}
use Rattle.figures.proofs.critical.sources.Given as goal

abbrev pub invariant-loop-i : goal.invariant-loop-i
invariant-loop-i l = (length l.tasks ≡ 16) × (take l.i l.tasks ≡ map (out_of (net_of l.graph)) (map edge (take l.i l.walk.arcs)))
