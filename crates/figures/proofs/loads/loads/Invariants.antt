-- The loads so far, and 0 from there on.
use Rattle.std.proofs.Common.{◌≡◌, ℕ, ◌<◌, ◌≤◌, get_or, length}
use Rattle.flow.specs.Nets.{net_of}
use Rattle.flow.specs.Rings.{pace_of}
use Rattle.flow.specs.Verdicts.{Load}
use Rattle.figures.proofs.loads.loads.Given as goal

abbrev pub invariant-loop-v : goal.invariant-loop-v
invariant-loop-v g l =
    (length l.loads ≡ 16)
    × ((k : ℕ) → k < l.v → Load (pace_of (net_of l.graph) (g.R.Rack.service l.rack) k) l.ratio.cycle l.ratio.parts (get_or l.loads k 0))
    × ((k : ℕ) → l.v ≤ k → get_or l.loads k 0 ≡ 0)
