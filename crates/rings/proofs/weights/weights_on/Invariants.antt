-- The weights so far.
use Rattle.std.proofs.Common.{◌≡◌, ℕ, ◌<◌, get_or, length}
use Rattle.flow.specs.Nets.{net_of}
use Rattle.flow.specs.Rings.{pace_of, lead_and_pace_of}
use Rattle.rings.proofs.weights.weights_on.Given as goal

abbrev pub invariant-loop-v : goal.invariant-loop-v
invariant-loop-v g l =
    (length l.spans ≡ 16)
    × (length l.paces ≡ 16)
    × ((k : ℕ) → k < l.v → get_or l.spans k 0 ≡ lead_and_pace_of (net_of l.graph) (g.R.Rack.service l.rack) k)
    × ((k : ℕ) → k < l.v → get_or l.paces k 0 ≡ pace_of (net_of l.graph) (g.R.Rack.service l.rack) k)
