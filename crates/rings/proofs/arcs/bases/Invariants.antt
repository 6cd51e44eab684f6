-- The bases so far.
use Rattle.std.proofs.Common.{◌≡◌, ℕ, ◌*◌, ◌<◌, get_or, length, pos}
use Rattle.rings.proofs.arcs.bases.Given as goal

abbrev pub invariant-loop-v : goal.invariant-loop-v
invariant-loop-v l = (length l.bases ≡ 16) × ((k : ℕ) → k < l.v → get_or l.bases k (pos 0) ≡ pos (l.ratio.parts * get_or l.spans k 0))
