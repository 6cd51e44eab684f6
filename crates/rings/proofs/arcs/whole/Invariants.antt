-- The numbers so far.
use Rattle.std.proofs.Common.{◌≡◌, ℕ, ◌<◌, get_or, length, pos, unsigned_abs}
use Rattle.rings.proofs.arcs.whole.Given as goal

abbrev pub invariant-loop-v : goal.invariant-loop-v
invariant-loop-v l = (length l.numbers ≡ 16) × ((k : ℕ) → k < l.v → get_or l.numbers k 0 ≡ unsigned_abs (get_or l.values k (pos 0)))
