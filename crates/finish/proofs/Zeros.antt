-- Zeros are within what is kept.
use Rattle.std.proofs.Common.{◌≡◌, ℕ, ◌<◌, ◌≤◌, List, get_or, replicate, subst, sym, arith}
use Rattle.std.proofs.lemmas.List.{get_or-replicate, get_or_past}
use native.Mathlib.Decide.{dec_lt}
use lib.ListN.{length-replicate}
use Rattle.finish.specs.Filling.{Kept}

pub kept_zeros : (m : ℕ) → Kept (replicate m 0)
kept_zeros m = record { at = λ k. go k (dec_lt k m) }
  where
    go : (k : ℕ) → Dec (k < m) → get_or (replicate {A = ℕ} m 0) k 0 ≤ 1000000000001
    go k (yes h) = omega (arith, get_or-replicate {A = ℕ} m k 0 0 h)
    go k (no h) = omega (arith, get_or_past {X = ℕ} (replicate m 0) k 0 (omega (arith, length-replicate {A = ℕ} m 0)))

pub zeros : (m : ℕ) (xs : List ℕ) → xs ≡ replicate m 0 → Kept xs
zeros m xs q = subst Kept (sym q) (kept_zeros m)
