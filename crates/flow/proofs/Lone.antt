-- The finish bounds of one task alone.
use Rattle.std.proofs.Common.{◌≡◌, ℕ, zero, suc, ◌<◌, ◌≤◌, ◌⊎◌, List, get_or, refl, ◌∙◌, inl, inr, arith}
use native.Mathlib.Nat.{le-max_left, le-max_right, max-eq_left, max-eq_right}
use Rattle.flow.specs.Finish.{ReadyLargest, finish}
use Rattle.flow.specs.Lone.{lone, at_times, from_arrival, from_arrivals, LoneBounds}
use Rattle.servers.specs.Rounding.{le_or_lt}

module _ (cost : ℕ → ℕ) (times : List ℕ) (i : ℕ) where
  covers : (j k : ℕ) → k ≤ j → from_arrival cost times i k ≤ from_arrivals cost times i j
  covers zero k h = let q : k ≡ 0 = omega arith in rw q (omega arith)
  covers (suc j) k h = go (le_or_lt k j) (covers j k)
    where
      go : (k ≤ j) ⊎ (j < k) → (k ≤ j → from_arrival cost times i k ≤ from_arrivals cost times i j) → from_arrival cost times i k ≤ from_arrivals cost times i (suc j)
      go (inl l) below = omega (arith, below l, le-max_left (from_arrivals cost times i j) (from_arrival cost times i (suc j)))
      go (inr l) below = let q : k ≡ suc j = omega arith in rw q (le-max_right (from_arrivals cost times i j) (from_arrival cost times i (suc j)))

  abbrev Met : ℕ → Type 0
  Met j = (k : ℕ) × (k ≤ j) × (from_arrivals cost times i j ≡ from_arrival cost times i k)

  met : (j : ℕ) → Met j
  met zero = (0, omega arith, refl)
  met (suc j) = go (le_or_lt (from_arrival cost times i (suc j)) (from_arrivals cost times i j)) (met j)
    where
      go : (from_arrival cost times i (suc j) ≤ from_arrivals cost times i j) ⊎ (from_arrivals cost times i j < from_arrival cost times i (suc j)) → Met j → Met (suc j)
      go (inl l) (k, h, q) = (k, omega arith, max-eq_left l ∙ q)
      go (inr l) m = (suc j, omega arith, max-eq_right (omega arith))

pub lone_bounds : LoneBounds
lone_bounds time cost times i h =
    finish (λ k. get_or times k 0) (λ k e. 0) (λ k l e fe. absurd (omega (arith, fe.edge))) (λ k l. ready k l) (record { covers = λ k l. covers cost times i i k l; met = met cost times i i })
  where
    ready : (k : ℕ) → k ≤ i → ReadyLargest (lone time) (at_times times) 0 k (get_or times k 0) (λ e. 0)
    ready k l = record { arrived = λ q. (omega arith, omega arith); fed = λ e fe. omega arith; met = inr (inl (refl, refl)) }
