-- Rounding up: what it keeps, and how it is reckoned.
use Rattle.std.specs.Prelude.{◌≡◌, ℕ, ◌+◌, ◌-◌, ◌*◌, ◌/◌, ◌%◌, ◌<◌, ◌≤◌, min, ◌⊎◌}
use Rattle.std.proofs.Common.{inl, inr, ⊎_elim, ap, ◌∙◌, mul_comm, mul-add, add-mul, mul-one, arith}
use Rattle.std.proofs.lemmas.Bool.{cases_lt}
use Rattle.std.proofs.Math.Nat.{add-mul-div_left, mul-div-le, lt-div-mul-add}
use Rattle.std.proofs.lemmas.Grind.{div_ceil_times}
use Rattle.std.proofs.lemmas.Nat.{le-div, div_below}
use Rattle.servers.specs.Slices.{up}

-- std's cases_lt with its two cases in the other order.
pub le_or_lt : (a b : ℕ) → (a ≤ b) ⊎ (b < a)
le_or_lt a b = ⊎_elim inr inl (cases_lt b a)

module _ (s : ℕ) (some : 0 < s) where
  pub up_covers : (a : ℕ) → a ≤ s * up a s
  up_covers a =
      let h : a + (s - 1) < up a s * s + s = lt-div-mul-add some in
      omega (arith, h, mul_comm s (up a s))

  pub up_near : (a : ℕ) → s * up a s ≤ a + (s - 1)
  up_near a = mul-div-le (a + (s - 1)) s

  -- up a s is the least k with a ≤ s * k
  pub up_least : (a k : ℕ) → a ≤ s * k → up a s ≤ k
  up_least a k h =
      let b : up a s < k + 1 = div_below (a + (s - 1)) s (k + 1) some (omega (arith, h, add-mul k 1 s, mul_comm s k)) in
      omega arith

  pub up_from : (a k : ℕ) → s * k ≤ a + (s - 1) → k ≤ up a s
  up_from a k h = le-div k (a + (s - 1)) s some (omega (arith, mul_comm s k))

  pub up_rises : (a b : ℕ) → a ≤ b → up a s ≤ up b s
  up_rises a b h = up_least a (up b s) (omega (arith, up_covers b))

  pub up_adds : (a b : ℕ) → up (a + b) s ≤ up a s + up b s
  up_adds a b = up_least (a + b) (up a s + up b s) (omega (arith, up_covers a, up_covers b, mul-add s (up a s) (up b s)))

  pub up_some : (a : ℕ) → 0 < a → 0 < up a s
  up_some a h = up_from a 1 (omega (arith, mul-one s))

  pub up_none : up 0 s ≡ 0
  up_none = let h = up_least 0 0 (omega arith) in omega arith

  -- one more period
  pub up_more : (a : ℕ) → up (a + s) s ≡ up a s + 1
  up_more a = ap (λ k. k / s) (let e : a + s + (s - 1) ≡ a + (s - 1) + s * 1 = omega (arith, mul-one s) in e) ∙ add-mul-div_left (a + (s - 1)) 1 some

  -- as a quotient, and one more where there is a rest
  pub up_quotient : (a : ℕ) → a / s + min 1 (a % s) ≡ up a s
  up_quotient a =
      let k : ℕ = a / s + min 1 (a % s) in
      let t = div_ceil_times a s some in
      let c = mul_comm s k in
      omega (arith, up_least a k (omega arith), up_from a k (omega arith))
