-- A ratio has one form without a common divisor.
use Rattle.std.proofs.Common.{◌≡◌, ℕ, zero, suc, ◌+◌, ◌-◌, ◌*◌, ◌<◌, ◌≤◌, ◌⊎◌, sym, refl, ◌∙◌, inl, inr, mul-le-mul_right, mul_comm, mul-le-mul_left, one-mul, mul-zero, zero-mul, mul-one, mul-add, le_of_mul-le-mul_right, arith}
use native.Mathlib.Nat.{mul-sub}
use Rattle.servers.specs.Rounding.{le_or_lt}

abbrev pub Lowest : ℕ → ℕ → Type 0
Lowest c p = (d m k : ℕ) → c ≡ d * m → p ≡ d * k → d ≡ 1

-- what divides a difference and what was taken off divides the whole
less_left : (c p : ℕ) → p ≤ c → Lowest c p → Lowest (c - p) p
less_left c p h low d m k x y = low d (m + k) k (omega (arith, mul-add d m k)) y

less_right : (c p : ℕ) → c ≤ p → Lowest c p → Lowest c (p - c)
less_right c p h low d m k x y = low d m (m + k) x (omega (arith, mul-add d m k))

-- 0 over p is 0 over 1
no_more : (c p : ℕ) → c ≡ 0 → Lowest c p → p ≡ 1
no_more c p z low = low p 0 1 (omega (arith, mul-zero p)) (sym (mul-one p))

-- a b = c d with b not above c: then d is not above a
turned : (a b c d : ℕ) → 1 ≤ c → a * b ≡ c * d → b ≤ c → d ≤ a
turned a b c d h e l =
    let x : a * b ≤ a * c = mul-le-mul_left a l in
    let z : d * c ≤ a * c = omega (arith, mul_comm c d) in
    le_of_mul-le-mul_right z h

no_part : (c p : ℕ) → 1 ≤ p → c * p ≡ 0 → c ≡ 0
no_part c p h e = go (le_or_lt c 0)
  where
    go : (c ≤ 0) ⊎ (0 < c) → c ≡ 0
    go (inl l) = omega arith
    go (inr l) = absurd (omega (arith, mul-le-mul_right p l, one-mul p))

taken_left : (c p c' p' : ℕ) → c * p' ≡ c' * p → (c - p) * p' ≡ (c' - p') * p
taken_left c p c' p' e =
    let a : (c - p) * p' ≡ p' * c - p' * p = mul_comm (c - p) p' ∙ mul-sub p' c p in
    let b : (c' - p') * p ≡ p * c' - p * p' = mul_comm (c' - p') p ∙ mul-sub p c' p' in
    omega (arith, mul_comm c p', mul_comm c' p, mul_comm p p')

taken_right : (c p c' p' : ℕ) → c * p' ≡ c' * p → c * (p' - c') ≡ c' * (p - c)
taken_right c p c' p' e = omega (arith, mul-sub c p' c', mul-sub c' p c, mul_comm c c')

-- by Euclid's steps, which both forms take together
pub one_form : (fuel c p c' p' : ℕ) → c + p ≤ fuel → 1 ≤ p → 1 ≤ p' → c * p' ≡ c' * p → Lowest c p → Lowest c' p' → (c ≡ c') × (p ≡ p')
one_form zero c p c' p' f h h' e low low' = absurd (omega arith)
one_form (suc fuel) zero p c' p' f h h' e low low' =
    let z : c' ≡ 0 = no_part c' p h (omega (arith, zero-mul p')) in
    (sym z, no_more 0 p refl low ∙ sym (no_more c' p' z low'))
one_form (suc fuel) (suc c) p c' p' f h h' e low low' =
    go (le_or_lt p (suc c)) (le_or_lt p' c') (one_form fuel (suc c - p) p (c' - p') p') (one_form fuel (suc c) (p - suc c) c' (p' - c'))
  where
    Left : Type 0
    Left = suc c - p + p ≤ fuel → 1 ≤ p → 1 ≤ p' → (suc c - p) * p' ≡ (c' - p') * p → Lowest (suc c - p) p → Lowest (c' - p') p' → (suc c - p ≡ c' - p') × (p ≡ p')

    Right : Type 0
    Right = suc c + (p - suc c) ≤ fuel → 1 ≤ p - suc c → 1 ≤ p' - c' → suc c * (p' - c') ≡ c' * (p - suc c) → Lowest (suc c) (p - suc c) → Lowest c' (p' - c') → (suc c ≡ c') × (p - suc c ≡ p' - c')

    go : (p ≤ suc c) ⊎ (suc c < p) → (p' ≤ c') ⊎ (c' < p') → Left → Right → (suc c ≡ c') × (p ≡ p')
    go (inl l) (inl l') left right =
        let r = left (omega arith) h h' (taken_left (suc c) p c' p' e) (less_left (suc c) p l low) (less_left c' p' l' low') in
        (omega (arith, r.0, r.1), r.1)
    go (inl l) (inr l') left right = absurd (omega (arith, turned c' p (suc c) p' (omega arith) (sym e) l))
    go (inr l) (inl l') left right = absurd (omega (arith, turned (suc c) p' c' p (omega arith) e l'))
    go (inr l) (inr l') left right =
        let r = right (omega arith) (omega arith) (omega arith) (taken_right (suc c) p c' p' e) (less_right (suc c) p (omega arith) low) (less_right c' p' (omega arith) low') in
        (r.0, omega (arith, r.0, r.1))
