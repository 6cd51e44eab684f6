-- Ratios of whole numbers that grow.
use Rattle.std.proofs.Common.{◌≡◌, ℕ, suc, ◌+◌, ◌*◌, ◌/◌, ◌<◌, ◌≤◌, ap, ◌∙◌, mul_comm, mul_assoc, mul_right_comm, add-mul, one-mul, mul-le-mul, mul-le-mul_right, mul-lt-mul_of_pos_right, lt_of_mul-lt-mul_right, le_of_mul-le-mul_right, div-mul-le_self, div-le_self, le-div_iff_mul-le, arith}

-- a ring above c / p gives a larger ratio, in whatever terms
pub grows : (c p w t c' p' : ℕ) → c * t < w * p → w * p' ≡ c' * t → 0 < p' → c * p' < c' * p
grows c p w t c' p' above same h =
    let a : c * t * p' < w * p * p' = mul-lt-mul_of_pos_right above h in
    let l : c * t * p' ≡ c * p' * t = mul_right_comm c t p' in
    let r : w * p * p' ≡ c' * p * t = mul_right_comm w p p' ∙ ap (λ x. x * p) same ∙ mul_right_comm c' t p in
    lt_of_mul-lt-mul_right t (moved a l r)
  where
    moved : {a b x y : ℕ} → a < b → a ≡ x → b ≡ y → x < y
    moved h p q = omega arith

-- what was at most the old ratio is at most the new one
pub still_below : (r c p c' p' : ℕ) → r * p ≤ c → c * p' < c' * p → r * p' ≤ c'
still_below r c p c' p' h up =
    let a : r * p * p' ≤ c * p' = mul-le-mul_right p' h in
    let e : r * p * p' ≡ r * p' * p = mul_right_comm r p p' in
    let l : r * p' * p < c' * p = omega arith in
    let s : r * p' < c' = lt_of_mul-lt-mul_right p l in
    omega arith

-- the ratio in steps of 1 / 4080^2
abbrev pub steps : ℕ → ℕ → ℕ
steps c p = 16646400 * c / p

suc_times : (m n : ℕ) → suc m * n ≡ m * n + n
suc_times m n = ap (λ x. x * n) (let e : suc m ≡ m + 1 = omega arith in e) ∙ add-mul m 1 n ∙ ap (λ x. m * n + x) (one-mul n)

one_more : (q c p c' p' : ℕ) → p ≤ 4080 → p' ≤ 4080 → c * p' < c' * p → q * p ≤ 16646400 * c → suc q * p' * p ≤ 16646400 * c' * p
one_more q c p c' p' few few' up floor =
    let a : q * p * p' ≤ 16646400 * c * p' = mul-le-mul_right p' floor in
    let b : p' * p ≤ 4080 * 4080 = mul-le-mul few' few in
    let d : suc q * p' * p ≡ q * p * p' + p' * p = ap (λ x. x * p) (suc_times q p') ∙ add-mul (q * p') p' p ∙ ap (λ x. x + p' * p) (mul_right_comm q p' p) in
    let e : 16646400 * c * p' ≡ 16646400 * (c * p') = mul_assoc 16646400 c p' in
    let f : 16646400 * c' * p ≡ 16646400 * (c' * p) = mul_assoc 16646400 c' p in
    omega arith

pub steps_grow : (c p c' p' : ℕ) → 0 < p → p ≤ 4080 → 0 < p' → p' ≤ 4080 → c * p' < c' * p → steps c p < steps c' p'
steps_grow c p c' p' h few h' few' up =
    (le-div_iff_mul-le h').1 (le_of_mul-le-mul_right (one_more (steps c p) c p c' p' few few' up (div-mul-le_self (16646400 * c) p)) h)

pub steps_below : (c p : ℕ) → c ≤ 16000000000000 → steps c p ≤ 16646400 * 16000000000000
steps_below c p h = omega (arith, div-le_self (16646400 * c) p)

-- The same of a ring's weight and tokens as they were counted.
pub greater : (c p w t c' p' weight tokens : ℕ) → w ≡ weight → t ≡ tokens → c * tokens < p * weight → p' * w ≡ c' * t → 1 ≤ p' → c * p' < c' * p
greater c p w t c' p' weight tokens q q' above same h =
    let a : c * t ≡ c * tokens = ap (λ (x : ℕ). c * x) q' in
    let b : p * w ≡ p * weight = ap (λ (x : ℕ). p * x) q in
    grows c p w t c' p' (omega (arith, mul_comm w p)) (mul_comm w p' ∙ same) h
