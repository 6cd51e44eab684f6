-- The verdict says whether the goal is met, and a load is one number.
use Rattle.std.proofs.Common.{◌≡◌, ℕ, ◌+◌, ◌*◌, ◌/◌, ◌<◌, ◌≤◌, sym, ap, ◌∙◌, mul_assoc, mul_comm, add-mul, lt_of_mul-lt-mul_right, one-mul, mul-one, mul-add, div-mul-le_self, arith}
use native.Mathlib.Nat.{lt-mul-div-succ}
use Rattle.std.proofs.lemmas.Int.{ints}
use Rattle.std.proofs.lemmas.Bool.Decides.{nat_tests, Decides-like}
use Rattle.flow.specs.Verdicts.{keeps, Rounded}
use Rattle.flow.specs.VerdictLaws.{KeepsByMargin, KeepsByCycle, OneRounded, OneLoad}

pub keeps_by_cycle : KeepsByCycle
keeps_by_cycle goal cycle parts = (λ h. grind (arith, nat_tests), λ h. grind (arith, nat_tests))

pub keeps_by_margin : KeepsByMargin
keeps_by_margin goal cycle parts = Decides-like (keeps goal cycle parts) (λ h. omega (arith, ints)) (λ h. omega (arith, ints)) (keeps_by_cycle goal cycle parts)

rounds : (a b : ℕ) → 1 ≤ b → (x : ℕ) × Rounded a b x
rounds a b h =
    let x : ℕ = (2 * a + b) / (2 * b) in
    let low : x * (2 * b) ≤ 2 * a + b = div-mul-le_self (2 * a + b) (2 * b) in
    let some : 0 < 2 * b = omega arith in
    let high : 2 * a + b < 2 * b * (x + 1) = lt-mul-div-succ (2 * a + b) some in
    let p : x * (2 * b) ≡ 2 * (x * b) = sym (mul_assoc x 2 b) ∙ ap (λ n. n * b) (mul_comm x 2) ∙ mul_assoc 2 x b in
    let q : 2 * b * (x + 1) ≡ x * (2 * b) + 2 * b = mul-add (2 * b) x 1 ∙ ap (λ n. n + 2 * b * 1) (mul_comm (2 * b) x) ∙ ap (λ n. x * (2 * b) + n) (mul-one (2 * b)) in
    (x, record { low = omega arith; high = omega arith })

not_above : (a b x y : ℕ) → Rounded a b x → Rounded a b y → x ≤ y
not_above a b x y r s =
    let q : (y + 1) * b ≡ y * b + b = add-mul y 1 b ∙ ap (λ n. y * b + n) (one-mul b) in
    let l : x * b < (y + 1) * b = omega arith in
    omega (arith, lt_of_mul-lt-mul_right b l)

one : (a b x y : ℕ) → Rounded a b x → Rounded a b y → x ≡ y
one a b x y r s = omega (arith, not_above a b x y r s, not_above a b y x s r)

pub one_rounded : OneRounded
one_rounded = record { some = rounds; only = one }

pub one_load : OneLoad
one_load = record {
  some = λ pace cycle parts h. rounds (1000 * (pace * parts)) cycle h;
  only = λ pace cycle parts x y r s. one (1000 * (pace * parts)) cycle x y r s;
}
