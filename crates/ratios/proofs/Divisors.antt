-- Two numbers over their greatest common divisor have no common divisor left.
use Prim.Native.Nat.{◌∣◌}
use Rattle.std.proofs.Common.{◌≡◌, ℕ, zero, suc, ◌*◌, ◌/◌, ◌<◌, ◌≤◌, sym, ap, ◌∙◌, subst, mul_assoc, mul_comm, mul_right_comm, mul-zero, zero-mul, mul-le-mul_right, div-add-mod', arith}
use Rattle.std.proofs.lemmas.Nat.Gcd.{mod-eq-zero_of_dvd, le_of_dvd}
use Rattle.std.proofs.Math.Nat.{dvd-mul_right}
use Rattle.std.specs.Int.{IsGcd}

-- A quotient by a divisor, times the divisor.
pub whole : (a d : ℕ) → d ∣ a → a / d * d ≡ a
whole a d h = omega (arith, div-add-mod' a d, mod-eq-zero_of_dvd d h)

pub divisor_some : (a d : ℕ) → 1 ≤ a → d ∣ a → 1 ≤ d
divisor_some a zero some h = absurd (omega (arith, whole a 0 h, mul-zero (a / 0)))
divisor_some a (suc d) some h = omega arith

pub quotient_some : (a d : ℕ) → 1 ≤ a → d ∣ a → 1 ≤ a / d
quotient_some a d some h = go (a / d) (whole a d h)
  where
    go : (q : ℕ) → q * d ≡ a → 1 ≤ q
    go zero e = absurd (omega (arith, zero-mul d))
    go (suc q) e = omega arith

pub same : (a b d : ℕ) → d ∣ a → d ∣ b → b / d * a ≡ a / d * b
same a b d p q =
    ap (λ x. b / d * x) (sym (whole a d p)) ∙ sym (mul_assoc (b / d) (a / d) d) ∙ ap (λ x. x * d) (mul_comm (b / d) (a / d)) ∙ mul_assoc (a / d) (b / d) d ∙ ap (λ x. a / d * x) (whole b d q)

-- A divisor of the quotient, times the divisor, divides the whole.
longer : (a d e m : ℕ) → d ∣ a → a / d ≡ e * m → e * d ∣ a
longer a d e m h q =
    subst (λ (x : ℕ). e * d ∣ x) (mul_right_comm e d m ∙ ap (λ x. x * d) (sym q) ∙ whole a d h) (dvd-mul_right (e * d) m)

one_of : (d e : ℕ) → 1 ≤ d → e * d ≤ d → (e ≡ 0 → ⊥) → e ≡ 1
one_of d zero some l not = absurd (not (omega arith))
one_of d (suc zero) some l not = omega arith
one_of d (suc (suc e)) some l not =
    let two : 2 ≤ suc (suc e) = omega arith in
    absurd (omega (arith, mul-le-mul_right d two))

pub lowest : (a b d : ℕ) → 1 ≤ a → IsGcd a b d → (e m k : ℕ) → a / d ≡ e * m → b / d ≡ e * k → e ≡ 1
lowest a b d some g e m k p q =
    let d_some : 0 < d = divisor_some a d some g.0 in
    one_of d e d_some (le_of_dvd d_some (g.2 (e * d) (longer a d e m g.0 p) (longer b d e k g.1 q)))
    (λ z. let none : a / d ≡ 0 = p ∙ ap (λ x. x * m) z ∙ zero-mul m in omega (arith, quotient_some a d some g.0))
