-- The largest of finitely many numbers exists.
use Rattle.std.proofs.Common.{◌≡◌, ℕ, zero, suc, ◌<◌, ◌≤◌, ◌⊎◌, refl, subst, inl, inr, arith}
use Rattle.servers.specs.Rounding.{le_or_lt}

-- the largest of b and f e over those e below m that P picks
pub record Largest (P : ℕ → Type 0) (f : ℕ → ℕ) (b m : ℕ) : Type 0 where
  pub value : ℕ
  pub base : b ≤ value
  pub upper : (e : ℕ) → e < m → P e → f e ≤ value
  pub met : (value ≡ b) ⊎ ((e : ℕ) × (e < m) × P e × (value ≡ f e))

module _ (P : ℕ → Type 0) (f : ℕ → ℕ) (b : ℕ) where
  -- what holds below m, and of m, holds below suc m
  below : (m a : ℕ) → ((e : ℕ) → e < m → P e → f e ≤ a) → (P m → f m ≤ a) → (e : ℕ) → e < suc m → P e → f e ≤ a
  below m a all here e h p = go (le_or_lt m e)
    where
      go : (m ≤ e) ⊎ (e < m) → f e ≤ a
      go (inl k) = let q : m ≡ e = omega arith in subst (λ (x : ℕ). P x → f x ≤ a) q here p
      go (inr k) = all e k p

  further : (m : ℕ) (l : Largest P f b m) → ((l.value ≡ b) ⊎ ((e : ℕ) × (e < m) × P e × (l.value ≡ f e))) → (l.value ≡ b) ⊎ ((e : ℕ) × (e < suc m) × P e × (l.value ≡ f e))
  further m l (inl q) = inl q
  further m l (inr (e, h, p, q)) = inr (e, omega arith, p, q)

  skip : (m : ℕ) → Largest P f b m → (P m → ⊥) → Largest P f b (suc m)
  skip m l n = record {
    value = l.value;
    base = l.base;
    upper = below m l.value l.upper (λ p. absurd (n p));
    met = further m l l.met;
  }

  take : (m : ℕ) (l : Largest P f b m) → P m → (f m ≤ l.value) ⊎ (l.value < f m) → Largest P f b (suc m)
  take m l p (inl h) = record {
    value = l.value;
    base = l.base;
    upper = below m l.value l.upper (λ p. h);
    met = further m l l.met;
  }
  take m l p (inr h) = record {
    value = f m;
    base = omega arith;
    upper = below m (f m) (λ e k q. omega (arith, l.upper e k q)) (λ p. omega arith);
    met = inr (m, omega arith, p, refl);
  }

  next : (m : ℕ) → Largest P f b m → Dec (P m) → Largest P f b (suc m)
  next m l (yes p) = take m l p (le_or_lt (f m) l.value)
  next m l (no n) = skip m l n

  pub largest : ((e : ℕ) → Dec (P e)) → (m : ℕ) → Largest P f b m
  largest d zero = record { value = b; base = omega arith; upper = λ e h p. absurd (omega arith); met = inl refl }
  largest d (suc m) = next m (largest d m) (d m)
