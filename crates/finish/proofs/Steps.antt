-- The largest so far.
use Rattle.std.proofs.Common.{◌≡◌, ℕ, ◌+◌, ◌*◌, ◌<◌, ◌≤◌, max, ◌⊎◌, sym, subst, refl, inl, inr, mul_comm, arith}
use Rattle.std.proofs.lemmas.Bool.{cases_lt}
use Rattle.std.proofs.lemmas.Nat.{mul-add-lt}
use Rattle.finish.specs.Filling.{IsLargest}

-- an entry is within its table
pub cell : (n m u j : ℕ) → u < m → j < n → u * n + j < m * n
cell n m u j a b = omega (arith, mul-add-lt u n j m a b, mul_comm n m)

module _ (P : ℕ → Type 0) (f : ℕ → ℕ) (b : ℕ) where
  pub largest_none : IsLargest P f b 0 b
  largest_none = record { base = omega arith; upper = λ e h p. absurd (omega arith); met = inl refl }

  below : (m a : ℕ) → ((e : ℕ) → e < m → P e → f e ≤ a) → (P m → f m ≤ a) → (e : ℕ) → e < m + 1 → P e → f e ≤ a
  below m a all here e h p = go (cases_lt e m)
    where
      go : (e < m) ⊎ (m ≤ e) → f e ≤ a
      go (inr k) = let q : m ≡ e = omega arith in subst (λ (x : ℕ). P x → f x ≤ a) q here p
      go (inl k) = all e k p

  further : (m x : ℕ) → ((x ≡ b) ⊎ ((e : ℕ) × (e < m) × P e × (x ≡ f e))) → (x ≡ b) ⊎ ((e : ℕ) × (e < m + 1) × P e × (x ≡ f e))
  further m x (inl q) = inl q
  further m x (inr (e, h, p, q)) = inr (e, omega arith, p, q)

  -- the next is not picked
  pub largest_skip : (m x y : ℕ) → IsLargest P f b m x → y ≡ x → (P m → ⊥) → IsLargest P f b (m + 1) y
  largest_skip m x y l q n = subst (λ (z : ℕ). IsLargest P f b (m + 1) z) (sym q) (record { base = l.base; upper = below m x l.upper (λ p. absurd (n p)); met = further m x l.met })

  -- the next is picked
  pub largest_take : (m x y : ℕ) → IsLargest P f b m x → P m → y ≡ max x (f m) → IsLargest P f b (m + 1) y
  largest_take m x y l p q = go (cases_lt x (f m))
    where
      go : (x < f m) ⊎ (f m ≤ x) → IsLargest P f b (m + 1) y
      go (inl h) = record {
        base = omega (arith, l.base);
        upper = below m y (λ e k r. omega (arith, l.upper e k r)) (λ _. omega arith);
        met = inr (m, omega arith, p, omega arith);
      }
      go (inr h) =
          let same : y ≡ x = omega arith in
          subst (λ (z : ℕ). IsLargest P f b (m + 1) z) (sym same) (record { base = l.base; upper = below m x l.upper (λ _. h); met = further m x l.met })
