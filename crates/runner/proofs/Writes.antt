-- Lists with one element written.
use Rattle.std.proofs.Common.{◌≡◌, ℕ, zero, suc, replicate, ◌+◌, ◌<◌, List, length, get_or, set, refl, sym, subst, inl, inr, get_or-set_same, get_or-set_other, arith}
use Rattle.std.proofs.lemmas.Bool.{cases_eq}

module _ {A : Type 0} (P : ℕ → A → Type 0) (xs : List A) (i : ℕ) (x d : A) (there : i < length xs) (new : P i x) where
  -- what the element written has, and all others had
  pub all_written : ((u : ℕ) → P u (get_or xs u d)) → (u : ℕ) → P u (get_or (set xs i x) u d)
  all_written old u = elim (cases_eq u i) [
    | inl e ↦ subst (λ (k : ℕ). P k (get_or (set xs i x) k d)) (sym e) (subst (P i) (sym (get_or-set_same xs i x d there)) new)
    | inr e ↦ subst (P u) (sym (get_or-set_other xs i u x d e)) (old u)
  ]

  -- one more of the first elements has it
  pub one_more_written : ((u : ℕ) → u < i → P u (get_or xs u d)) → (u : ℕ) → u < i + 1 → P u (get_or (set xs i x) u d)
  one_more_written old u h = elim (cases_eq u i) [
    | inl e ↦ subst (λ (k : ℕ). P k (get_or (set xs i x) k d)) (sym e) (subst (P i) (sym (get_or-set_same xs i x d there)) new)
    | inr e ↦ subst (P u) (sym (get_or-set_other xs i u x d e)) (old u (omega arith))
  ]

pub each_nought : (n u : ℕ) → get_or {A = ℕ} (replicate n 0) u 0 ≡ 0
each_nought zero u = refl
each_nought (suc n) zero = refl
each_nought (suc n) (suc u) = each_nought n u
