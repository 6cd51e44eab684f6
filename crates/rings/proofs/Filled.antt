-- One element more of a list that is filled with f.
use Rattle.std.proofs.Common.{◌≡◌, ℕ, ◌+◌, ◌<◌, ◌≢◌, ◌⊎◌, inl, inr, sym, ◌∙◌, subst, List, length, get_or, set, arith}
use Rattle.std.proofs.lemmas.List.{get_or-set_same, get_or-set_other}
use Rattle.std.proofs.lemmas.Bool.{cases_eq}

pub filled : {X : Type 0} (xs : List X) (i : ℕ) (x d : X) (f : ℕ → X) → i < length xs → x ≡ f i → ((k : ℕ) → k < i → get_or xs k d ≡ f k) → (k : ℕ) → k < i + 1 → get_or (set xs i x) k d ≡ f k
filled xs i x d f h e so k l = go (cases_eq k i)
  where
    go : (k ≡ i) ⊎ (k ≢ i) → get_or (set xs i x) k d ≡ f k
    go (inl q) = subst (λ (j : ℕ). get_or (set xs i x) j d ≡ f j) (sym q) (get_or-set_same xs i x d h ∙ e)
    go (inr ne) = get_or-set_other xs i k x d ne ∙ so k (omega arith)
