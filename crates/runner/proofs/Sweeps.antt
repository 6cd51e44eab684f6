-- One place more is swept.
use Rattle.std.proofs.Common.{◌≡◌, ℕ, suc, ◌+◌, ◌<◌, Bool, false, List, length, set, slice_index_or, sym, subst, get_or-set_same, get_or-set_other, add-one, arith}
use Rattle.runs.specs.Runs.{Sweep, none, more}
use Rattle.runner.specs.Serves.{marked}

module _ {R : Type 0} (steps : R → ℕ → Bool → Bool → R → Type 0) (claims : List Bool) where
  -- grants that agree on what was swept
  sweep_same : {grants grants' : ℕ → Bool} {a b : R} {n : ℕ} → ((v : ℕ) → v < n → grants v ≡ grants' v) → Sweep steps claims grants a n b → Sweep steps claims grants' a n b
  sweep_same same none = none
  sweep_same same (more {m} {b} {c} sweep step) =
      more (sweep_same (λ v h. same v (omega arith)) sweep) (subst (λ (t : Bool). steps b m (slice_index_or claims m false) t c) (same m (omega arith)) step)

  pub sweep_more :
      (grants : List Bool) (a b c : R) (v : ℕ) (given : Bool) → v < length grants →
      Sweep steps claims (marked grants) a v b → steps b v (slice_index_or claims v false) given c → Sweep steps claims (marked (set grants v given)) a (v + 1) c
  sweep_more grants a b c v given there sweep step =
      let on : Sweep steps claims (marked (set grants v given)) a (suc v) c =
      more (sweep_same (λ u h. sym (get_or-set_other grants v u given false (λ q. omega arith))) sweep)
      (subst (λ (t : Bool). steps b v (slice_index_or claims v false) t c) (sym (get_or-set_same grants v given false there)) step) in
      subst (λ (n : ℕ). Sweep steps claims (marked (set grants v given)) a n c) (sym (add-one v)) on
