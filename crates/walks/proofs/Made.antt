-- What the loops that fill a Vec have made.
use Rattle.std.proofs.Common.{◌≡◌, ℕ, ◌+◌, ◌<◌, ◌≤◌, ◌≢◌, ◌⊎◌, inl, inr, sym, ap, subst, ◌∙◌, List, [], ◌∷◌, ◌++◌, length, get_or, set, take, drop, ℤ, pos, arith}
use Rattle.std.proofs.lemmas.List.{take_more, length-take-le, drop-append-le, drop_all, get_or-set_same, get_or-set_other}
use Rattle.std.proofs.lemmas.Bool.{cases_eq}
use Rattle.walks.specs.ArcNet.{ArcNet, Lawful, Least}

pub part_more : (xs : List ℕ) (i k : ℕ) → i ≤ k → k < length xs → drop i (take (k + 1) xs) ≡ drop i (take k xs) ++ get_or xs k 0 ∷ []
part_more xs i k l h =
    ap (drop i) (take_more xs k 0 h) ∙ drop-append-le i (take k xs) (get_or xs k 0 ∷ []) (omega (arith, length-take-le k xs (omega arith)))

pub part_none : (xs : List ℕ) (i : ℕ) → i ≤ length xs → drop i (take i xs) ≡ []
part_none xs i h = drop_all i (take i xs) (omega (arith, length-take-le i xs h))

pub least_like : (g : ArcNet) → Lawful g → (x y : ℕ → g.V) → ((v : ℕ) → v < g.tasks → y v ≡ x v) → Least g x → Least g y
least_like g ok x y same l = record {
  settled = record {
    based = λ v h. subst (g.upto (g.base v)) (sym (same v h)) (l.settled.based v h);
    keeps = λ e h.
        subst (λ z. g.upto (g.step e z) (y (g.to e))) (sym (same (g.from e) (ok.from_task e h)))
        (subst (λ z. g.upto (g.step e (x (g.from e))) z) (sym (same (g.to e) (ok.to_task e h))) (l.settled.keeps e h));
  };
  least = λ z set v h. subst (λ w. g.upto w (z v)) (sym (same v h)) (l.least z set v h);
}

-- One element more of a list that is filled with f.
pub filled : (xs : List ℤ) (i : ℕ) (x : ℤ) (f : ℕ → ℤ) → i < length xs → x ≡ f i → ((k : ℕ) → k < i → get_or xs k (pos 0) ≡ f k) → (k : ℕ) → k < i + 1 → get_or (set xs i x) k (pos 0) ≡ f k
filled xs i x f h e so k l = go (cases_eq k i)
  where
    go : (k ≡ i) ⊎ (k ≢ i) → get_or (set xs i x) k (pos 0) ≡ f k
    go (inl q) = subst (λ (j : ℕ). get_or (set xs i x) j (pos 0) ≡ f j) (sym q) (get_or-set_same xs i x (pos 0) h ∙ e)
    go (inr ne) = get_or-set_other xs i k x (pos 0) ne ∙ so k (omega arith)
