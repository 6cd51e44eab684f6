-- Numbers below n that are all different are n at most.
use Rattle.std.proofs.Common.{◌≡◌, ℕ, zero, suc, ◌<◌, ◌≤◌, ◌≢◌, refl, subst, List, [], ◌∷◌, map, length, Bool, true, false, cond, eqb, arith}
use Rattle.std.proofs.lemmas.List.{length-map}
use Rattle.std.proofs.lemmas.Bool.{eqb-true, eqb-false}
use Rattle.walks.proofs.Each.{each_map}
use Rattle.walks.specs.ArcNet.{Each}
use Rattle.walks.specs.ArcNet.{Apart}

abbrev pub Id : ℕ → ℕ
Id x = x

-- xs without the first n
without : ℕ → List ℕ → List ℕ
without n [] = []
without n (x ∷ xs) = cond (eqb x n) xs (x ∷ without n xs)

shorter : (n : ℕ) (xs : List ℕ) → length xs ≤ suc (length (without n xs))
unfolding without
shorter n [] = omega arith
shorter n (x ∷ xs) = go (eqb x n) (shorter n xs)
  where
    go : (b : Bool) → length xs ≤ suc (length (without n xs)) → suc (length xs) ≤ suc (length (cond b xs (x ∷ without n xs)))
    go true h = omega arith
    go false h = omega arith

all_without : (P : ℕ → Type 0) (n : ℕ) (xs : List ℕ) → Each P xs → Each P (without n xs)
unfolding without
all_without P n [] a = tt
all_without P n (x ∷ xs) (p, a) = go (eqb x n) (all_without P n xs a)
  where
    go : (b : Bool) → Each P (without n xs) → Each P (cond b xs (x ∷ without n xs))
    go true h = a
    go false h = (p, h)

apart_without : (n : ℕ) (xs : List ℕ) → Apart Id xs → Apart Id (without n xs)
unfolding without
apart_without n [] a = tt
apart_without n (x ∷ xs) (p, a) = go (eqb x n) (apart_without n xs a)
  where
    go : (b : Bool) → Apart Id (without n xs) → Apart Id (cond b xs (x ∷ without n xs))
    go true h = a
    go false h = (all_without (λ y. y ≢ x) n xs p, h)

below_one : (n : ℕ) (xs : List ℕ) → Each (λ y. y < suc n) xs → Each (λ y. y ≢ n) xs → Each (λ y. y < n) xs
below_one n [] a b = tt
below_one n (x ∷ xs) (p, a) (q, b) = (omega arith, below_one n xs a b)

move : (m n : ℕ) (xs : List ℕ) → m ≡ n → Each (λ y. y ≢ m) xs → Each (λ y. y ≢ n) xs
move m n xs e a = subst (λ k. Each (λ y. y ≢ k) xs) e a

below : (n : ℕ) (xs : List ℕ) → Each (λ y. y < suc n) xs → Apart Id xs → Each (λ y. y < n) (without n xs)
unfolding without
below n [] a p = tt
below n (x ∷ xs) (q, a) (ne, p) = go (eqb x n) refl (below n xs a p)
  where
    go : (b : Bool) → eqb x n ≡ b → Each (λ y. y < n) (without n xs) → Each (λ y. y < n) (cond b xs (x ∷ without n xs))
    go true e h = below_one n xs a (move x n xs (eqb-true x n e) ne)
    go false e h = let ne : x ≢ n = eqb-false x n e in (omega arith, h)

none_below : (xs : List ℕ) → Each (λ y. y < 0) xs → length xs ≤ 0
none_below [] a = omega arith
none_below (x ∷ xs) (p, a) = absurd (omega arith)

pub few : (n : ℕ) (xs : List ℕ) → Each (λ y. y < n) xs → Apart Id xs → length xs ≤ n
few zero xs a p = none_below xs a
few (suc n) xs a p = omega (arith, few n (without n xs) (below n xs a p) (apart_without n xs p), shorter n xs)

pub apart_map : {X : Type 0} (f : X → ℕ) (xs : List X) → Apart f xs → Apart Id (map f xs)
apart_map f [] a = tt
apart_map f (x ∷ xs) (p, a) = (each_map (λ y. y ≢ f x) f xs p, apart_map f xs a)

-- the same of things that have a number each, all different and different from u
pub few_but : {X : Type 0} (f : X → ℕ) (n u : ℕ) (xs : List X) → u < n → Each (λ x. f x < n) xs → Apart f xs → Each (λ x. f x ≢ u) xs → length xs < n
few_but f n u xs h a p ne =
    omega (arith, few n (u ∷ map f xs) (h, each_map (λ y. y < n) f xs a) (each_map (λ y. y ≢ u) f xs ne, apart_map f xs p), length-map xs f)
