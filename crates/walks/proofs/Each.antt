-- What holds of each of a list, by its elements and by its places.
use Rattle.std.proofs.Common.{ℕ, zero, suc, ◌<◌, List, [], ◌∷◌, ◌++◌, map, length, get_or, arith}
use Rattle.walks.specs.ArcNet.{Each}

pub each_push : {X : Type 0} (P : X → Type 0) (xs : List X) (y : X) → Each P xs → P y → Each P (xs ++ y ∷ [])
each_push P [] y a p = (p, tt)
each_push P (x ∷ xs) y (q, a) p = (q, each_push P xs y a p)

pub each_map : {X : Type 0} {Y : Type 0} (P : X → Type 0) (f : Y → X) (ys : List Y) → Each (λ y. P (f y)) ys → Each P (map f ys)
each_map P f [] a = tt
each_map P f (y ∷ ys) (q, a) = (q, each_map P f ys a)

pub each_at : {X : Type 0} (P : X → Type 0) (xs : List X) (i : ℕ) (d : X) → i < length xs → Each P xs → P (get_or xs i d)
each_at P [] i d h a = absurd (omega arith)
each_at P (x ∷ xs) zero d h (p, a) = p
each_at P (x ∷ xs) (suc i) d h (p, a) = each_at P xs i d (omega arith) a

pub each_from : {X : Type 0} (P : X → Type 0) (xs : List X) (d : X) → ((i : ℕ) → i < length xs → P (get_or xs i d)) → Each P xs
each_from P [] d all = tt
each_from P (x ∷ xs) d all = (all 0 (omega arith), each_from P xs d (λ i h. all (suc i) (omega arith)))
