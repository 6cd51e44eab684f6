-- Names: the place of one, and lists where none stands twice.
use Rattle.std.proofs.Common.{◌≡◌, ℕ, zero, suc, ◌+◌, ◌<◌, Bool, true, false, cond, ◌||◌, List, [], ◌∷◌, ◌++◌, length, get_or, sym, refl, ap, ◌∙◌, subst, inl, inr, add-one, arith}
use Rattle.std.specs.Str.{bytes_eq}
use Rattle.std.proofs.lemmas.Slice.Eq.{bytes_eq-Decides}
use Rattle.std.proofs.lemmas.List.{append_assoc, append-nil, length_push, length-append, get_or_append_left, get_or_at}
use Rattle.std.proofs.lemmas.Bool.{false≢true, both_ways, or_left, or_right, cases_Bool, cases_eq}
use Rattle.sheets.specs.Legal.{Distinct}
use Rattle.sheets.specs.Checks.{taken, index_of}

-- a name that is taken stands at its place
place_step : (b : Bool) (m : List ℕ) (ms : List (List ℕ)) (n : List ℕ) → (b ≡ true → m ≡ n) → (taken ms n ≡ true → (index_of ms n < length ms) × (get_or ms (index_of ms n) [] ≡ n)) → (b || taken ms n) ≡ true
    → (cond b 0 (index_of ms n + 1) < length (m ∷ ms)) × (get_or (m ∷ ms) (cond b 0 (index_of ms n + 1)) [] ≡ n)
place_step true m ms n same k h = (omega arith, same refl)
place_step false m ms n same k h = let p = k h in (omega (arith, p.0), rw add-one p.1)

pub place : (ns : List (List ℕ)) (n : List ℕ) → taken ns n ≡ true → (index_of ns n < length ns) × (get_or ns (index_of ns n) [] ≡ n)
place [] n h = absurd (false≢true h)
place (m ∷ ms) n h = place_step (bytes_eq m n) m ms n (bytes_eq-Decides m n).0 (place ms n) h

pub taken_at : (ns : List (List ℕ)) (i : ℕ) → i < length ns → taken ns (get_or ns i []) ≡ true
taken_at [] i h = absurd (omega arith)
taken_at (m ∷ ms) zero h = or_left (bytes_eq m m) (taken ms m) ((bytes_eq-Decides m m).1 refl)
taken_at (m ∷ ms) (suc i) h = or_right (bytes_eq m (get_or ms i [])) (taken ms (get_or ms i [])) (taken_at ms i (omega arith))

pub index_same : (ns : List (List ℕ)) (i : ℕ) → Distinct ns → i < length ns → index_of ns (get_or ns i []) ≡ i
index_same ns i d h = let p = place ns (get_or ns i []) (taken_at ns i h) in d (index_of ns (get_or ns i [])) i p.0 h p.1

-- each of ms differs from those before it and from ns
abbrev pub Apart : List (List ℕ) → List (List ℕ) → Type 0
Apart ns [] = Unit {0}
Apart ns (m ∷ ms) = (taken ns m ≡ false) × Apart (ns ++ m ∷ []) ms

distinct_push : (ns : List (List ℕ)) (m : List ℕ) → Distinct ns → taken ns m ≡ false → Distinct (ns ++ m ∷ [])
distinct_push ns m d free u v hu hv e =
    let n = length_push ns m in
    let last = get_or_at ns m [] [] (length ns) refl in
    let new : (w : ℕ) → w < length ns → get_or ns w [] ≡ m → ⊥ = λ w h k. both_ways (taken ns m) free (ap (taken ns) (sym k) ∙ taken_at ns w h) in
    elim (cases_eq u (length ns)) [
      | inl p ↦ elim (cases_eq v (length ns)) [
        | inl q ↦ p ∙ sym q
        | inr q ↦
            let below : v < length ns = omega (arith, n) in
            absurd (new v below (sym (get_or_append_left ns (m ∷ []) [] v below) ∙ sym e ∙ ap (λ w. get_or (ns ++ m ∷ []) w []) p ∙ last))
      ]
      | inr p ↦
          let under : u < length ns = omega (arith, n) in
          elim (cases_eq v (length ns)) [
            | inl q ↦ absurd (new u under (sym (get_or_append_left ns (m ∷ []) [] u under) ∙ e ∙ ap (λ w. get_or (ns ++ m ∷ []) w []) q ∙ last))
            | inr q ↦
                let below : v < length ns = omega (arith, n) in
                d u v under below (sym (get_or_append_left ns (m ∷ []) [] u under) ∙ e ∙ get_or_append_left ns (m ∷ []) [] v below)
          ]
    ]

distinct_more : (ns ms : List (List ℕ)) → Distinct ns → Apart ns ms → Distinct (ns ++ ms)
distinct_more ns [] d a = subst Distinct (sym (append-nil ns)) d
distinct_more ns (m ∷ ms) d a = subst Distinct (append_assoc ns (m ∷ []) ms) (distinct_more (ns ++ m ∷ []) ms (distinct_push ns m d a.0) a.1)

pub distinct : (ms : List (List ℕ)) → Apart [] ms → Distinct ms
distinct ms a = distinct_more [] ms (λ u v hu. absurd (omega arith)) a

pub apart : (ns ms : List (List ℕ)) → Distinct (ns ++ ms) → Apart ns ms
apart ns [] d = tt
apart ns (m ∷ ms) d =
    let free : taken ns m ≡ false = elim (cases_Bool (taken ns m)) [
      | inl t ↦
          let p = place ns m t in
          let n = length-append ns (m ∷ ms) in
          let same = d (index_of ns m) (length ns) (omega (arith, n, p.0)) (omega (arith, n)) (get_or_append_left ns (m ∷ ms) [] (index_of ns m) p.0 ∙ p.1 ∙ sym (get_or_at ns m ms [] (length ns) refl)) in
          absurd (omega (arith, same, p.0))
      | inr f ↦ f
    ] in
    (free, apart (ns ++ m ∷ []) ms (subst Distinct (sym (append_assoc ns (m ∷ []) ms)) d))
