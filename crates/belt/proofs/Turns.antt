-- What a write and a step of the head do to a ring.
use Rattle.std.proofs.Common.{◌≡◌, ℕ, zero, suc, ◌+◌, ◌-◌, ◌%◌, ◌<◌, ◌≤◌, ◌⊎◌, List, [], ◌∷◌, ◌++◌, length, get_or, take, drop, set, Some, None, Option, sym, refl, ap, ◌∙◌, inl, inr, arith, append_assoc, append-nil, length-append, length-drop, length-set, length-take-le, get_or-set_same, mod-eq_of_lt}
use Rattle.std.specs.List.{FoldsTo}
use Rattle.std.proofs.Math.Nat.{mod-lt, mod-eq-sub-mod}
use Rattle.std.proofs.lemmas.Bool.{cases_lt}
use Rattle.std.proofs.lemmas.List.{drop-set-add, drop-set-lt, take-set-le, set-append_left, set-append_right, take_more, drop_more, take_more_set, take_all, drop_all, take-append-le, nil_from_length, length-take}
use Rattle.std.proofs.Math.Seq.{take-set-lt}
use Rattle.std.proofs.lemmas.List.Elements.{filter_map-append}
use Rattle.belt.specs.Turned.{turned, held, Sound}

-- a place below 2 n wraps once at most
wraps : (n j : ℕ) → j < n + n → ((j < n) × (j % n ≡ j)) ⊎ ((n ≤ j) × (j % n ≡ j - n))
wraps n j below = elim (cases_lt j n) [
  | inl near ↦ inl (near, mod-eq_of_lt near)
  | inr far ↦ inr (far, mod-eq-sub-mod far ∙ mod-eq_of_lt (omega arith))
]

module _ {T : Type 0} where
  pub length_turned : (s : List (Option T)) (h : ℕ) → h ≤ length s → length (turned s h) ≡ length s
  length_turned s h le = length-append (drop h s) (take h s) ∙ omega (arith, length-drop h s, length-take-le h s le)

  -- a write to the place k after the head
  turned_set : (s : List (Option T)) (h k : ℕ) (v : Option T) → h < length s → k < length s → turned (set s ((h + k) % length s) v) h ≡ set (turned s h) k v
  turned_set s h k v hl kl = elim (wraps (length s) (h + k) (omega arith)) [
    | inl near ↦
        ap (λ p. turned (set s p v) h) near.1
        ∙ (λ i. drop-set-add h s k v i ++ take-set-le h s (h + k) v (omega arith) i)
        ∙ sym (set-append_left (drop h s) (take h s) k v (omega (arith, length-drop h s)))
    | inr far ↦
        let at : (h + k) % length s ≡ k - (length s - h) = omega (arith, far.1) in
        ap (λ p. turned (set s p v) h) at
        ∙ (λ i. drop-set-lt h s (k - (length s - h)) v (omega arith) i ++ take-set-lt h s (k - (length s - h)) v (omega arith) i)
        ∙ sym (set-append_right (drop h s) (take h s) (length s - h) k v (length-drop h s) (omega arith))
  ]

  -- the slots after the head, round to the one before it
  abbrev others : List (Option T) → ℕ → List (Option T)
  others s h = drop (h + 1) s ++ take h s

  turned_front : (s : List (Option T)) (h : ℕ) → h < length s → turned s h ≡ get_or s h None ∷ others s h
  turned_front s h hl = ap (λ l. l ++ take h s) (drop_more s h None hl)

  turned_next : (s : List (Option T)) (h : ℕ) → h < length s → turned s ((h + 1) % length s) ≡ others s h ++ get_or s h None ∷ []
  turned_next s h hl = elim (wraps (length s) (h + 1) (omega arith)) [
    | inl near ↦
        ap (turned s) near.1
        ∙ ap (λ l. drop (h + 1) s ++ l) (take_more s h None hl)
        ∙ sym (append_assoc (drop (h + 1) s) (take h s) _)
    | inr last ↦
        let start : (h + 1) % length s ≡ 0 = omega (arith, last.1) in
        ap (turned s) start
        ∙ append-nil s
        ∙ sym (take_all (h + 1) s last.0)
        ∙ take_more s h None hl
        ∙ ap (λ l. (l ++ take h s) ++ get_or s h None ∷ []) (sym (drop_all (h + 1) s last.0))
  ]

  -- items are at most as many as slots
  held_few : (r : List (Option T)) → length (held r) ≤ length r
  held_few [] = omega arith
  held_few (None ∷ r) = omega (arith, held_few r)
  held_few (Some x ∷ r) = omega (arith, held_few r)

  -- an item into the first free slot
  held_put : (r : List (Option T)) (n : ℕ) (x : T) → n < length r → length (held (take n r)) ≡ n → length (held r) ≡ n → held (set r n (Some x)) ≡ held r ++ x ∷ []
  held_put [] n x lt front all = absurd (omega arith)
  held_put (None ∷ r) zero x lt front all = ap (λ l. x ∷ l) (nil_from_length (held r) all) ∙ ap (λ l. l ++ x ∷ []) (sym (nil_from_length (held r) all))
  held_put (Some y ∷ r) zero x lt front all = absurd (omega arith)
  held_put (None ∷ r) (suc n) x lt front all = absurd (omega (arith, held_few (take n r), length-take n r))
  held_put (Some y ∷ r) (suc n) x lt front all = ap (λ l. y ∷ l) (held_put r n x (omega arith) (omega arith) (omega arith))

  -- where n slots from the first on hold n items, the first holds one
  held_first : (o : Option T) (r : List (Option T)) (n : ℕ) → 0 < n → length (held (take n (o ∷ r))) ≡ n → (x : T) × (o ≡ Some x) × (length (held (take (n - 1) r)) ≡ n - 1)
  held_first o r zero lt e = absurd (omega arith)
  held_first None r (suc n) lt e = absurd (omega (arith, held_few (take n r), length-take n r))
  held_first (Some x) r (suc n) lt e = (x, refl, let less : suc n - 1 ≡ n = omega arith in ap (λ k. length (held (take k r))) less ∙ omega arith)

  -- slots that were all cleared
  none_held : {F : Type 0} (R : F → Option T → F → Type 0) → ((p : F) (o : Option T) (q : F) → R p o q → o ≡ None) → (s : List (Option T)) (p q : F) → FoldsTo R p s q → held s ≡ []
  none_held R clears [] p q f = refl
  none_held R clears (o ∷ s) p q f = ap (λ x. held (x ∷ s)) (clears p o f.0 f.1) ∙ none_held R clears s f.0 q f.2

  pub cleared : {F : Type 0} (R : F → Option T → F → Type 0) → ((p : F) (o : Option T) (q : F) → R p o q → o ≡ None) → (s : List (Option T)) (p q : F) → FoldsTo R p s q → held (turned s 0) ≡ []
  cleared R clears s p q f = ap held (append-nil s) ∙ none_held R clears s p q f

  module _ (s : List (Option T)) (h n : ℕ) (hl : h < length s) (sound : Sound s h n) where
    pub long : length (turned s h) ≡ length s
    long = length_turned s h (omega arith)

    pub put_held : (x : T) → n < length s → held (turned (set s ((h + n) % length s) (Some x)) h) ≡ held (turned s h) ++ x ∷ []
    put_held x room = ap held (turned_set s h n (Some x) hl room) ∙ held_put (turned s h) n x (omega (arith, long)) sound.2 sound.3

    pub put_sound : (x : T) → n < length s → Sound (set s ((h + n) % length s) (Some x)) h (n + 1)
    put_sound x room =
        let r = turned s h in
        let front : held (take (n + 1) (turned (set s ((h + n) % length s) (Some x)) h)) ≡ held (take n r) ++ x ∷ [] = ap (λ l. held (take (n + 1) l)) (turned_set s h n (Some x) hl room) ∙ ap held (take_more_set r n (Some x) (omega (arith, long))) ∙ filter_map-append (λ o. o) (take n r) (Some x ∷ []) in
        let wide = length-set s ((h + n) % length s) (Some x) in (
          omega arith,
          omega arith,
          ap length front ∙ length-append (held (take n r)) (x ∷ []) ∙ omega arith,
          ap length (put_held x room) ∙ length-append (held r) (x ∷ []) ∙ omega arith,
        )

    module _ (o : Option T) (gone : o ≡ None) where
      abbrev emptied : List (Option T)
      emptied = set s h o

      -- the oldest item, and what stays inside once its slot is o, which holds none
      pub record Taken : Type 0 where
        pub item : T
        pub was : get_or s h None ≡ Some item
        pub front : held (turned s h) ≡ item ∷ held (turned emptied ((h + 1) % length emptied))
        pub rest : Sound emptied ((h + 1) % length emptied) (n - 1)

      pub take_step : 0 < n → Taken
      take_step some =
          let q = others s h in
          let wide = length-set s h o in
          let first = held_first (get_or s h None) q n some (ap (λ l. length (held (take n l))) (sym (turned_front s h hl)) ∙ sound.2) in
          let after : turned emptied ((h + 1) % length emptied) ≡ q ++ o ∷ [] =
          turned_next emptied h (omega arith)
          ∙ (λ i. (drop-set-lt (h + 1) s h o (omega arith) i ++ take-set-le h s h o (omega arith) i) ++ get_or-set_same s h o None hl i ∷ []) in
          let inside : held (q ++ o ∷ []) ≡ held q = ap (λ x. held (q ++ x ∷ [])) gone ∙ filter_map-append (λ x. x) q (None ∷ []) ∙ append-nil (held q) in
          let all : held (turned s h) ≡ first.0 ∷ held q = ap held (turned_front s h hl) ∙ ap (λ x. held (x ∷ q)) first.1 in
          let many : length q + 1 ≡ length s = omega (arith, long, ap length (turned_front s h hl)) in
          record {
            item = first.0;
            was = first.1;
            front = all ∙ ap (λ l. first.0 ∷ l) (sym (ap held after ∙ inside));
            rest = (
              omega (arith, mod-lt (h + 1) {m = length emptied} (omega arith)),
              omega arith,
              ap (λ l. length (held (take (n - 1) l))) after ∙ ap (λ l. length (held l)) (take-append-le (n - 1) q (o ∷ []) (omega arith)) ∙ first.2,
              ap (λ l. length (held l)) after ∙ ap length inside ∙ omega (arith, ap length all, sound.3),
            );
          }
