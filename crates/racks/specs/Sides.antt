-- The places of two racks side by side, and the laws that they keep where both racks do.
use Rattle.std.specs.Prelude.{◌≡◌, ◌≢◌, ℕ, ◌-◌, ◌<◌, ◌≤◌, Bool, cond}
use Rattle.std.proofs.Common.{sym, ap, ◌∙◌, ⊎_elim, arith, lt-ltb, le-ltb}
use Rattle.std.proofs.lemmas.Bool.{cases_lt}
use Rattle.servers.specs.Service.{Service, Laws, Ticks}
use Rattle.racks.specs.Beside.{places_beside, beside, Sided}
use Rattle.racks.specs.declared.side_by_side.SideBySide.{SideBySide}

module _ (n : ℕ) (p q : ℕ → Service) (k : ℕ) where
  pub beside_left : k < n → beside n p q k ≡ p k
  beside_left h = ap (λ t. cond t (p k) (q (k - n))) (lt-ltb k n h)

  pub beside_right : n ≤ k → beside n p q k ≡ q (k - n)
  beside_right h = ap (λ t. cond t (p k) (q (k - n))) (le-ltb k n h)

-- Each place keeps the laws where each place of either rack does.
pub beside_keeps : (n m : ℕ) (p q : ℕ → Service) → ((k : ℕ) → k < n → Laws (p k)) → ((k : ℕ) → k < m → Laws (q k)) → (k : ℕ) → k < places_beside n m → Laws (beside n p q k)
beside_keeps n m p q first second k h =
    ⊎_elim
    (λ i. rw (beside_left n p q k i) (first k i))
    (λ i. rw (beside_right n p q k i) (second (k - n) (omega arith)))
    (cases_lt k n)

-- A rack of type A beside one of type B: the places of the first, and the services that both offer.
module _ {A B : Type 0} {places_a : A → ℕ} {service_a : A → ℕ → Service} {service_b : B → ℕ → Service} where
  pub racks_keep :
      {places_b : B → ℕ} →
      ((a : A) (k : ℕ) → k < places_a a → Laws (service_a a k)) →
      ((b : B) (k : ℕ) → k < places_b b → Laws (service_b b k)) →
      (s : SideBySide A B) (k : ℕ) → k < places_beside (places_a s.first) (places_b s.second) →
      Laws (beside (places_a s.first) (service_a s.first) (service_b s.second) k)
  racks_keep {places_b = places_b} first second s =
      beside_keeps (places_a s.first) (places_b s.second) (service_a s.first) (service_b s.second) (first s.first) (second s.second)

  -- And the ticks of each: one of the first rack leaves it as many places as it has.
  module _
      {steps_a : A → ℕ → Bool → Bool → A → Type 0} {steps_b : B → ℕ → Bool → Bool → B → Type 0}
      (stays : (a a' : A) (k : ℕ) (c g : Bool) → steps_a a k c g a' → places_a a' ≡ places_a a) where
    -- A tick moves the service at its place as a tick may, where it does in either rack.
    pub beside_moves :
        ((a a' : A) (k : ℕ) (c g : Bool) → steps_a a k c g a' → Ticks (service_a a k) g (service_a a' k)) →
        ((b b' : B) (k : ℕ) (c g : Bool) → steps_b b k c g b' → Ticks (service_b b k) g (service_b b' k)) →
        (s t : SideBySide A B) (k : ℕ) (c g : Bool) → Sided steps_a steps_b (places_a s.first) s.first s.second k c g t.first t.second →
        Ticks (beside (places_a s.first) (service_a s.first) (service_b s.second) k) g (beside (places_a t.first) (service_a t.first) (service_b t.second) k)
    beside_moves moves_a moves_b s t k c g m =
        let n = places_a s.first in
        let n' = places_a t.first in
        let p = service_a s.first in
        let p' = service_a t.first in
        let q = service_b s.second in
        let q' = service_b t.second in
        ⊎_elim
        (λ h.
        let e = stays s.first t.first k c g h.1 in
        rw (beside_left n p q k h.0, beside_left n' p' q' k (omega arith)) (moves_a s.first t.first k c g h.1))
        (λ h.
        let e : n' ≡ n = ap places_a h.2 in
        rw (beside_right n p q k h.0, beside_right n' p' q' k (omega arith), e) (moves_b s.second t.second (k - n) c g h.1))
        m

    -- A tick leaves the services at the other places as they were, where it does in either rack.
    pub beside_others :
        {places_b : B → ℕ} →
        ((a a' : A) (k : ℕ) (c g : Bool) → steps_a a k c g a' → (j : ℕ) → j < places_a a → j ≢ k → service_a a' j ≡ service_a a j) →
        ((b b' : B) (k : ℕ) (c g : Bool) → steps_b b k c g b' → (j : ℕ) → j < places_b b → j ≢ k → service_b b' j ≡ service_b b j) →
        (s t : SideBySide A B) (k : ℕ) (c g : Bool) → Sided steps_a steps_b (places_a s.first) s.first s.second k c g t.first t.second →
        (j : ℕ) → j < places_beside (places_a s.first) (places_b s.second) → j ≢ k →
        beside (places_a t.first) (service_a t.first) (service_b t.second) j ≡ beside (places_a s.first) (service_a s.first) (service_b s.second) j
    beside_others others_a others_b s t k c g m j within apart =
        let n = places_a s.first in
        let n' = places_a t.first in
        let p = service_a s.first in
        let p' = service_a t.first in
        let q = service_b s.second in
        let q' = service_b t.second in
        ⊎_elim
        (λ h.
        let e : n' ≡ n = stays s.first t.first k c g h.1 in
        ⊎_elim
        (λ i. beside_left n' p' q' j (omega arith) ∙ others_a s.first t.first k c g h.1 j i apart ∙ sym (beside_left n p q j i))
        (λ i. beside_right n' p' q' j (omega arith) ∙ ap (λ x. service_b x (j - n')) h.2 ∙ ap (λ x. q (j - x)) e ∙ sym (beside_right n p q j i))
        (cases_lt j n))
        (λ h.
        let e : n' ≡ n = ap places_a h.2 in
        ⊎_elim
        (λ i. beside_left n' p' q' j (omega arith) ∙ ap (λ x. service_a x j) h.2 ∙ sym (beside_left n p q j i))
        (λ i.
        beside_right n' p' q' j (omega arith) ∙ ap (λ x. q' (j - x)) e
        ∙ others_b s.second t.second (k - n) c g h.1 (j - n) (omega arith) (λ z. apart (omega arith)) ∙ sym (beside_right n p q j i))
        (cases_lt j n))
        m
