-- A loop that puts the text of each element of a list: at a turn, at the exit of a `?`, and at the end.
use Rattle.std.proofs.Common.{◌≡◌, ℕ, ◌+◌, ◌<◌, ◌≤◌, List, [], ◌∷◌, ◌++◌, length, get_or, take, drop, IsErrAnd, Result, Vec, sym, ap, ◌∙◌, subst, append-nil}
use Rattle.std.specs.List.{flat_map}
use Rattle.std.proofs.lemmas.Grind.{flat_map-append}
use Rattle.std.proofs.lemmas.List.{take_more, take_all, drop_more, take-append-drop}
use Rattle.texts.specs.Puts.{Added, Short, Puts}
use Rattle.texts.proofs.Chains.{both, next, stop, same_text}

module _ {X Z : Type 0} (f : X → List ℕ) where
  pub turn : {v w x : Vec ℕ Z} (xs : List X) (i : ℕ) (d : X) → i < length xs → d ≡ get_or xs i d → Added v (flat_map f (take i xs)) w → Added w (f d) x → Added v (flat_map f (take (i + 1) xs)) x
  turn {v} {w} {x} xs i d h is e g =
      let s : flat_map f (take i xs) ++ f d ≡ flat_map f (take (i + 1) xs) =
      ap (λ l. flat_map f (take i xs) ++ l) (ap f is ∙ sym (append-nil (f (get_or xs i d)))) ∙ sym (flat_map-append f (take i xs) (get_or xs i d ∷ [])) ∙ ap (λ l. flat_map f l) (sym (take_more xs i d h)) in
      subst (λ l. Added v l x) s (both v _ w _ x e g)

  pub halt : {U E : Type 0} (Q : E → Type 0) {v w x : Vec ℕ Z} (xs : List X) (i : ℕ) (d : X) (r : Result U E) → i < length xs → d ≡ get_or xs i d → Added v (flat_map f (take i xs)) w → IsErrAnd r Q → Short w (f d) x → Puts v (flat_map f xs) r x
  halt Q {v} {w} {x} xs i d r h is e q g =
      let s : flat_map f (take i xs) ++ (f d ++ flat_map f (drop (i + 1) xs)) ≡ flat_map f xs =
      ap (λ t. flat_map f (take i xs) ++ (f t ++ flat_map f (drop (i + 1) xs))) is ∙ ap (λ l. flat_map f (take i xs) ++ flat_map f l) (sym (drop_more xs i d h)) ∙ sym (flat_map-append f (take i xs) (drop i xs)) ∙ ap (λ l. flat_map f l) (take-append-drop i xs) in
      same_text v x r s (next _ x r e (stop Q _ r q g))

  pub after : {v w : Vec ℕ Z} (xs : List X) (i : ℕ) → length xs ≤ i → Added v (flat_map f (take i xs)) w → Added v (flat_map f xs) w
  after {v} {w} xs i h e = subst (λ l. Added v (flat_map f l) w) (take_all i xs h) e
