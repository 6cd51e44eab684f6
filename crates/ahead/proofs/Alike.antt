-- A text gives one thing.
use Rattle.std.proofs.Common.{◌≡◌, ℕ, ◌+◌, Bool, true, false, List, [], ◌∷◌, ◌++◌, map, Some, None, Ok, Err, Option, refl, sym, ap, ◌∙◌}
use Rattle.std.proofs.lemmas.List.{map-append}
use Rattle.lexer.specs.Left.{counted}
use Rattle.cells.specs.Checks.{first}
use Rattle.cells.proofs.Firsts.{some_none, some_same}
use Rattle.ahead.specs.declared.given.Given.{Given}
use Rattle.ahead.specs.declared.given.Given.TheVariants.{Call, Fault}
use Rattle.ahead.specs.Givens.{line_checks, Gives, AllGive, none, headed, called, refused, given, refuses}
use Rattle.ahead.specs.Texts.{shown, lines_of, OneGiven}

-- one line
same_given : (n : ℕ) (l : List ℕ) (o p : Option Given) → Gives n l o → Gives n l p → (map shown (given o) ≡ map shown (given p)) × (refuses o ≡ refuses p)
same_given n l None None g h = (refl, refl)
same_given n l None (Some (Call d)) g h = absurd (h.0 g.0)
same_given n l None (Some (Fault e)) g h = absurd (some_none (first (line_checks n l)) e h g.1)
same_given n l (Some (Call c)) None g h = absurd (g.0 h.0)
same_given n l (Some (Call c)) (Some (Call d)) g h = (ap (λ x. Ok x ∷ []) (sym g.2 ∙ h.2), refl)
same_given n l (Some (Call c)) (Some (Fault e)) g h = absurd (some_none (first (line_checks n l)) e h g.1)
same_given n l (Some (Fault f)) None g h = absurd (some_none (first (line_checks n l)) f g h.1)
same_given n l (Some (Fault f)) (Some (Call d)) g h = absurd (some_none (first (line_checks n l)) f g h.1)
same_given n l (Some (Fault f)) (Some (Fault e)) g h = (ap (λ x. Err x ∷ []) (some_same (first (line_checks n l)) f e g h), refl)

-- what the first line gives, and then the others, where it is not refused

abbrev Others : Bool → ℕ → List (List ℕ) → List Given → Type 0
Others true n ls gs = gs ≡ []
Others false n ls gs = (over : Bool) × AllGive n ls gs over

record Opened (n : ℕ) (l : List ℕ) (ls : List (List ℕ)) (gs : List Given) : Type 0 where
  here : Option Given
  gives : Gives n l here
  others : List Given
  are : gs ≡ given here ++ others
  rest : Others (refuses here) (counted (n + 1)) ls others

abbrev Parts : ℕ → List (List ℕ) → List Given → Type 0
Parts n [] gs = gs ≡ []
Parts n (l ∷ ls) gs = Opened n l ls gs

opened : {n : ℕ} {ls : List (List ℕ)} {gs : List Given} {over : Bool} → AllGive n ls gs over → Parts n ls gs
opened none = refl
opened (headed {gs = gs} {over = over} g a) = record { here = None; gives = g; others = gs; are = refl; rest = (over, a) }
opened (called {c = c} {gs = gs} {over = over} g a) = record { here = Some (Call c); gives = g; others = gs; are = refl; rest = (over, a) }
opened (refused {f = f} g) = record { here = Some (Fault f); gives = g; others = []; are = refl; rest = refl }

same_others : (a b : Bool) (n : ℕ) (ls : List (List ℕ)) (gs hs : List Given) → a ≡ b → ((o p : Bool) → AllGive n ls gs o → AllGive n ls hs p → map shown gs ≡ map shown hs) → Others a n ls gs → Others b n ls hs → map shown gs ≡ map shown hs
same_others true true n ls gs hs e k x y = ap (map shown) (x ∙ sym y)
same_others true false n ls gs hs e k x y = cc
same_others false true n ls gs hs e k x y = cc
same_others false false n ls gs hs e k x y = k x.0 y.0 x.1 y.1

same_all : (n : ℕ) (ls : List (List ℕ)) (gs hs : List Given) (o p : Bool) → AllGive n ls gs o → AllGive n ls hs p → map shown gs ≡ map shown hs
same_all n [] gs hs o p x y = ap (map shown) (opened x ∙ sym (opened y))
same_all n (l ∷ ls) gs hs o p x y =
    let u = opened x in
    let v = opened y in
    let first = same_given n l u.here v.here u.gives v.gives in
    let others = same_others (refuses u.here) (refuses v.here) (counted (n + 1)) ls u.others v.others first.1 (λ a b. same_all (counted (n + 1)) ls u.others v.others a b) u.rest v.rest in
    ap (map shown) u.are ∙ map-append shown (given u.here) u.others
    ∙ (λ i. first.0 i ++ others i)
    ∙ sym (map-append shown (given v.here) v.others) ∙ ap (map shown) (sym v.are)

pub one_given : OneGiven
one_given t gs hs x y = same_all 1 (lines_of t) gs hs x.0 y.0 x.1 y.1
