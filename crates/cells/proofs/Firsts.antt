-- The first fault of checks, and of checks after others.
use Rattle.std.proofs.Common.{◌≡◌, Bool, true, false, cond, List, [], ◌∷◌, ◌++◌, Some, None, Option, refl, ap, ◌∙◌, arith}
use Rattle.std.specs.List.{AllByRecursion}
use Rattle.std.proofs.lemmas.Bool.Decides.{nat_tests}
use Rattle.faults.specs.declared.fault.Fault.{Fault}
use Rattle.cells.specs.Checks.{Check, First, first}

pub some_none : {X : Type 0} (o : Option X) (x : X) → o ≡ Some x → o ≡ None → ⊥
some_none o x p q = cc

pub some_same : {X : Type 0} (o : Option X) (x y : X) → o ≡ Some x → o ≡ Some y → x ≡ y
some_same o x y p q = cc

pub clear : (c : Check) (cs : List Check) → first (c ∷ cs) ≡ None → (c.broken ≡ false) × (first cs ≡ None)
clear c cs e = (grind (arith, nat_tests), grind (arith, nat_tests))

pub first_after : (xs ys : List Check) → first xs ≡ None → first (xs ++ ys) ≡ first ys
first_after [] ys e = refl
first_after (c ∷ xs) ys e = let more = first_after xs ys in grind (arith, nat_tests)

pub first_within : (xs ys : List Check) (f : Fault) → first xs ≡ Some f → first (xs ++ ys) ≡ Some f
first_within [] ys f e = cc
first_within (c ∷ xs) ys f e = let more = first_within xs ys f in grind (arith, nat_tests)

-- where nothing is broken in front and behind
pub none_parts : (xs ys : List Check) → first (xs ++ ys) ≡ None → (first xs ≡ None) × (first ys ≡ None)
none_parts [] ys e = (refl, e)
none_parts (c ∷ xs) ys e = let more = none_parts xs ys in (grind (arith, nat_tests), grind (arith, nat_tests))

pub none_both : (xs ys : List Check) → first xs ≡ None → first ys ≡ None → first (xs ++ ys) ≡ None
none_both xs ys e f = first_after xs ys e ∙ f

-- the first fault, by its definition
found : (c : Check) (cs : List Check) (f : Fault) (b : Bool) → c.broken ≡ b → (first cs ≡ Some f → First cs f) → cond b (Some c.told) (first cs) ≡ Some f → First (c ∷ cs) f
found c cs f true is k e = record { before = []; here = c; behind = cs; split = refl; in_order = tt; breaks = is; tells = cc }
found c cs f false is k e = let g = k e in record { before = c ∷ g.before; here = g.here; behind = g.behind; split = ap (λ l. c ∷ l) g.split; in_order = (is, g.in_order); breaks = g.breaks; tells = g.tells }

pub first_is : (cs : List Check) (f : Fault) → first cs ≡ Some f → First cs f
first_is [] f e = cc
first_is (c ∷ cs) f e = found c cs f c.broken refl (first_is cs f) e

pub all_none : (cs : List Check) → AllByRecursion (λ c. c.broken ≡ false) cs → first cs ≡ None
all_none [] a = refl
all_none (c ∷ cs) a = rw a.0 (all_none cs a.1)

pub first_from : (cs : List Check) (f : Fault) → First cs f → first cs ≡ Some f
first_from cs f k = ap first k.split ∙ first_after k.before (k.here ∷ k.behind) (all_none k.before k.in_order) ∙ rw k.breaks (ap Some k.tells)

-- no fault: each check is in order
pub passed : (cs : List Check) → first cs ≡ None → AllByRecursion (λ c. c.broken ≡ false) cs
passed [] e = tt
passed (c ∷ cs) e = let k = clear c cs e in (k.0, passed cs k.1)
