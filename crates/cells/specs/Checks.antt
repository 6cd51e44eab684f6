-- Checks in an order, each with the fault that it tells, and the first that fails.
use Rattle.std.specs.Prelude.{◌≡◌, ℕ, Bool, true, false, cond, not, List, [], ◌∷◌, ◌++◌, Some, None, Ok, Err, Option, Result}
use Rattle.std.specs.List.{AllByRecursion}
use Rattle.faults.specs.Faults.{fault}
use Rattle.faults.specs.declared.fault.Fault.{Fault}
use Rattle.faults.specs.declared.layer.Layer.TheVariants.{Reader}
use Rattle.cells.specs.Values.{number, named, a_kind}

pub record Check : Type 0 where
  pub broken : Bool
  pub told : Fault

-- The reader's fault n at a line and a field, where `b` holds.
abbrev pub bad : Bool → ℕ → ℕ → ℕ → Check
bad b n line field = record { broken = b; told = fault n Reader line field }

-- One field f, at a line and field.

abbrev pub number_checks : ℕ → ℕ → ℕ → ℕ → List ℕ → List Check
number_checks low high line on f = bad (not (number low high f)) 5 line on ∷ []

abbrev pub name_checks : ℕ → ℕ → List ℕ → List Check
name_checks line on f = bad (not (named f)) 6 line on ∷ []

abbrev pub kind_checks : ℕ → ℕ → List ℕ → List Check
kind_checks line on f = bad (not (a_kind f)) 6 line on ∷ []

-- Fault f is told: some check breaks with it, and all before it are in order.
pub record First (cs : List Check) (f : Fault) : Type 0 where
  pub before : List Check
  pub here : Check
  pub behind : List Check
  pub split : cs ≡ before ++ (here ∷ behind)
  pub in_order : AllByRecursion (λ c. c.broken ≡ false) before
  pub breaks : here.broken ≡ true
  pub tells : here.told ≡ f

abbrev pub first : List Check → Option Fault
first [] = None
first (c ∷ cs) = cond c.broken (Some c.told) (first cs)

-- What is answered after these checks: a value of which P holds, where none fails, else the first fault.
abbrev pub Meets : {X : Type 0} → Result X Fault → List Check → (X → Type 0) → Type 0
Meets (Ok x) cs P = (first cs ≡ None) × P x
Meets (Err f) cs P = first cs ≡ Some f
