-- What the lines of a text of calls give, one by one and all of them.
use Rattle.std.specs.Prelude.{◌≡◌, ◌≢◌, ℕ, ◌+◌, Bool, true, false, cond, List, [], ◌∷◌, ◌==◌, Some, None, Option}
use Rattle.lexer.specs.Left.{counted}
use Rattle.cells.specs.Checks.{Check, first}
use Rattle.faults.specs.declared.fault.Fault as fault
use Rattle.sheets.specs.Checks.{exact_checks}
use Rattle.calls.specs.declared.call_line.CallLine.{CallLine}
use Rattle.calls.specs.Checks.{heading, call_checks}
use Rattle.calls.specs.Written.{written}
use Rattle.ahead.specs.declared.given.Given.{Given}
use Rattle.ahead.specs.declared.given.Given.TheVariants.{Call, Fault}

-- What is checked of line n: the first has to be the heading, every other a call.
abbrev pub line_checks : ℕ → List ℕ → List Check
line_checks n l = cond (n == 1) (exact_checks heading n l) (call_checks n l)

-- What line n gives: the heading nothing, a call itself, and a line that is refused its first fault.
abbrev pub Gives : ℕ → List ℕ → Option Given → Type 0
Gives n l None = (n ≡ 1) × (first (line_checks n l) ≡ None)
Gives n l (Some (Call c)) = (n ≢ 1) × (first (line_checks n l) ≡ None) × (l ≡ written c)
Gives n l (Some (Fault f)) = first (line_checks n l) ≡ Some f

-- What lines give, the first of which has number n, and whether one is refused. Below that one nothing is read.
pub data AllGive : ℕ → List (List ℕ) → List Given → Bool → Type 0 where
  none : {n : ℕ} → AllGive n [] [] false
  headed : {n : ℕ} {l : List ℕ} {ls : List (List ℕ)} {gs : List Given} {over : Bool} → Gives n l None → AllGive (counted (n + 1)) ls gs over → AllGive n (l ∷ ls) gs over
  called : {n : ℕ} {l : List ℕ} {ls : List (List ℕ)} {c : CallLine} {gs : List Given} {over : Bool} → Gives n l (Some (Call c)) → AllGive (counted (n + 1)) ls gs over → AllGive n (l ∷ ls) (Call c ∷ gs) over
  refused : {n : ℕ} {l : List ℕ} {ls : List (List ℕ)} {f : fault.Fault} → Gives n l (Some (Fault f)) → AllGive n (l ∷ ls) (Fault f ∷ []) true

-- What a line gives, as a list, and whether it is refused.

abbrev pub given : Option Given → List Given
given None = []
given (Some g) = g ∷ []

abbrev pub refuses : Option Given → Bool
refuses None = false
refuses (Some (Call c)) = false
refuses (Some (Fault f)) = true
