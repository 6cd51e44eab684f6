-- How far a text of calls was read, and what a whole one gives.
use Rattle.std.specs.Prelude.{◌≡◌, ℕ, ◌+◌, Bool, true, false, cond, not, ◌||◌, List, [], ◌∷◌, ◌++◌, map, length, ◌==◌, Ok, Err, Result, vec_items, vec_len}
use Rattle.std.specs.List.{AllByRecursion, flat_map, list_all}
use Rattle.faults.specs.declared.fault.Fault as fault
use Rattle.lexer.specs.Left.{counted}
use Rattle.lexer.specs.Text.{lines}
use Rattle.cells.specs.Checks.{Check, bad}
use Rattle.ahead.specs.declared.ahead.Ahead.{Ahead}
use Rattle.calls.specs.Written.{written}
use Rattle.ahead.specs.declared.given.Given.{Given}
use Rattle.ahead.specs.declared.given.Given.TheVariants.{Call, Fault}
use Rattle.ahead.specs.Givens.{AllGive}

-- Bytes, and then one line end.
abbrev pub ended : List ℕ → Bool
ended [] = false
ended (b ∷ bs) = cond (b == 10) (length bs == 0) (ended bs)

-- Bytes without a line end.
abbrev pub unended : List ℕ → Bool
unended bs = list_all (λ b. not (b == 10)) bs

-- Bytes of one line, with its end or without.
abbrev pub one_line : List ℕ → Bool
one_line bs = ended bs || unended bs

-- Text t was read, and gave gs: its lines that have ended are told, and the bytes behind them are held.
pub record Reads (t : List ℕ) (gs : List Given) (a : Ahead) : Type 0 where
  pub told : List (List ℕ)
  pub text : t ≡ flat_map (λ (l : List ℕ). l) told ++ vec_items a.held
  pub each : AllByRecursion (λ l. ended l ≡ true) told
  pub behind : unended (vec_items a.held) ≡ true
  pub number : a.number ≡ counted (1 + length told)
  pub give : AllGive 1 told gs a.is_over

-- What is checked where a text ends of which so much was read: bytes that are held are a line without an end, and a text of no line lacks its heading. Below a refused line nothing is.
abbrev pub end_checks : Ahead → List Check
end_checks a = cond a.is_over [] (bad (not (vec_len a.held == 0)) 2 a.number 0 ∷ bad (a.number == 1) 3 1 0 ∷ [])

-- The lines of a whole text; where it has no byte, its heading is missing.
abbrev pub lines_of : List ℕ → List (List ℕ)
lines_of [] = [] ∷ []
lines_of (b ∷ bs) = lines (b ∷ bs)

-- A whole text gives gs.
abbrev pub Whole : List ℕ → List Given → Type 0
Whole t gs = (over : Bool) × AllGive 1 (lines_of t) gs over

-- What is given, without what no one sees of it: the line of a call, and a fault.
abbrev pub shown : Given → Result (List ℕ) fault.Fault
shown (Call c) = Ok (written c)
shown (Fault f) = Err f

-- A whole text gives one thing, however it was cut into pieces as it was read.
abbrev pub OneGiven : Type 0
OneGiven = (t : List ℕ) (gs hs : List Given) → Whole t gs → Whole t hs → map shown gs ≡ map shown hs
