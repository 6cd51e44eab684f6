-- What is checked of the heading of calls and of a call's line, in order, each check with the fault that it tells.
use Rattle.std.specs.Prelude.{ℕ, Bool, cond, not, ◌||◌, List, [], ◌∷◌, ◌++◌, codes}
use Rattle.std.specs.Str.{bytes_eq}
use Rattle.lexer.specs.Text.{line_of}
use Rattle.cells.specs.Bytes.{well, parted, field}
use Rattle.cells.specs.Checks.{Check, bad, number_checks, name_checks}
use Rattle.sheets.specs.Checks.{empty}
use Rattle.calls.specs.declared.call_word.CallWord.TheVariants.{Arrive, Need, Quiet, Busy}
use Rattle.calls.specs.Words.{word_of, all}

-- The line above all calls.
abbrev pub heading : List ℕ
heading = line_of (codes "call" ∷ codes "task" ∷ codes "value" ∷ [])

-- a call to one task, or to all
abbrev pub to_one : List ℕ → Bool
to_one w = bytes_eq w (word_of Arrive) || bytes_eq w (word_of Need)

abbrev pub to_all : List ℕ → Bool
to_all w = bytes_eq w (word_of Quiet) || bytes_eq w (word_of Busy)

-- The three fields of a call's line.

abbrev pub word_checks : ℕ → ℕ → List ℕ → List Check
word_checks line on w = bad (not (to_one w || to_all w)) 6 line on ∷ []

abbrev pub all_checks : ℕ → ℕ → List ℕ → List Check
all_checks line on f = bad (not (bytes_eq f all)) 6 line on ∷ []

-- Behind the word w: a name, whether a task has it or not, or the word for all.
abbrev pub whom_checks : List ℕ → ℕ → ℕ → List ℕ → List Check
whom_checks w line on f = cond (to_one w) (name_checks line on f) (all_checks line on f)

abbrev pub value_checks : ℕ → ℕ → List ℕ → List Check
value_checks = number_checks 0 999999999

abbrev pub call_checks : ℕ → List ℕ → List Check
call_checks line l =
    bad (not (well l)) 2 line 0
    ∷ bad (empty l) 3 line 0
    ∷ bad (not (parted 3 l)) 4 line 0
    ∷ (word_checks line 1 (field 0 l) ++ (whom_checks (field 0 l) line 2 (field 1 l) ++ value_checks line 3 (field 2 l)))
