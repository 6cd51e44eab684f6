-- What is read of a call's line.
use Rattle.std.proofs.Common.{◌≡◌, ℕ, true, false, not, ◌||◌, get_or, List, [], ◌∷◌, ◌++◌, Some, None, Ok, Err, Result, MatchResult, decimal, sym, ap, ◌∙◌, arith}
use Rattle.std.specs.Str.{bytes_eq}
use Rattle.std.proofs.lemmas.Slice.Eq.{bytes_eq-Decides}
use Rattle.std.proofs.lemmas.Bool.{false_from_ne_true, or_from, and_parts, not_from_true}
use Rattle.std.proofs.lemmas.Bool.Decides.{nat_tests}
use Rattle.faults.specs.declared.fault.Fault.{Fault}
use Rattle.lexer.specs.Text.{fields, line_of}
use Rattle.cells.specs.Bytes.{well, parted}
use Rattle.cells.specs.Values.{value, numeral, number}
use Rattle.cells.specs.Checks.{Check, bad, Meets, first}
use Rattle.cells.proofs.Digits.{numeral_is}
use Rattle.cells.proofs.Firsts.{first_after, first_within, all_none}
use Rattle.cells.proofs.Parts.{line_back}
use Rattle.sheets.specs.Checks.{empty}
use Rattle.calls.specs.Checks.{to_one, to_all, word_checks, whom_checks, value_checks, call_checks}
use Rattle.calls.specs.Fields.{Split}
use Rattle.calls.specs.Words.{word_of, Names}
use Rattle.calls.specs.Written.{fields_of, written}
use Rattle.calls.specs.declared.call_line.CallLine.{CallLine}
use Rattle.calls.specs.declared.call_word.CallWord.{CallWord}
use Rattle.calls.specs.declared.call_word.CallWord.TheVariants.{Arrive, Need, Quiet, Busy}
use Rattle.calls.specs.declared.call_word.UnknownCall.{UnknownCall}
use Rattle.calls.specs.declared.fields.CallFields.{CallFields}

not_same : (xs ys : List ℕ) → (xs ≡ ys → ⊥) → bytes_eq xs ys ≡ false
not_same xs ys n = false_from_ne_true (bytes_eq xs ys) (λ t. n ((bytes_eq-Decides xs ys).0 t))

-- a word names one of the calls, or none
pub word_named : (bs : List ℕ) (r : Result CallWord UnknownCall) → Names bs r → MatchResult r (λ w. ((to_one bs || to_all bs) ≡ true) × (bs ≡ word_of w)) (λ _. (to_one bs || to_all bs) ≡ false)
word_named bs (Ok Arrive) e = (ap (λ x. to_one x || to_all x) e, e)
word_named bs (Ok Need) e = (ap (λ x. to_one x || to_all x) e, e)
word_named bs (Ok Quiet) e = (ap (λ x. to_one x || to_all x) e, e)
word_named bs (Ok Busy) e = (ap (λ x. to_one x || to_all x) e, e)
word_named bs (Err u) n =
    or_from _ _
    (or_from _ _ (not_same bs (word_of Arrive) (n Arrive)) (not_same bs (word_of Need) (n Need)))
    (or_from _ _ (not_same bs (word_of Quiet) (n Quiet)) (not_same bs (word_of Busy) (n Busy)))

-- a number in its range is written as it stands
pub value_written : (line on : ℕ) (bs : List ℕ) (r : Result ℕ Fault) → Meets r (value_checks line on bs) (λ n. n ≡ value bs) → Meets r (value_checks line on bs) (λ n. bs ≡ decimal n)
value_written line on bs (Err f) m = m
value_written line on bs (Ok n) m =
    let is : number 0 999999999 bs ≡ true = grind (arith, nat_tests) in
    (m.0, sym (numeral_is bs (and_parts (numeral bs) _ is).0).0 ∙ ap decimal (sym m.1))

-- the checks of the fields behind the word w, and of all three
abbrev pub behind : CallWord → CallFields → List Check
behind w f = whom_checks (word_of w) f.whom.line f.whom.field f.whom.part.now ++ value_checks f.value.line f.value.field f.value.part.now

abbrev pub first_field : CallFields → List Check
first_field f = word_checks f.word.line f.word.field f.word.part.now

abbrev pub checks_of : CallFields → List Check
checks_of f = first_field f ++ (whom_checks f.word.part.now f.whom.line f.whom.field f.whom.part.now ++ value_checks f.value.line f.value.field f.value.part.now)

abbrev at_fields : ℕ → List (List ℕ) → List Check
at_fields line fs = word_checks line 1 (get_or fs 0 []) ++ (whom_checks (get_or fs 0 []) line 2 (get_or fs 1 []) ++ value_checks line 3 (get_or fs 2 []))

-- a line that has three fields with one space between them is checked field by field
pub shaped : (line : ℕ) (l : List ℕ) (f : CallFields) → well l ≡ true → empty l ≡ false → Split line l f → first (call_checks line l) ≡ first (checks_of f)
shaped line l f w e s =
    let shape = bad (not (well l)) 2 line 0 ∷ bad (empty l) 3 line 0 ∷ bad (not (parted 3 l)) 4 line 0 ∷ [] in
    first_after shape (at_fields line (fields l)) (all_none shape (not_from_true (well l) w, (e, (not_from_true (parted 3 l) s.whole, tt))))
    ∙ ap (λ fs. first (at_fields line fs)) s.are
    ∙ (λ i. first (word_checks (sym s.word.line_is i) (sym s.word.field_is i) f.word.part.now ++ (whom_checks f.word.part.now (sym s.whom.line_is i) (sym s.whom.field_is i) f.whom.part.now ++ value_checks (sym s.value.line_is i) (sym s.value.field_is i) f.value.part.now)))

-- the first field names no call
pub no_word : (f : CallFields) (cs : List Check) (y : Fault) → first cs ≡ first (checks_of f) → first (first_field f) ≡ Some y → first cs ≡ Some y
no_word f cs y e n = e ∙ first_within (first_field f) (whom_checks f.word.part.now f.whom.line f.whom.field f.whom.part.now ++ value_checks f.value.line f.value.field f.value.part.now) y n

-- it names w, and the other two are in order
pub all_three : (f : CallFields) (w : CallWord) (cs : List Check) → first cs ≡ first (checks_of f) → first (first_field f) ≡ None → f.word.part.now ≡ word_of w → first cs ≡ first (behind w f)
all_three f w cs e n named =
    e
    ∙ first_after (first_field f) (whom_checks f.word.part.now f.whom.line f.whom.field f.whom.part.now ++ value_checks f.value.line f.value.field f.value.part.now) n
    ∙ ap (λ x. first (whom_checks x f.whom.line f.whom.field f.whom.part.now ++ value_checks f.value.line f.value.field f.value.part.now)) named

-- a line in order is the call of its fields, as it is written
pub line_written : (line : ℕ) (l : List ℕ) (f : CallFields) (w : CallWord) (c : CallLine) → well l ≡ true → Split line l f → f.word.part.now ≡ word_of w → fields_of c ≡ word_of w ∷ f.whom.part.now ∷ f.value.part.now ∷ [] → l ≡ written c
line_written line l f w c k s named are = line_back l k ∙ ap line_of (s.are ∙ ap (λ x. x ∷ f.whom.part.now ∷ f.value.part.now ∷ []) named ∙ sym are)
