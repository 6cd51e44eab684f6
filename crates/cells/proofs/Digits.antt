-- Numbers and their digits.
use Rattle.std.proofs.Common.{◌≡◌, ℕ, ◌+◌, ◌-◌, ◌*◌, ◌^◌, ◌%◌, ◌<◌, ◌≤◌, true, not, ◌||◌, eqb, List, [], ◌∷◌, length, get_or, decimal, sym, refl, ap, ◌∙◌, subst, inl, inr, arith, rules}
use Rattle.std.specs.List.{fold}
use Rattle.std.specs.Int.{IsInRange}
use Rattle.std.specs.Str.{all_ascii_digits}
use Rattle.std.proofs.lemmas.Str.Parse.{IsNumeralModel, numerals_by_fold, tells_all_ascii_digits, digits_value_short, digit_at}
use Rattle.std.proofs.lemmas.Fmt.{decimal-digits_value, digits_value-decimal, digits_decimal, length-decimal-le, decimal_nonempty, first_decimal, decimal_digit}
use Rattle.std.proofs.lemmas.Bool.Decides.{nat_tests}
use Rattle.std.proofs.lemmas.Bool.{and_parts, and_from, or_right, le-leb, cases_eq}
use Rattle.cells.specs.Values.{read_on, value, numeral}

pub own : IsNumeralModel (λ ds. all_ascii_digits ds ≡ true) value
own = numerals_by_fold _ tells_all_ascii_digits read_on (search rules)

pub small : (ds : List ℕ) → all_ascii_digits ds ≡ true → length ds ≤ 9 → value ds < 10 ^ 9
small ds p h = digits_value_short own ds 9 p h

pub digit_in : (ds : List ℕ) (i : ℕ) → all_ascii_digits ds ≡ true → i < length ds → IsInRange 48 57 (get_or ds i 0)
digit_in ds i p h = digit_at ds i (own.to ds p) h

-- a numeral is the written form of its value
pub numeral_is : (ds : List ℕ) → numeral ds ≡ true → (decimal (value ds) ≡ ds) × (value ds < 10 ^ 9)
numeral_is ds p =
    let a = and_parts (all_ascii_digits ds) _ p in
    let short : length ds ≤ 9 = grind (arith, nat_tests) in
    let lead : get_or ds 0 0 ≡ 48 → length ds ≡ 1 = λ e. grind (arith, nat_tests) in
    let some : 0 < length ds = grind (arith, nat_tests) in
    let lt = small ds a.0 short in
    (decimal-digits_value own ds a.0 some lead (omega arith), lt)

-- and the written form of a number of up to 9 digits is a numeral, with that value
pub decimal_is : (n : ℕ) → n < 10 ^ 9 → (numeral (decimal n) ≡ true) × (value (decimal n) ≡ n)
decimal_is n h =
    let fits : n < 2 ^ 64 = omega arith in
    let d = digits_decimal own n fits in
    let short = length-decimal-le 9 n (omega arith) h fits in
    let some = decimal_nonempty n fits in
    let lead : (not (eqb (get_or (decimal n) 0 0) 48) || eqb (length (decimal n)) 1) ≡ true =
    elim (cases_eq n 0) [
      | inl e ↦ subst (λ l. (not (eqb (get_or l 0 0) 48) || eqb (length l) 1) ≡ true) (sym (decimal_digit n (omega arith))) (or_right _ _ refl)
      | inr ne ↦ let f = first_decimal n (omega arith) fits in grind (arith, nat_tests)
    ] in
    (and_from _ _ d (and_from _ _ (le-leb 1 _ some) (and_from _ _ (le-leb _ 9 short) lead)), digits_value-decimal own n fits)

-- digits only add to a number
pub grows : (n : ℕ) (ds : List ℕ) → n ≤ read_on n ds
grows n [] = omega arith
grows n (d ∷ ds) = omega (arith, grows (n * 10 + (d - 48)) ds)

-- one digit more, as a word of 64 bits and a byte take it
abbrev pub wrapped : ℕ → ℕ → ℕ
wrapped n d = ((n * 10) % 2 ^ 64 + (d + (2 ^ 8 - 48)) % 2 ^ 8) % 2 ^ 64

-- where the number fits, no step wraps
pub folded : (ds : List ℕ) (n : ℕ) → all_ascii_digits ds ≡ true → read_on n ds < 2 ^ 64 → fold wrapped n ds ≡ read_on n ds
folded [] n p h = refl
folded (d ∷ ds) n p h =
    let digit = digit_in (d ∷ ds) 0 p (omega arith) in
    let less = grows (n * 10 + (d - 48)) ds in
    let one : wrapped n d ≡ n * 10 + (d - 48) = omega (arith, digit.0, digit.1, less, h) in
    ap (λ m. fold wrapped m ds) one ∙ folded ds (n * 10 + (d - 48)) (and_parts _ (all_ascii_digits ds) p).1 h

-- a numeral is read as its value
pub numeral_read : (ds : List ℕ) (r : ℕ) → numeral ds ≡ true → r ≡ fold wrapped 0 ds → r ≡ value ds
numeral_read ds r p e = e ∙ folded ds 0 (and_parts (all_ascii_digits ds) _ p).0 (omega (arith, (numeral_is ds p).1))
