-- One field: what it says where its check passes, and that the check passes where it was written.
use Rattle.std.proofs.Common.{◌≡◌, ℕ, zero, suc, ◌+◌, ◌^◌, ◌<◌, ◌≤◌, Bool, true, false, cond, not, ◌&&◌, ◌||◌, eqb, leb, List, [], ◌∷◌, ◌++◌, length, get_or, drop, decimal, sym, refl, ap, ◌∙◌, arith}
use Rattle.std.specs.List.{AllByRecursion}
use Rattle.std.specs.Str.{bytes_eq, all_ascii_digits}
use Rattle.std.proofs.ByRecursion.{All-weaker}
use Rattle.std.proofs.lemmas.List.{drop_all, drop_more}
use Rattle.std.proofs.lemmas.Slice.Eq.{bytes_eq-Decides}
use Rattle.std.proofs.lemmas.Bool.Decides.{nat_tests}
use Rattle.std.proofs.lemmas.Bool.{false≢true, and_parts, and_from, and_left, not-false, not_from_true, ne_eqb, eqb-true, le-leb, leb-true}
use Rattle.kinds.specs.Words.{kind_word}
use Rattle.kinds.specs.declared.kind.Kind.{Kind}
use Rattle.kinds.specs.declared.kind.Kind.TheVariants.{Own, Fixed, Float}
use Rattle.lexer.specs.Text.{fields, end, glue, line_of}
use Rattle.cells.specs.Bytes.{letter, plain, plains, well, filled, parted}
use Rattle.cells.specs.Values.{value, numeral, within, number, named, a_kind, kind_of}
use Rattle.cells.proofs.Digits.{numeral_is, decimal_is, digit_in}
use Rattle.cells.proofs.Parts.{glue_well, glue_fields}
use Rattle.sheets.specs.Checks.{missing, empty}

-- n elements of a list, from the k-th on
abbrev pub cells : ℕ → ℕ → List (List ℕ) → List (List ℕ)
cells k zero fs = []
cells k (suc n) fs = get_or fs k [] ∷ cells (k + 1) n fs

pub cells_are : (k n : ℕ) (fs : List (List ℕ)) → length fs ≡ k + n → drop k fs ≡ cells k n fs
cells_are k zero fs e = drop_all k fs (omega arith)
cells_are k (suc n) fs e = drop_more fs k [] (omega arith) ∙ ap (λ x. get_or fs k [] ∷ x) (cells_are (k + 1) n fs (omega arith))

pub fields_count : (n : ℕ) (l : List ℕ) → not (parted n l) ≡ false → length (fields l) ≡ n
fields_count n l p = eqb-true (length (fields l)) n (and_parts (filled (fields l)) (eqb (length (fields l)) n) (not-false (parted n l) p)).1

pub parted_at : (n : ℕ) (l : List ℕ) (fs : List (List ℕ)) → fields l ≡ fs → filled fs ≡ true → eqb (length fs) n ≡ true → not (parted n l) ≡ false
parted_at n l fs e f h = ap (λ x. not (filled x && eqb (length x) n)) e ∙ not_from_true (filled fs && eqb (length fs) n) (and_from (filled fs) (eqb (length fs) n) f h)

-- Numbers.

pub record Number (low high : ℕ) (f : List ℕ) : Type 0 where
  pub is : decimal (value f) ≡ f
  pub least : low ≤ value f
  pub most : value f ≤ high

pub number_is : (low high : ℕ) (f : List ℕ) → not (number low high f) ≡ false → Number low high f
number_is low high f p =
    let a = and_parts (numeral f) (within low high (value f)) (not-false (number low high f) p) in
    let b = and_parts (leb low (value f)) (leb (value f) high) a.1 in
    record { is = (numeral_is f a.0).0; least = leb-true low (value f) b.0; most = leb-true (value f) high b.1 }

pub number_at : (low high n : ℕ) (f : List ℕ) → f ≡ decimal n → high < 10 ^ 9 → low ≤ n → n ≤ high → not (number low high f) ≡ false
number_at low high n f e h least most =
    let d = decimal_is n (omega arith) in
    let range : within low high (value (decimal n)) ≡ true = ap (within low high) d.1 ∙ and_from (leb low n) (leb n high) (le-leb low n least) (le-leb n high most) in
    ap (λ x. not (number low high x)) e ∙ not_from_true (number low high (decimal n)) (and_from (numeral (decimal n)) (within low high (value (decimal n))) d.0 range)

pub value_at : (n : ℕ) (f : List ℕ) → f ≡ decimal n → n < 10 ^ 9 → value f ≡ n
value_at n f e h = ap value e ∙ (decimal_is n h).1

digits_plain : (ds : List ℕ) → all_ascii_digits ds ≡ true → plains ds ≡ true
digits_plain [] p = refl
digits_plain (d ∷ ds) p =
    let h = digit_in (d ∷ ds) 0 p (omega arith) in
    let one : plain d ≡ true = grind (arith, nat_tests) in
    and_from (plain d) (plains ds) one (digits_plain ds (and_parts _ (all_ascii_digits ds) p).1)

-- Bytes of which a field may be made, one at least.
abbrev pub Cell : List ℕ → Type 0
Cell f = (leb 1 (length f) ≡ true) × (plains f ≡ true)

pub decimal_cell : (n : ℕ) → n < 10 ^ 9 → Cell (decimal n)
decimal_cell n h =
    let a = and_parts (all_ascii_digits (decimal n)) _ (decimal_is n h).0 in
    ((and_parts (leb 1 (length (decimal n))) _ a.1).0, digits_plain (decimal n) a.0)

-- Names.

some_named : (f : List ℕ) → named f ≡ true → leb 1 (length f) ≡ true
some_named [] p = absurd (false≢true p)
some_named (b ∷ f) p = le-leb 1 (length (b ∷ f)) (omega arith)

pub name_cell : (f : List ℕ) → named f ≡ true → Cell f
name_cell f p = (some_named f p, (and_parts (leb (length f) 12) (plains f) (and_parts (letter (get_or f 0 0)) (leb (length f) 12 && plains f) p).1).1)

-- Kinds.

kind_ways : (f : List ℕ) (x y z : Bool) → (x ≡ true → f ≡ kind_word Own) → (y ≡ true → f ≡ kind_word Fixed) → (z ≡ true → f ≡ kind_word Float) → (x || (y || z)) ≡ true → kind_word (cond x Own (cond y Fixed Float)) ≡ f
kind_ways f true y z a b c p = sym (a refl)
kind_ways f false true z a b c p = sym (b refl)
kind_ways f false false true a b c p = sym (c refl)
kind_ways f false false false a b c p = absurd (false≢true p)

pub kind_is : (f : List ℕ) → not (a_kind f) ≡ false → kind_word (kind_of f) ≡ f
kind_is f p = kind_ways f (bytes_eq f (kind_word Own)) (bytes_eq f (kind_word Fixed)) (bytes_eq f (kind_word Float)) (bytes_eq-Decides f (kind_word Own)).0 (bytes_eq-Decides f (kind_word Fixed)).0 (bytes_eq-Decides f (kind_word Float)).0 (not-false (a_kind f) p)

pub kind_cell : (k : Kind) → Cell (kind_word k)
kind_cell Own = (refl, refl)
kind_cell Fixed = (refl, refl)
kind_cell Float = (refl, refl)

word_kind : (k : Kind) → not (a_kind (kind_word k)) ≡ false
word_kind Own = refl
word_kind Fixed = refl
word_kind Float = refl

pub kind_at : (k : Kind) (f : List ℕ) → f ≡ kind_word k → not (a_kind f) ≡ false
kind_at k f e = ap (λ x. not (a_kind x)) e ∙ word_kind k

word_back : (k : Kind) → kind_of (kind_word k) ≡ k
word_back Own = refl
word_back Fixed = refl
word_back Float = refl

pub kind_back : (k : Kind) (f : List ℕ) → f ≡ kind_word k → kind_of f ≡ k
kind_back k f e = ap kind_of e ∙ word_back k

-- Lines.

not_empty : (f r : List ℕ) → Cell f → empty (f ++ r) ≡ false
not_empty [] r c = absurd (false≢true c.0)
not_empty (b ∷ f) r c =
    let a = (and_parts (plain b) (plains f) c.1).0 in
    let n : eqb b 10 ≡ false = grind (arith, nat_tests) in
    and_left (eqb b 10) (bytes_eq (f ++ r) []) n

glue_full : (f : List ℕ) (fs : List (List ℕ)) → Cell f → empty (glue f fs) ≡ false
glue_full f [] c = not_empty f end c
glue_full f (g ∷ fs) c = not_empty f (32 ∷ glue g fs) c

all_filled : (fs : List (List ℕ)) → AllByRecursion Cell fs → filled fs ≡ true
all_filled [] a = refl
all_filled (f ∷ fs) a = and_from (leb 1 (length f)) (filled fs) a.0.0 (all_filled fs a.1)

-- What fields are written as.
pub record LineBack (fs : List (List ℕ)) : Type 0 where
  pub fine : well (line_of fs) ≡ true
  pub cut : fields (line_of fs) ≡ fs
  pub full : empty (line_of fs) ≡ false
  pub filled : filled fs ≡ true

pub line_is : (f : List ℕ) (fs : List (List ℕ)) → AllByRecursion Cell (f ∷ fs) → LineBack (f ∷ fs)
line_is f fs a =
    let plain = All-weaker Cell (λ g. plains g ≡ true) (λ g c. c.1) fs a.1 in
    record { fine = glue_well f fs a.0.1 plain; cut = glue_fields f fs a.0.1 plain; full = glue_full f fs a.0; filled = all_filled (f ∷ fs) a }

pub there : (l : List ℕ) → well l ≡ true → missing l ≡ false
there [] w = absurd (false≢true w)
there (b ∷ bs) w = ne_eqb (length (b ∷ bs)) 0 (λ e. omega arith)
