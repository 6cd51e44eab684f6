-- Lines and fields, cut apart and put together again.
use Rattle.std.proofs.Common.{◌<◌, ◌≤◌, suc, zero, get_or, take, ◌≡◌, ℕ, true, cond, ◌&&◌, ◌||◌, eqb, List, [], ◌∷◌, ◌++◌, length, refl, ap, ◌∙◌, arith}
use Rattle.std.specs.List.{flat_map, list_all, AllByRecursion}
use Rattle.std.proofs.lemmas.List.{nil_from_length}
use Rattle.std.proofs.lemmas.Bool.Decides.{nat_tests}
use Rattle.std.proofs.lemmas.Bool.{false≢true}
use Rattle.lexer.specs.Text.{separates, onto, lines, fields, end, glue, line_of}
use Rattle.lexer.proofs.Cuts.{first_field}
use Rattle.cells.specs.Bytes.{plain, plains, well}

-- the lines of a text are the text
joined_onto : (b : ℕ) (ls : List (List ℕ)) → flat_map (λ (l : List ℕ). l) (onto b ls) ≡ b ∷ flat_map (λ (l : List ℕ). l) ls
joined_onto b [] = refl
joined_onto b (l ∷ ls) = refl

pub joined_lines : (t : List ℕ) → flat_map (λ (l : List ℕ). l) (lines t) ≡ t
joined_lines [] = refl
joined_lines (b ∷ bs) = let on = joined_onto b (lines bs) in let more = joined_lines bs in grind (arith, nat_tests)

-- a line in front is the first line
pub lines_one : (l r : List ℕ) → well l ≡ true → lines (l ++ r) ≡ l ∷ lines r
lines_one [] r w = absurd (false≢true w)
lines_one (b ∷ bs) r w = let more = lines_one bs r in let none = nil_from_length bs in grind (arith, nat_tests)

-- whole lines, one after another, are the lines of their text
pub lines_all : (ls : List (List ℕ)) → AllByRecursion (λ l. well l ≡ true) ls → lines (flat_map (λ (l : List ℕ). l) ls) ≡ ls
lines_all [] a = refl
lines_all (l ∷ ls) a = lines_one l (flat_map (λ (l : List ℕ). l) ls) a.0 ∙ ap (λ m. l ∷ m) (lines_all ls a.1)

-- a line is put together from its fields
line_onto : (b : ℕ) (fs : List (List ℕ)) → 0 < length fs → line_of (onto b fs) ≡ b ∷ line_of fs
line_onto b [] h = absurd (omega arith)
line_onto b (f ∷ []) h = refl
line_onto b (f ∷ g ∷ fs) h = refl

line_gap : (fs : List (List ℕ)) → 0 < length fs → line_of ([] ∷ fs) ≡ 32 ∷ line_of fs
line_gap [] h = absurd (omega arith)
line_gap (f ∷ fs) h = refl

some_fields : (l : List ℕ) → 0 < length l → 0 < length (fields l)
some_fields l h = omega (arith, ap length (first_field l h))

pub line_back : (l : List ℕ) → well l ≡ true → l ≡ line_of (fields l)
line_back [] w = absurd (false≢true w)
line_back (b ∷ bs) w =
    let more = line_back bs in
    let some = some_fields bs in
    let on = line_onto b (fields bs) in
    let gap = line_gap (fields bs) in
    let none = nil_from_length bs in
    grind (arith, nat_tests)

pub well_front : (f r : List ℕ) → plains f ≡ true → well r ≡ true → well (f ++ r) ≡ true
well_front [] r p w = w
well_front (b ∷ f) r p w = let more = well_front f r in grind (arith, nat_tests)

pub fields_front : (f r : List ℕ) (s : ℕ) → separates s ≡ true → plains f ≡ true → fields (f ++ (s ∷ r)) ≡ f ∷ fields r
fields_front [] r s h p = ap (λ c. cond c ([] ∷ fields r) (onto s (fields r))) h
fields_front (b ∷ f) r s h p = let more = fields_front f r s h in grind (arith, nat_tests)

-- plain fields, put together, are a line in order that has those fields
pub glue_well : (f : List ℕ) (fs : List (List ℕ)) → plains f ≡ true → AllByRecursion (λ g. plains g ≡ true) fs → well (glue f fs) ≡ true
glue_well f [] p a = well_front f end p refl
glue_well f (g ∷ fs) p a = well_front f (32 ∷ glue g fs) p (glue_well g fs a.0 a.1)

pub glue_fields : (f : List ℕ) (fs : List (List ℕ)) → plains f ≡ true → AllByRecursion (λ g. plains g ≡ true) fs → fields (glue f fs) ≡ f ∷ fs
glue_fields f [] p a = fields_front f [] 10 refl p
glue_fields f (g ∷ fs) p a = fields_front f (glue g fs) 32 refl p ∙ ap (λ x. f ∷ x) (glue_fields g fs a.0 a.1)

-- a line in order ends in byte 10, and has only bytes of the format in front of it
pub well_is : (bs : List ℕ) (n : ℕ) → length bs ≡ suc n → well bs ≡ (eqb (get_or bs n 0) 10 && list_all (λ b. plain b || eqb b 32) (take n bs))
well_is [] n e = absurd (omega arith)
well_is (b ∷ []) zero e = grind (arith, nat_tests)
well_is (b ∷ []) (suc n) e = absurd (omega arith)
well_is (b ∷ x ∷ xs) zero e = absurd (omega arith)
well_is (b ∷ x ∷ xs) (suc n) e =
    let more = well_is (x ∷ xs) n (omega arith) in
    grind (arith, nat_tests)

-- a line has no more fields than bytes
pub fields_few : (l : List ℕ) → length (fields l) ≤ length l
fields_few [] = omega arith
fields_few (b ∷ bs) = let more = fields_few bs in let some = some_fields bs in grind (arith, nat_tests)
