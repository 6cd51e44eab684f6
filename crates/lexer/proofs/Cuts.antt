-- A text cut after its first line, and a line after its first field.
use Rattle.std.proofs.Common.{◌≡◌, ℕ, suc, ◌+◌, ◌<◌, ◌≤◌, min, Bool, true, false, cond, not, eqb, List, [], ◌∷◌, ◌++◌, length, take, drop, Option, None, Some, Bor, inl, inr, refl, sym, ap, ◌∙◌, rules, one-add, add-one, arith, length-append}
use Rattle.std.specs.Option.{unwrap_or}
use Rattle.std.specs.Slice.{IsGetRangeResult}
use Rattle.std.specs.Bool.{MatchBool}
use Rattle.std.specs.List.{IsFirstMatchOrLen, position_or_len, before_first, after_first}
use Rattle.std.proofs.lemmas.List.{take_all, take_at, take_rest, drop_all}
use Rattle.std.proofs.lemmas.List.Sums.{position_or_len_is}
use Rattle.std.proofs.Math.Seq.{take-append_seam}
use Rattle.std.proofs.lemmas.Bool.Decides.{nat_tests}
use Rattle.std.proofs.lemmas.Grind.{common_steps}
use Rattle.lexer.specs.Text.{separates, lines, fields, onto}

abbrev ends : ℕ → Bool
ends b = eqb b 10

lines_step : (c : Bool) (b : ℕ) (bs : List ℕ) → (0 < length bs → lines bs ≡ take (suc (position_or_len ends bs)) bs ∷ lines (drop (suc (position_or_len ends bs)) bs)) → cond c ((b ∷ []) ∷ lines bs) (onto b (lines bs)) ≡ take (suc (cond (not c) (suc (position_or_len ends bs)) 0)) (b ∷ bs) ∷ lines (drop (suc (cond (not c) (suc (position_or_len ends bs)) 0)) (b ∷ bs))
lines_step true b bs more = refl
lines_step false b [] more = refl
lines_step false b (x ∷ xs) more = ap (onto b) (more (omega arith))

lines_cut : (bs : List ℕ) → 0 < length bs → lines bs ≡ take (suc (position_or_len ends bs)) bs ∷ lines (drop (suc (position_or_len ends bs)) bs)
lines_cut [] h = absurd (omega arith)
lines_cut (b ∷ bs) h = rw (one-add (position_or_len ends bs)) (lines_step (ends b) b bs (lines_cut bs))

-- the first line goes to the first line end, which it has, or to the text's end
pub first_line : (bs line rest : List ℕ) (i : ℕ) → bs ≡ line ++ rest → length line ≡ min (i + 1) (length bs) → IsFirstMatchOrLen ends bs i → 0 < length bs → lines bs ≡ line ∷ lines (drop (length line) bs)
first_line bs line rest i parts long first some =
    let at : position_or_len ends bs ≡ min i (length bs) = position_or_len_is ends bs (min i (length bs)) 0 (omega arith) (λ k h. first.0 k 0 (omega arith) (omega arith)) (λ h. let same : min i (length bs) ≡ i = omega arith in rw same (first.1 (omega arith) 0)) in
    let seam = take-append_seam line rest in
    let front : take (suc (position_or_len ends bs)) bs ≡ line = grind (arith, common_steps) in
    let back : drop (suc (position_or_len ends bs)) bs ≡ drop (length line) bs = grind (arith, common_steps) in
    lines_cut bs some ∙ (λ j. front j ∷ lines (back j))

-- no line is left just where no byte is
pub done_lines : (t : List ℕ) → eqb (length t) 0 ≡ eqb (length (lines t)) 0
done_lines [] = refl
done_lines (b ∷ bs) = let some = ap length (lines_cut (b ∷ bs) (omega arith)) in grind (arith, nat_tests)

fields_step : (c : Bool) (b : ℕ) (bs : List ℕ) → (0 < length bs → fields bs ≡ before_first separates bs ∷ fields (after_first separates bs)) → cond c ([] ∷ fields bs) (onto b (fields bs)) ≡ take (cond (not c) (suc (position_or_len separates bs)) 0) (b ∷ bs) ∷ fields (drop (suc (cond (not c) (suc (position_or_len separates bs)) 0)) (b ∷ bs))
fields_step true b bs more = refl
fields_step false b [] more = refl
fields_step false b (x ∷ xs) more = rw (← add-one (position_or_len separates (x ∷ xs))) (ap (onto b) (more (omega arith)))

-- the first field goes to the first separator, or to the line's end
pub first_field : (bs : List ℕ) → 0 < length bs → fields bs ≡ before_first separates bs ∷ fields (after_first separates bs)
first_field [] h = absurd (omega arith)
first_field (b ∷ bs) h = rw (add-one, one-add (position_or_len separates bs)) (fields_step (separates b) b bs (first_field bs))

-- a front is cut off at its length
front : (whole : Bool) (bs part more : List ℕ) → MatchBool whole (bs ≡ part) ((y : ℕ) × (bs ≡ part ++ (y ∷ more))) → (take (length part) bs ≡ part) × (length part ≤ length bs)
front true bs part more e = rw e (take_all (length part) part (omega arith), omega arith)
front false bs part more e = rw e.1 (take_at part (e.0 ∷ more) (length part) refl, omega (arith, length-append part (e.0 ∷ more)))

-- the first part that `split` gives is the first field
pub first_part : (whole : Bool) (bs part more : List ℕ) → MatchBool whole (bs ≡ part) ((y : ℕ) × (bs ≡ part ++ (y ∷ more))) → IsFirstMatchOrLen separates bs (length part) → 0 < length bs → fields bs ≡ part ∷ fields (drop (length part + 1) bs)
first_part whole bs part more cut first some =
    let f = front whole bs part more cut in
    let at : position_or_len separates bs ≡ length part = position_or_len_is separates bs (length part) 0 f.1 (λ k h. first.0 k 0 (omega arith) h) (λ h. first.1 h 0) in
    let is : before_first separates bs ≡ part = ap (λ n. take n bs) at ∙ f.0 in
    first_field bs some ∙ (λ i. is i ∷ fields (drop (at i + 1) bs))

-- what `get` gives behind a place, or nothing where it is past the end
pub past_place : (bs : List ℕ) (n : ℕ) (r : Option (Bor (List ℕ))) (d x : Bor (List ℕ)) → IsGetRangeResult bs n (length bs) r → d.now ≡ [] → x ≡ unwrap_or r d → x.now ≡ drop n bs
past_place bs n None d x g z e = ap (λ (b : Bor (List ℕ)). b.now) e ∙ z ∙ sym (drop_all n bs (elim g.0 [ inl h ↦ omega arith | inr h ↦ omega arith ]))
past_place bs n (Some y) d x g z e = ap (λ (b : Bor (List ℕ)). b.now) e ∙ g.0.2 ∙ take_rest bs n

none : (bs : List ℕ) (f : List ℕ) (fs : List (List ℕ)) → fields bs ≡ f ∷ fs → fields bs ≡ [] → bs ≡ []
none bs f fs some e = absurd (search (rules, sym some ∙ e))

-- A text without fields has no bytes.
pub no_fields : (bs : List ℕ) → fields bs ≡ [] → bs ≡ []
no_fields [] e = refl
no_fields (b ∷ bs) e = none (b ∷ bs) _ _ (first_field (b ∷ bs) (omega arith)) e
