-- The lines of a text, cut off in front and put together.
use Rattle.std.proofs.Common.{◌≡◌, ℕ, zero, suc, ◌+◌, ◌<◌, Bool, true, false, cond, eqb, List, [], ◌∷◌, ◌++◌, length, get_or, drop, refl, sym, ap, ◌∙◌, subst, append_assoc, arith}
use Rattle.std.specs.List.{AllByRecursion, flat_map}
use Rattle.std.proofs.lemmas.List.{nil_from_length}
use Rattle.std.proofs.lemmas.Bool.Decides.{nat_tests}
use Rattle.std.proofs.lemmas.Bool.{false≢true}
use Rattle.lexer.specs.Text.{onto, lines}
use Rattle.cells.proofs.Parts.{joined_lines}
use Rattle.ahead.specs.Texts.{ended, unended, one_line}

-- lines, one after another
abbrev pub joined : List (List ℕ) → List ℕ
joined ls = flat_map (λ (l : List ℕ). l) ls

-- l is the first line of bs, and ls are the others
pub record Cut (bs l : List ℕ) (ls : List (List ℕ)) : Type 0 where
  pub parts : bs ≡ l ++ drop (length l) bs
  pub rest : ls ≡ lines (drop (length l) bs)
  pub one : one_line l ≡ true
  pub some : 0 < length l

cut_on : (c : Bool) (b : ℕ) (bs : List ℕ) (more : List (List ℕ)) → eqb b 10 ≡ c → lines bs ≡ more → ((m : List ℕ) (ms : List (List ℕ)) → more ≡ m ∷ ms → Cut bs m ms) → (l : List ℕ) (ls : List (List ℕ)) → cond c ((b ∷ []) ∷ more) (onto b more) ≡ l ∷ ls → Cut (b ∷ bs) l ls
cut_on true b bs more is left on l ls e =
    let here : b ∷ [] ≡ l = ap (λ x. get_or x 0 []) e in
    let behind : more ≡ ls = ap (drop 1) e in
    subst (λ x. Cut (b ∷ bs) x ls) here (subst (Cut (b ∷ bs) (b ∷ [])) behind (record { parts = refl; rest = sym left; one = grind (arith, nat_tests); some = omega arith }))
cut_on false b bs [] is left on l ls e =
    let here : b ∷ [] ≡ l = ap (λ x. get_or x 0 []) e in
    let behind : [] ≡ ls = ap (drop 1) e in
    subst (λ x. Cut (b ∷ bs) x ls) here (subst (Cut (b ∷ bs) (b ∷ [])) behind (record { parts = refl; rest = sym left; one = grind (arith, nat_tests); some = omega arith }))
cut_on false b bs (m ∷ ms) is left on l ls e =
    let here : b ∷ m ≡ l = ap (λ x. get_or x 0 []) e in
    let behind : ms ≡ ls = ap (drop 1) e in
    let k = on m ms refl in
    subst (λ x. Cut (b ∷ bs) x ls) here (subst (Cut (b ∷ bs) (b ∷ m)) behind (record { parts = ap (λ x. b ∷ x) k.parts; rest = k.rest; one = let one = k.one in let some = k.some in grind (arith, nat_tests); some = omega arith }))

pub cut : (bs l : List ℕ) (ls : List (List ℕ)) → lines bs ≡ l ∷ ls → Cut bs l ls
cut [] l ls e = absurd (omega (arith, ap length e))
cut (b ∷ bs) l ls e = cut_on (eqb b 10) b bs (lines bs) refl refl (cut bs) l ls e

pub no_lines : (bs : List ℕ) → lines bs ≡ [] → bs ≡ []
no_lines bs e = sym (joined_lines bs) ∙ ap joined e

-- a line that has ended, in front of others
pub ended_front : (l r : List ℕ) → ended l ≡ true → lines (l ++ r) ≡ l ∷ lines r
ended_front [] r w = absurd (false≢true w)
ended_front (b ∷ bs) r w = let more = ended_front bs r in let none = nil_from_length bs in grind (arith, nat_tests)

pub all_ended : (ls : List (List ℕ)) (r : List ℕ) → AllByRecursion (λ l. ended l ≡ true) ls → lines (joined ls ++ r) ≡ ls ++ lines r
all_ended [] r a = refl
all_ended (l ∷ ls) r a = ap lines (append_assoc l (joined ls) r) ∙ ended_front l (joined ls ++ r) a.0 ∙ ap (λ m. l ∷ m) (all_ended ls r a.1)

-- one that has not
pub one_unended : (l : List ℕ) → unended l ≡ true → 0 < length l → lines l ≡ l ∷ []
one_unended [] w some = absurd (omega arith)
one_unended (b ∷ []) w some = grind (arith, nat_tests)
one_unended (b ∷ x ∷ xs) w some = let more = one_unended (x ∷ xs) in grind (arith, nat_tests)

pub ended_more : (h p : List ℕ) → unended h ≡ true → ended p ≡ true → ended (h ++ p) ≡ true
ended_more [] p u e = e
ended_more (b ∷ h) p u e = let more = ended_more h p in grind (arith, nat_tests)

pub unended_more : (h p : List ℕ) → unended h ≡ true → unended p ≡ true → unended (h ++ p) ≡ true
unended_more [] p u e = e
unended_more (b ∷ h) p u e = let more = unended_more h p in grind (arith, nat_tests)

pub all_more : {X : Type 0} (P : X → Type 0) (xs : List X) (x : X) → AllByRecursion P xs → P x → AllByRecursion P (xs ++ x ∷ [])
all_more P [] x a p = (p, tt)
all_more P (y ∷ xs) x a p = (a.0, all_more P xs x a.1 p)

-- the last byte tells whether bytes of one line have their end
pub last_tells : (p : List ℕ) (n : ℕ) → length p ≡ n + 1 → one_line p ≡ true → ended p ≡ eqb (get_or p n 0) 10
last_tells [] n e o = absurd (omega arith)
last_tells (b ∷ []) n e o = let z : n ≡ 0 = omega arith in rw z (grind (arith, nat_tests))
last_tells (b ∷ x ∷ xs) zero e o = absurd (omega arith)
last_tells (b ∷ x ∷ xs) (suc n) e o = let more = last_tells (x ∷ xs) n (omega arith) in grind (arith, nat_tests)

-- bytes of one line that do not end it
pub other_last : (p : List ℕ) → one_line p ≡ true → ended p ≡ false → unended p ≡ true
other_last p o e = grind (arith, nat_tests)
