-- What lines give, with one line more, and how a text is read on.
use Rattle.std.proofs.Common.{◌≡◌, ℕ, ◌+◌, ◌^◌, ◌<◌, Bool, true, false, cond, eqb, List, [], ◌∷◌, ◌++◌, length, Some, None, Option, vec_items, refl, sym, ap, ◌∙◌, subst, append_assoc, arith}
use Rattle.std.proofs.lemmas.Grind.{flat_map-append}
use Rattle.std.proofs.lemmas.List.{append-nil, length_push, length-append, nil_from_length}
use Rattle.std.proofs.lemmas.Bool.Decides.{nat_tests}
use Rattle.std.proofs.lemmas.Bool.{false≢true}
use Rattle.faults.specs.Faults.{fault}
use Rattle.faults.specs.declared.layer.Layer.TheVariants.{Reader}
use Rattle.lexer.specs.Left.{counted}
use Rattle.lexer.specs.Text.{lines}
use Rattle.cells.specs.Bytes.{well}
use Rattle.cells.specs.Checks.{first}
use Rattle.sheets.specs.Checks.{missing, exact_checks}
use Rattle.calls.specs.Checks.{heading, call_checks}
use Rattle.ahead.specs.declared.ahead.Ahead.{Ahead}
use Rattle.ahead.specs.declared.given.Given.{Given}
use Rattle.ahead.specs.declared.given.Given.TheVariants.{Call, Fault}
use Rattle.ahead.specs.Givens.{line_checks, Gives, given, refuses, AllGive, none, headed, called, refused}
use Rattle.ahead.specs.Texts.{ended, unended, Reads, lines_of}
use Rattle.ahead.proofs.Cuts.{joined, all_ended, one_unended, ended_more, unended_more, all_more}

one_gives : (n : ℕ) (l : List ℕ) (o : Option Given) → Gives n l o → AllGive n (l ∷ []) (given o) (refuses o)
one_gives n l None g = headed g none
one_gives n l (Some (Call c)) g = called g none
one_gives n l (Some (Fault f)) g = refused g

-- one line more
pub gives_more : {n : ℕ} {ls : List (List ℕ)} {gs : List Given} {over : Bool} → AllGive n ls gs over → over ≡ false → n < 2 ^ 32 → (l : List ℕ) (o : Option Given) → Gives (counted (n + length ls)) l o → AllGive n (ls ++ l ∷ []) (gs ++ given o) (refuses o)
gives_more {n = n} none f s l o g = let here : counted (n + 0) ≡ n = omega arith in one_gives n l o (subst (λ m. Gives m l o) here g)
gives_more {n = n} (headed {ls = ls} h a) f s l o g =
    let on : counted (n + length (l ∷ ls)) ≡ counted (counted (n + 1) + length ls) = omega arith in
    headed h (gives_more a f (omega arith) l o (subst (λ m. Gives m l o) on g))
gives_more {n = n} (called {ls = ls} h a) f s l o g =
    let on : counted (n + length (l ∷ ls)) ≡ counted (counted (n + 1) + length ls) = omega arith in
    called h (gives_more a f (omega arith) l o (subst (λ m. Gives m l o) on g))
gives_more (refused h) f s l o g = absurd (false≢true (sym f))

-- below a refused line nothing is read
pub gives_no_more : {n : ℕ} {ls : List (List ℕ)} {gs : List Given} {over : Bool} → AllGive n ls gs over → over ≡ true → (ms : List (List ℕ)) → AllGive n (ls ++ ms) gs true
gives_no_more none f ms = absurd (false≢true f)
gives_no_more (headed h a) f ms = headed h (gives_no_more a f ms)
gives_no_more (called h a) f ms = called h (gives_no_more a f ms)
gives_no_more (refused h) f ms = refused h

pub some_told : {n : ℕ} {ls : List (List ℕ)} {gs : List Given} {over : Bool} → AllGive n ls gs over → over ≡ true → 0 < length ls
some_told none f = absurd (false≢true f)
some_told (headed h a) f = omega arith
some_told (called h a) f = omega arith
some_told (refused h) f = omega arith

-- from a to d the bytes p were read, which gave o
pub record Ends (a : Ahead) (p : List ℕ) (o : Option Given) (d : Ahead) : Type 0 where
  pub gives : Gives a.number (vec_items a.held ++ p) o
  pub empty : vec_items d.held ≡ []
  pub number : d.number ≡ counted (a.number + 1)
  pub over : d.is_over ≡ refuses o

-- the end of the line that is held
pub line_ends : (a : Ahead) (p : List ℕ) (o : Option Given) (d : Ahead) → a.is_over ≡ false → ended p ≡ true → Ends a p o d → (t : List ℕ) (gs : List Given) → Reads t gs a → Reads (t ++ p) (gs ++ given o) d
line_ends a p o d f e k t gs r =
    let l = vec_items a.held ++ p in
    let at : a.number ≡ counted (1 + length r.told) = r.number in
    record {
      told = r.told ++ l ∷ [];
      text =
          ap (λ x. x ++ p) r.text
          ∙ append_assoc (joined r.told) (vec_items a.held) p
          ∙ ap (λ x. joined r.told ++ x) (sym (append-nil l))
          ∙ sym (flat_map-append (λ (x : List ℕ). x) r.told (l ∷ []))
          ∙ sym (append-nil (joined (r.told ++ l ∷ [])))
          ∙ ap (λ x. joined (r.told ++ l ∷ []) ++ x) (sym k.empty);
      each = all_more (λ x. ended x ≡ true) r.told l r.each (ended_more (vec_items a.held) p r.behind e);
      behind = ap unended k.empty;
      number = omega (arith, k.number, at, length_push r.told l);
      give = subst (AllGive 1 (r.told ++ l ∷ []) (gs ++ given o)) (sym k.over) (gives_more r.give f (omega arith) l o (subst (λ m. Gives m l o) at k.gives));
    }

-- a line goes on
pub line_goes_on : (a : Ahead) (p : List ℕ) (d : Ahead) → unended p ≡ true → vec_items d.held ≡ vec_items a.held ++ p → d.number ≡ a.number → d.is_over ≡ a.is_over → (t : List ℕ) (gs : List Given) → Reads t gs a → Reads (t ++ p) (gs ++ []) d
line_goes_on a p d u h n f t gs r = record {
  told = r.told;
  text = ap (λ x. x ++ p) r.text ∙ append_assoc (joined r.told) (vec_items a.held) p ∙ ap (λ x. joined r.told ++ x) (sym h);
  each = r.each;
  behind = ap unended h ∙ unended_more (vec_items a.held) p r.behind u;
  number = n ∙ r.number;
  give = subst (λ xs. AllGive 1 r.told xs d.is_over) (sym (append-nil gs)) (subst (AllGive 1 r.told gs) (sym f) r.give);
}

-- a line without an end
not_well : (h : List ℕ) → unended h ≡ true → well h ≡ false
not_well [] u = refl
not_well (b ∷ h) u = let more = not_well h in grind (arith, nat_tests)

no_end_if : (c : Bool) (n : ℕ) (h : List ℕ) → well h ≡ false → 0 < length h → first (cond c (exact_checks heading n h) (call_checks n h)) ≡ Some (fault 2 Reader n 0)
no_end_if true n h w some = let there : missing h ≡ false = grind (arith, nat_tests) in rw (there, w) refl
no_end_if false n h w some = rw w refl

no_end : (n : ℕ) (h : List ℕ) → unended h ≡ true → 0 < length h → first (line_checks n h) ≡ Some (fault 2 Reader n 0)
no_end n h u some = no_end_if (eqb n 1) n h (not_well h u) some

lines_some : (t : List ℕ) → 0 < length (lines t) → lines_of t ≡ lines t
lines_some [] h = absurd (omega arith)
lines_some (b ∷ t) h = refl

-- the lines of a text that was read, with bytes behind it
read_lines : (a : Ahead) (t more : List ℕ) (gs : List Given) (r : Reads t gs a) → lines (t ++ more) ≡ r.told ++ lines (vec_items a.held ++ more)
read_lines a t more gs r = ap (λ x. lines (x ++ more)) r.text ∙ ap lines (append_assoc (joined r.told) (vec_items a.held) more) ∙ all_ended r.told (vec_items a.held ++ more) r.each

-- whatever comes below a refused line
pub whole_over : (a : Ahead) (t more : List ℕ) (gs : List Given) → a.is_over ≡ true → Reads t gs a → AllGive 1 (lines_of (t ++ more)) gs true
whole_over a t more gs f r =
    let ls = lines (vec_items a.held ++ more) in
    let are = read_lines a t more gs r in
    let some : 0 < length (lines (t ++ more)) = omega (arith, ap length are, some_told r.give f, length-append r.told ls) in
    subst (λ xs. AllGive 1 xs gs true) (sym (lines_some (t ++ more) some ∙ are)) (gives_no_more r.give f ls)

-- where a text ends

module _ (a : Ahead) (t : List ℕ) (gs : List Given) (r : Reads t gs a) where
  ends_in : lines t ≡ r.told ++ lines (vec_items a.held)
  ends_in = ap lines (sym (append-nil t)) ∙ read_lines a t [] gs r ∙ ap (λ x. r.told ++ lines x) (append-nil (vec_items a.held))

  pub whole_refused : a.is_over ≡ true → AllGive 1 (lines_of t) gs true
  whole_refused f = subst (λ x. AllGive 1 (lines_of x) gs true) (append-nil t) (whole_over a t [] gs f r)

  pub whole_ended : a.is_over ≡ false → vec_items a.held ≡ [] → 1 < a.number → AllGive 1 (lines_of t) gs false
  whole_ended f e n =
      let at = r.number in
      let are : lines t ≡ r.told = ends_in ∙ ap (λ x. r.told ++ lines x) e ∙ append-nil r.told in
      let some : 0 < length (lines t) = omega (arith, ap length are) in
      subst (λ xs. AllGive 1 xs gs false) (sym (lines_some t some ∙ are)) (subst (AllGive 1 r.told gs) f r.give)

  pub whole_missing : a.is_over ≡ false → vec_items a.held ≡ [] → a.number ≡ 1 → AllGive 1 (lines_of t) (gs ++ Fault (fault 3 Reader 1 0) ∷ []) true
  whole_missing f e n =
      let at = r.number in
      let none_told : r.told ≡ [] = nil_from_length r.told (omega arith) in
      let none_read : t ≡ [] = r.text ∙ ap (λ ls. joined ls ++ vec_items a.held) none_told ∙ e in
      let first_one : counted (1 + length r.told) ≡ 1 = sym at ∙ n in
      let missing : Gives 1 [] (Some (Fault (fault 3 Reader 1 0))) = refl in
      let all = gives_more r.give f (omega arith) [] (Some (Fault (fault 3 Reader 1 0))) (subst (λ m. Gives m [] (Some (Fault (fault 3 Reader 1 0)))) (sym first_one) missing) in
      subst (λ xs. AllGive 1 xs (gs ++ Fault (fault 3 Reader 1 0) ∷ []) true) (ap (λ ls. ls ++ [] ∷ []) none_told ∙ ap lines_of (sym none_read)) all

  pub whole_cut : a.is_over ≡ false → 0 < length (vec_items a.held) → AllGive 1 (lines_of t) (gs ++ Fault (fault 2 Reader a.number 0) ∷ []) true
  whole_cut f some =
      let h = vec_items a.held in
      let o : Option Given = Some (Fault (fault 2 Reader a.number 0)) in
      let are : lines t ≡ r.told ++ h ∷ [] = ends_in ∙ ap (λ x. r.told ++ x) (one_unended h r.behind some) in
      let more : 0 < length (lines t) = omega (arith, ap length are, length_push r.told h) in
      let all = gives_more r.give f (omega arith) h o (subst (λ m. Gives m h o) r.number (no_end a.number h r.behind some)) in
      subst (λ xs. AllGive 1 xs (gs ++ Fault (fault 2 Reader a.number 0) ∷ []) true) (sym (lines_some t more ∙ are)) all
