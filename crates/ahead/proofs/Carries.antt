-- Bytes of one line after another are carried on.
use Rattle.std.proofs.Common.{◌≡◌, ℕ, ◌+◌, ◌<◌, ◌≤◌, true, false, List, [], ◌∷◌, ◌++◌, length, take, drop, Option, Ok, Err, Result, OnOk, OnErr, IsErr, MatchResult, is_ok, vec_items, vec_capacity, refl, sym, ap, ◌∙◌, subst, append_assoc, arith}
use Rattle.std.proofs.lemmas.List.{append-nil, take_all, length-drop, length-append}
use Rattle.std.proofs.lemmas.Bool.{false≢true}
use Rattle.std.proofs.Math.Seq.{take-add, take-append_seam}
use Rattle.belt.specs.Turned.{Ring}
use Rattle.belt.specs.Belts.{contents, room, Put}
use Rattle.belt.specs.declared.returned.Returned.{Returned}
use Rattle.ahead.specs.declared.ahead.Ahead.{Ahead}
use Rattle.ahead.specs.declared.given.Given.{Given}
use Rattle.ahead.specs.Givens.{given}
use Rattle.ahead.specs.Texts.{ended, unended, Reads}
use Rattle.ahead.specs.Steps.{Carried}
use Rattle.ahead.proofs.Cuts.{Cut}
use Rattle.ahead.proofs.Told.{Ends, line_ends, line_goes_on}

pub where_ok : {X E P : Type 0} (r : Result X E) → (is_ok r ≡ true → P) → OnOk r P
where_ok (Ok x) k = k refl
where_ok (Err e) k = tt

pub where_err : {X E P : Type 0} (r : Result X E) → P → OnErr r P
where_err (Ok x) p = tt
where_err (Err e) p = p

pub where_no_ok : {X E Q : Type 0} (P : X → Type 0) (r : Result X E) → IsErr r → Q → MatchResult r P (λ _. Q)
where_no_ok P (Ok x) e q = absurd (false≢true e)
where_no_ok P (Err y) e q = q

-- a put where a slot is free
pub put_free : (b : Ring Given) (g : Given) (r : Result Unit (Returned Given)) (e : Ring Given) → Put b g r e → length (contents b) < room b → (contents e ≡ contents b ++ g ∷ []) × (room e ≡ room b)
put_free b g (Ok u) e p free = (p.1, p.2)
put_free b g (Err x) e p free = absurd (let full = p.0 in omega arith)

-- nothing was read
pub carried_none : (a d : Ahead) (b : Ring Given) (bytes : List ℕ) → vec_items d.held ≡ vec_items a.held → d.number ≡ a.number → d.is_over ≡ a.is_over → vec_capacity a.held ≤ vec_capacity d.held → Carried a b bytes 0 d b
carried_none a d b bytes h n f c = record {
  few = omega arith;
  put = [];
  belt = sym (append-nil (contents b));
  same_room = refl;
  reads = line_goes_on a [] d refl (h ∙ sym (append-nil (vec_items a.held))) n f;
  none = λ _. (refl, f);
  capacity = c;
}

-- bytes of a line that goes on
pub carried_on : (a d : Ahead) (b : Ring Given) (p : List ℕ) → 0 < length p → unended p ≡ true → vec_items d.held ≡ vec_items a.held ++ p → d.number ≡ a.number → d.is_over ≡ a.is_over → vec_capacity a.held ≤ vec_capacity d.held → Carried a b p (length p) d b
carried_on a d b p some u h n f c = record {
  few = omega arith;
  put = [];
  belt = sym (append-nil (contents b));
  same_room = refl;
  reads = λ t gs r. subst (λ x. Reads (t ++ x) (gs ++ []) d) (sym (take_all (length p) p (omega arith))) (line_goes_on a p d u h n f t gs r);
  none = λ z. absurd (omega arith);
  capacity = c;
}

-- bytes that end a line
pub carried_end : (a d : Ahead) (b e : Ring Given) (p : List ℕ) (o : Option Given) → 0 < length p → a.is_over ≡ false → ended p ≡ true → Ends a p o d → contents e ≡ contents b ++ given o → room e ≡ room b → vec_capacity a.held ≤ vec_capacity d.held → Carried a b p (length p) d e
carried_end a d b e p o some f w k put same c = record {
  few = omega arith;
  put = given o;
  belt = put;
  same_room = same;
  reads = λ t gs r. subst (λ x. Reads (t ++ x) (gs ++ given o) d) (sym (take_all (length p) p (omega arith))) (line_ends a p o d f w k t gs r);
  none = λ z. absurd (omega arith);
  capacity = c;
}

-- m bytes more
pub carried_more : (a d x : Ahead) (b e y : Ring Given) (bytes p : List ℕ) (n m : ℕ) → Carried a b bytes n d e → n + m ≤ length bytes → take m p ≡ take m (drop n bytes) → Carried d e p m x y → Carried a b bytes (n + m) x y
carried_more a d x b e y bytes p n m k fits same j = record {
  few = fits;
  put = k.put ++ j.put;
  belt = j.belt ∙ ap (λ xs. xs ++ j.put) k.belt ∙ append_assoc (contents b) k.put j.put;
  same_room = j.same_room ∙ k.same_room;
  reads = λ t gs r.
      let on = j.reads (t ++ take n bytes) (gs ++ k.put) (k.reads t gs r) in
      let text : (t ++ take n bytes) ++ take m p ≡ t ++ take (n + m) bytes =
      append_assoc t (take n bytes) (take m p) ∙ ap (λ z. t ++ (take n bytes ++ z)) same ∙ ap (λ z. t ++ z) (sym (take-add n m bytes)) in
      subst (λ z. Reads z (gs ++ (k.put ++ j.put)) x) text (subst (λ z. Reads ((t ++ take n bytes) ++ take m p) z x) (append_assoc gs k.put j.put) on);
  none = λ z.
      let u = k.none (omega arith) in
      let v = j.none (omega arith) in
      (v.0 ∙ u.0, v.1 ∙ u.1);
  capacity = let c = k.capacity in let f = j.capacity in omega arith;
}

-- and none
pub carried_no_more : (a d x : Ahead) (b e y : Ring Given) (bytes p : List ℕ) (n : ℕ) → Carried a b bytes n d e → Carried d e p 0 x y → Carried a b bytes n x y
carried_no_more a d x b e y bytes p n k j =
    let few = k.few in
    let still : n + 0 ≡ n = omega arith in
    subst (λ m. Carried a b bytes m x y) still (carried_more a d x b e y bytes p n 0 k (omega arith) refl j)

-- the first line of the bytes that are left
pub carried_line : (a d x : Ahead) (b e y : Ring Given) (bytes p : List ℕ) (ls : List (List ℕ)) (n : ℕ) → Carried a b bytes n d e → Cut (drop n bytes) p ls → Carried d e p (length p) x y → Carried a b bytes (n + length p) x y
carried_line a d x b e y bytes p ls n k c j =
    let few = k.few in
    let size = ap length c.parts in
    let same : take (length p) p ≡ take (length p) (drop n bytes) = take_all (length p) p (omega arith) ∙ sym (take-append_seam p (drop (length p) (drop n bytes))) ∙ ap (take (length p)) (sym c.parts) in
    carried_more a d x b e y bytes p n (length p) k (omega (arith, size, length-drop n bytes, length-append p (drop (length p) (drop n bytes)))) same j
