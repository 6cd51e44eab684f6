-- Bytes put one after another are put as one: the ways that a chain of calls can end.
use Rattle.std.proofs.Common.{◌≡◌, ℕ, ◌+◌, ◌≤◌, List, ◌++◌, length, take, IsErrAnd, Ok, Err, vec_items, vec_len, Result, Vec, sym, ap, ◌∙◌, subst, append_assoc, arith, length-append}
use Rattle.std.proofs.lemmas.List.{take-take, take_at}
use Rattle.texts.specs.Puts.{Added, Short, Puts}

module _ {Z : Type 0} where
  pub len_added : (v : Vec ℕ Z) (a : List ℕ) (w : Vec ℕ Z) → Added v a w → vec_len w ≡ vec_len v + length a
  len_added v a w e = w.ok.0 ∙ ap length e.items ∙ length-append (vec_items v) a ∙ ap (λ n. n + length a) (sym v.ok.0)

  pub both : (v : Vec ℕ Z) (a : List ℕ) (w : Vec ℕ Z) (b : List ℕ) (x : Vec ℕ Z) → Added v a w → Added w b x → Added v (a ++ b) x
  both v a w b x e f = record { items = f.items ∙ ap (λ l. l ++ b) e.items ∙ append_assoc (vec_items v) a b; room = omega arith }

  pub short_then : (v : Vec ℕ Z) (a : List ℕ) (w : Vec ℕ Z) (b : List ℕ) (x : Vec ℕ Z) → Added v a w → Short w b x → Short v (a ++ b) x
  short_then v a w b x e f =
      let n : vec_len w ≡ vec_len v + length a = len_added v a w e in
      let h : vec_len v ≤ vec_len w = omega arith in
      record {
        kept = sym (take-take (vec_len v) (vec_len w) (vec_items x) h) ∙ ap (λ l. take (vec_len v) l) (f.kept ∙ e.items) ∙ take_at (vec_items v) a (vec_len v) (sym v.ok.0);
        short = omega (arith, length-append a b);
      }

  -- Where a part does not fit, the whole does not.
  pub short_more : (v : Vec ℕ Z) (a b : List ℕ) (w : Vec ℕ Z) → Short v a w → Short v (a ++ b) w
  short_more v a b w e = record { kept = e.kept; short = omega (arith, length-append a b) }

  -- One put, and then the rest.
  pub next : {U E : Type 0} {v : Vec ℕ Z} {a : List ℕ} {w : Vec ℕ Z} (b : List ℕ) (x : Vec ℕ Z) (r : Result U E) → Added v a w → Puts w b r x → Puts v (a ++ b) r x
  next {v = v} {a = a} {w = w} b x (Ok u) e f = both v a w b x e f
  next {v = v} {a = a} {w = w} b x (Err u) e f = short_then v a w b x e f

  -- The exit of a `?`, with b left to put.
  pub stop : {U E : Type 0} (Q : E → Type 0) {v : Vec ℕ Z} {a : List ℕ} (b : List ℕ) {w : Vec ℕ Z} (r : Result U E) → IsErrAnd r Q → Short v a w → Puts v (a ++ b) r w
  stop Q {v = v} {a = a} b {w = w} (Ok u) q e = elim q [ ]
  stop Q {v = v} {a = a} b {w = w} (Err u) q e = short_more v a b w e

  -- The same bytes, written in another way.
  pub same_text : {U E : Type 0} (v : Vec ℕ Z) {a b : List ℕ} (w : Vec ℕ Z) (r : Result U E) → a ≡ b → Puts v a r w → Puts v b r w
  same_text v w r e p = subst (λ l. Puts v l r w) e p
