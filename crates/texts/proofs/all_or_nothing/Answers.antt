-- What the call left, or what the buffer held before.
use Rattle.std.proofs.Common.{◌≡◌, ℕ, true, false, is_err, take, Ok, Err, vec_items, vec_len, Result, Vec, refl, ap, ◌∙◌}
use Rattle.texts.specs.Puts.{Undone}
use Rattle.texts.proofs.all_or_nothing.Goals as goal

module _ {U E Z : Type 0} (v w x : Vec ℕ Z) where
  taken_back : (n : ℕ) (r : Result U E) → is_err r ≡ true → n ≡ vec_len v → vec_items x ≡ take n (vec_items w) → Undone v w r x
  taken_back n (Ok _) e k h = cc
  taken_back n (Err _) e k h = h ∙ ap (λ m. take m (vec_items w)) k

  left : (r : Result U E) → is_err r ≡ false → x ≡ w → Undone v w r x
  left (Ok _) e h = h
  left (Err _) e h = cc

pub returns-then-is_err : goal.returns-then-is_err
returns-then-is_err g c =
    let r = c.append-done.result in
    let w = c.append-done.new.arg2 in
    (w, record { shown = _; shows = refl; left = _; met = c.append-done.ensures; leaves = refl }, taken_back c.args.out.now w _ _ r (cc) c.len-before.ensures c.truncate.ensures.items)

pub returns-else-is_err : goal.returns-else-is_err
returns-else-is_err g c =
    let r = c.append-done.result in
    let w = c.append-done.new.arg2 in
    (w, record { shown = _; shows = refl; left = _; met = c.append-done.ensures; leaves = refl }, left c.args.out.now w w r (cc) refl)
