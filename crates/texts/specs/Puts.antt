-- What it is to append bytes to a buffer, which fails only where the buffer has no room for them.
use denote.Ref.{Bor, MutBor}
use Rattle.std.specs.Prelude.{◌≡◌, ℕ, ◌+◌, ◌<◌, ◌≤◌, List, ◌++◌, length, take, Ok, Err, vec_items, vec_len, vec_capacity, Result, Vec}
use Rattle.std.specs.Fn.{Shared}

-- w is v with bs behind it.
pub record Added {Z : Type 0} (v : Vec ℕ Z) (bs : List ℕ) (w : Vec ℕ Z) : Type 0 where
  pub items : vec_items w ≡ vec_items v ++ bs
  pub room : vec_capacity v ≤ vec_capacity w

-- v has no room for bs, and w still begins with what v holds.
pub record Short {Z : Type 0} (v : Vec ℕ Z) (bs : List ℕ) (w : Vec ℕ Z) : Type 0 where
  pub kept : take (vec_len v) (vec_items w) ≡ vec_items v
  pub short : vec_capacity v < vec_len v + length bs

abbrev pub Puts : {U E Z : Type 0} → Vec ℕ Z → List ℕ → Result U E → Vec ℕ Z → Type 0
Puts v bs (Ok _) w = Added v bs w
Puts v bs (Err _) w = Short v bs w

-- The same, where what cannot be appended leaves the buffer's contents as they were.
pub record Unmoved {Z : Type 0} (v : Vec ℕ Z) (bs : List ℕ) (w : Vec ℕ Z) : Type 0 where
  pub items : vec_items w ≡ vec_items v
  pub short : vec_capacity v < vec_len v + length bs

abbrev pub Appends : {U E Z : Type 0} → Vec ℕ Z → List ℕ → Result U E → Vec ℕ Z → Type 0
Appends v bs (Ok _) w = Added v bs w
Appends v bs (Err _) w = Unmoved v bs w

-- Each call of f puts the text of its item.
abbrev pub PutsAs : {F T U E Z : Type 0} → Shared F (MutBor (Vec ℕ Z) × (Bor T × Unit {0})) (Result U E × (MutBor (Vec ℕ Z) × Unit {0})) → F → (T → List ℕ) → Type 0
PutsAs {T = T} {U = U} {E = E} {Z = Z} g f text = (v w : MutBor (Vec ℕ Z)) (x : Bor T) (r : Result U E) → g.post f (v, (x, tt)) (r, (w, tt)) → Puts v.now (text x.now) r w.now

-- x is w, or where r is a failure, what w has from v.
abbrev pub Undone : {U E Z : Type 0} → Vec ℕ Z → Vec ℕ Z → Result U E → Vec ℕ Z → Type 0
Undone v w (Ok _) x = x ≡ w
Undone v w (Err _) x = vec_items x ≡ take (vec_len v) (vec_items w)
