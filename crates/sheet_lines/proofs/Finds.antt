-- The place of a name among tasks is that of the first task that passes.
use Rattle.std.proofs.Common.{◌≡◌, ℕ, suc, ◌+◌, Bool, true, false, cond, not, ◌||◌, ltb, List, [], ◌∷◌, map, length, Some, None, sym, refl, ap, add_comm, arith}
use Rattle.std.specs.Str.{bytes_eq}
use Rattle.std.specs.List.{position, position_or_len}
use Rattle.std.proofs.lemmas.List.Recursion.{is_position_or_len}
use Rattle.std.proofs.lemmas.Bool.{lt-ltb}
use Rattle.std.proofs.lemmas.Bool.Decides.{nat_tests}
use Rattle.names.specs.Names.{name_bytes}
use Rattle.sheets.specs.declared.sheet.SheetTask.{SheetTask}
use Rattle.sheets.specs.Pages.{names}
use Rattle.sheets.specs.Reads.{entry}
use Rattle.sheets.specs.Checks.{taken, index_of}
use Rattle.sheet_lines.specs.Places.{Finds}

abbrev pub has : List ℕ → SheetTask → Bool
has n t = bytes_eq (name_bytes t.name) n

index_is : (ts : List SheetTask) (n : List ℕ) → index_of (names (map entry ts)) n ≡ position_or_len (has n) ts
index_is ts n = is_position_or_len (λ us. index_of (names (map entry us)) n) (has n) refl (λ t us. ap (λ k. cond (has n t) 0 k) (add_comm (index_of (names (map entry us)) n) 1)) ts

taken_step : (b c : Bool) (k m : ℕ) → c ≡ ltb k m → (b || c) ≡ ltb (cond (not b) (1 + k) 0) (suc m)
taken_step true c k m e = sym (lt-ltb 0 (suc m) (omega arith))
taken_step false c k m e = grind (arith, nat_tests)

taken_is : (ts : List SheetTask) (n : List ℕ) → taken (names (map entry ts)) n ≡ ltb (position_or_len (has n) ts) (length ts)
taken_is [] n = refl
taken_is (t ∷ ts) n = taken_step (has n t) _ _ _ (taken_is ts n)

finds_if : (b : Bool) (ns : List (List ℕ)) (n : List ℕ) (k : ℕ) → taken ns n ≡ b → index_of ns n ≡ k → Finds ns n (cond b (Some k) None)
finds_if true ns n k t i = (t, sym i)
finds_if false ns n k t i = t

pub finds : (ts : List SheetTask) (n : List ℕ) → Finds (names (map entry ts)) n (position (has n) ts)
finds ts n = finds_if (ltb (position_or_len (has n) ts) (length ts)) (names (map entry ts)) n (position_or_len (has n) ts) (taken_is ts n) (index_is ts n)
