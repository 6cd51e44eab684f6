-- The bytes of the format, and how a line is made of them.
use Rattle.std.specs.Prelude.{ℕ, Bool, false, cond, ◌&&◌, ◌||◌, List, [], ◌∷◌, length, ◌==◌, nat_le, slice_index_or}
use Rattle.std.specs.List.{list_all}
use Rattle.lexer.specs.Text.{fields}
use Rattle.lexer.specs.Shapes.{digit}

abbrev pub letter : ℕ → Bool
letter b = nat_le 97 b && nat_le b 122

abbrev pub plain : ℕ → Bool
plain b = letter b || digit b

abbrev pub plains : List ℕ → Bool
plains bs = list_all plain bs

-- Bytes of the format, and then one line end.
abbrev pub well : List ℕ → Bool
well [] = false
well (b ∷ bs) = cond (b == 10) (length bs == 0) ((plain b || b == 32) && well bs)

abbrev pub filled : List (List ℕ) → Bool
filled fs = list_all (λ f. nat_le 1 (length f)) fs

-- n fields, one space between them
abbrev pub parted : ℕ → List ℕ → Bool
parted n l = filled (fields l) && length (fields l) == n

abbrev pub field : ℕ → List ℕ → List ℕ
field k l = slice_index_or (fields l) k []
