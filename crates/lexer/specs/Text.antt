-- The lines of a text, each with its line end, the fields of a line, and how they are put together.
use Rattle.std.specs.Prelude.{ℕ, Bool, cond, ◌||◌, List, [], ◌∷◌, ◌++◌, ◌==◌}

-- b in front of the first part
abbrev pub onto : ℕ → List (List ℕ) → List (List ℕ)
onto b [] = (b ∷ []) ∷ []
onto b (l ∷ ls) = (b ∷ l) ∷ ls

-- Each line with its byte 10; the last may lack it.
abbrev pub lines : List ℕ → List (List ℕ)
lines [] = []
lines (b ∷ bs) = cond (b == 10) ((b ∷ []) ∷ lines bs) (onto b (lines bs))

-- byte 10 or a space
abbrev pub separates : ℕ → Bool
separates b = b == 10 || b == 32

-- What stands before each space and before the line end.
abbrev pub fields : List ℕ → List (List ℕ)
fields [] = []
fields (b ∷ bs) = cond (separates b) ([] ∷ fields bs) (onto b (fields bs))

-- byte 10 alone
abbrev pub end : List ℕ
end = 10 ∷ []

-- Fields with one space between them, and the line end.
abbrev pub glue : List ℕ → List (List ℕ) → List ℕ
glue f [] = f ++ end
glue f (g ∷ fs) = f ++ (32 ∷ glue g fs)

-- The line that has these fields; the empty line where there is none.
abbrev pub line_of : List (List ℕ) → List ℕ
line_of [] = end
line_of (f ∷ fs) = glue f fs
