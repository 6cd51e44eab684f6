-- Looking a name up.
use Rattle.std.specs.Prelude.{◌≡◌, ℕ, true, false, List, Option, Some, None}
use Rattle.sheets.specs.Checks.{taken, index_of}

-- The place of the first of the names ns that is n, where one is.
abbrev pub Finds : List (List ℕ) → List ℕ → Option ℕ → Type 0
Finds ns n (Some v) = (taken ns n ≡ true) × (v ≡ index_of ns n)
Finds ns n None = taken ns n ≡ false
