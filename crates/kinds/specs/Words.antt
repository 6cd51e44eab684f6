-- The word of each kind, and which kind a word names.
use Rattle.std.specs.Prelude.{◌≡◌, ◌≢◌, ℕ, List, Result, MatchResult, codes}
use Rattle.kinds.specs.declared.kind.Kind.{Kind}
use Rattle.kinds.specs.declared.kind.Kind.TheVariants.{Own, Fixed, Float}
use Rattle.kinds.specs.declared.kind.UnknownKind.{UnknownKind}

abbrev pub kind_word : Kind → List ℕ
kind_word Own = codes "own"
kind_word Fixed = codes "fixed"
kind_word Float = codes "float"

-- what is printed of a word that names none
abbrev pub unknown_kind : List ℕ
unknown_kind = codes "no kind of server"

-- The result is the kind whose word this is, or the error where it is the word of none.
abbrev pub Names : List ℕ → Result Kind UnknownKind → Type 0
Names bs r = MatchResult r (λ k. bs ≡ kind_word k) (λ _. (k : Kind) → bs ≢ kind_word k)
