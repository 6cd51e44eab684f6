-- The words of the kinds.
use Rattle.std.proofs.Common.{◌≡◌, ℕ, true, false, List, Ok, Err, Result, MatchResult, refl}
use Rattle.std.specs.Str.{bytes_eq}
use Rattle.std.proofs.lemmas.Slice.Eq.{bytes_eq-Decides}
use Rattle.std.proofs.lemmas.Bool.{false_from_ne_true, or_from}
use Rattle.kinds.specs.declared.kind.Kind.{Kind}
use Rattle.kinds.specs.declared.kind.Kind.TheVariants.{Own, Fixed, Float}
use Rattle.kinds.specs.declared.kind.UnknownKind.{UnknownKind}
use Rattle.kinds.specs.Words.{kind_word, Names}
use Rattle.cells.specs.Values.{a_kind, kind_of}

not_same : (xs ys : List ℕ) → (xs ≡ ys → ⊥) → bytes_eq xs ys ≡ false
not_same xs ys n = false_from_ne_true (bytes_eq xs ys) (λ t. n ((bytes_eq-Decides xs ys).0 t))

-- what a word names is the kind of these words, and where it names none it is none of them
pub kind_named : (bs : List ℕ) (r : Result Kind UnknownKind) → Names bs r → MatchResult r (λ k. (a_kind bs ≡ true) × (k ≡ kind_of bs)) (λ _. a_kind bs ≡ false)
kind_named bs (Ok Own) e = rw e (refl, refl)
kind_named bs (Ok Fixed) e = rw e (refl, refl)
kind_named bs (Ok Float) e = rw e (refl, refl)
kind_named bs (Err u) n = or_from _ _ (not_same bs (kind_word Own) (n Own)) (or_from _ _ (not_same bs (kind_word Fixed) (n Fixed)) (not_same bs (kind_word Float) (n Float)))
