-- Numbers, names and kinds as fields write them.
use Rattle.std.specs.Prelude.{ℕ, ◌+◌, ◌-◌, ◌*◌, Bool, cond, not, ◌&&◌, ◌||◌, List, [], ◌∷◌, length, ◌==◌, nat_le, slice_index}
use Rattle.std.specs.Str.{bytes_eq, all_ascii_digits}
use Rattle.kinds.specs.Words.{kind_word}
use Rattle.kinds.specs.declared.kind.Kind.{Kind}
use Rattle.kinds.specs.declared.kind.Kind.TheVariants.{Own, Fixed, Float}
use Rattle.cells.specs.Bytes.{letter, plains}

-- The number that digits write.
abbrev pub read_on : ℕ → List ℕ → ℕ
read_on n [] = n
read_on n (b ∷ bs) = read_on (n * 10 + (b - 48)) bs

abbrev pub value : List ℕ → ℕ
value bs = read_on 0 bs

-- 1 to 9 digits, no leading zero
abbrev pub numeral : List ℕ → Bool
numeral bs = all_ascii_digits bs && (nat_le 1 (length bs) && (nat_le (length bs) 9 && (not (slice_index bs 0 == 48) || length bs == 1)))

abbrev pub within : ℕ → ℕ → ℕ → Bool
within low high n = nat_le low n && nat_le n high

-- a number from low to high
abbrev pub number : ℕ → ℕ → List ℕ → Bool
number low high bs = numeral bs && within low high (value bs)

-- 1 to 12 letters and digits, a letter first
abbrev pub named : List ℕ → Bool
named bs = letter (slice_index bs 0) && (nat_le (length bs) 12 && plains bs)

abbrev pub a_kind : List ℕ → Bool
a_kind bs = bytes_eq bs (kind_word Own) || (bytes_eq bs (kind_word Fixed) || bytes_eq bs (kind_word Float))

-- The kind whose word this is; float where it is none.
abbrev pub kind_of : List ℕ → Kind
kind_of bs = cond (bytes_eq bs (kind_word Own)) Own (cond (bytes_eq bs (kind_word Fixed)) Fixed Float)
