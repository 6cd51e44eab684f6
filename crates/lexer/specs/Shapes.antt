-- What a field is by its first byte.
use Rattle.std.specs.Prelude.{ℕ, Bool, cond, ◌&&◌, List, nat_le, slice_index}
use Rattle.lexer.specs.declared.token.Shape.{Shape}
use Rattle.lexer.specs.declared.token.Shape.TheVariants.{Word, Number}

abbrev pub digit : ℕ → Bool
digit b = nat_le 48 b && nat_le b 57

abbrev pub shape_of : List ℕ → Shape
shape_of bs = cond (digit (slice_index bs 0)) Number Word
