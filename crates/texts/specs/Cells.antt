-- What stands in one field of a line, as it is written.
use Rattle.std.specs.Prelude.{ℕ, List, decimal}
use Rattle.std.specs.Fmt.{signed_decimal}
use Rattle.texts.specs.declared.line.Cell.{Cell}
use Rattle.texts.specs.declared.line.Cell.TheVariants.{Word, Number, Signed}

abbrev pub cell_text : Cell → List ℕ
cell_text (Word w) = w.now
cell_text (Number n) = decimal n
cell_text (Signed z) = signed_decimal z
