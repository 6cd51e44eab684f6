-- A word that names a kind, or none.
use Rattle.std.proofs.Common.{rules}
use Rattle.cells.proofs.KindWords.{kind_named}
use Rattle.cells.proofs.cell.kind_in.Goals as goal

pub returns : goal.returns
returns c =
    let named = kind_named _ _ c.try_from.ensures in
    search rules
