-- A word that names a call, or none.
use Rattle.std.proofs.Common.{rules}
use Rattle.calls.proofs.Read.{word_named}
use Rattle.calls.proofs.lines.word_in.Goals as goal

pub returns : goal.returns
returns c =
    let named = word_named _ _ c.try_from.ensures in
    search rules
