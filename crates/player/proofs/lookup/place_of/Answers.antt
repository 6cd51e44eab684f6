-- The place of the first task of the name, as the names tell it.
use Rattle.std.proofs.Common.{map, sym, subst, rules, tests}
use Rattle.std.proofs.lemmas.Iterator.{YieldsList-from_slice}
use Rattle.std.proofs.lemmas.Iterator.Search.{position_from_yields_List}
use Rattle.sheets.specs.Pages.{names}
use Rattle.sheets.specs.Reads.{entry}
use Rattle.sheet_lines.specs.Places.{Finds}
use Rattle.sheet_lines.proofs.Finds.{has, finds}
use Rattle.player.proofs.lookup.place_of.Goals as goal

pub returns : goal.returns
returns c =
    let n = c.as_bytes-name.result.now in
    let ts = c.args.tasks.now in
    let at = position_from_yields_List (has n) _ _ _ c.position.ensures.ran (YieldsList-from_slice ts cc) (λ x b q k. search (rules, tests)) in
    subst (λ m. Finds (names (map entry ts)) m c.position.result) c.as_bytes-name.ensures (subst (Finds (names (map entry ts)) n) (sym at) (finds ts n))
