-- Letters and digits alone.
use Rattle.std.proofs.Common.{◌≡◌, rules, tests, arith}
use Rattle.std.proofs.lemmas.Bool.Decides.{nat_tests}
use Rattle.std.proofs.lemmas.Iterator.{YieldsList-from_slice}
use Rattle.std.proofs.lemmas.Iterator.Search.{all_from_yields_List}
use Rattle.cells.specs.Bytes.{plain, plains}
use Rattle.cells.proofs.bytes.is_named.Goals as goal

pub returns-then-part-le-LONGEST : goal.returns-then-part-le-LONGEST
returns-then-part-le-LONGEST c =
    let all : c.all.result ≡ plains c.args.part.now = all_from_yields_List plain _ _ _ c.all.ensures.ran (YieldsList-from_slice c.args.part.now cc) (λ x b q k. search (rules, tests)) in
    grind (arith, nat_tests)
