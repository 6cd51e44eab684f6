-- Bytes of the format, and a line end.
use Rattle.std.proofs.Common.{◌-◌, ◌||◌, eqb, length, arith, rules, tests}
use Rattle.std.proofs.lemmas.Bool.Decides.{nat_tests}
use Rattle.std.proofs.lemmas.Iterator.{YieldsList-from_slice}
use Rattle.std.proofs.lemmas.Iterator.Search.{all_from_yields_List}
use Rattle.cells.specs.Bytes.{plain}
use Rattle.cells.proofs.Parts.{well_is}
use Rattle.cells.proofs.line.is_well.Goals as goal

pub returns-in-10 : goal.returns-in-10
returns-in-10 c =
    let all = all_from_yields_List (λ b. plain b || eqb b 32) _ _ _ c.all.ensures.ran (YieldsList-from_slice _ c.iter.ensures.rest) (λ x b q k. search (rules, tests)) in
    let is = well_is c.args.line.now (length c.args.line.now - 1) (omega arith) in
    grind (arith, nat_tests)

pub returns-in_default-2 : goal.returns-in_default-2
returns-in_default-2 c =
    let is = well_is c.args.line.now (length c.args.line.now - 1) (omega arith) in
    grind (arith, nat_tests)
