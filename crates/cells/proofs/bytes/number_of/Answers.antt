-- A numeral, digit by digit.
use Rattle.std.proofs.Common.{rules, tests, sym, ◌∙◌}
use Rattle.std.proofs.lemmas.Iterator.{YieldsList-from_slice}
use Rattle.std.proofs.lemmas.Iterator.Consumers.{fold_from_yields_List}
use Rattle.cells.proofs.Digits.{wrapped, numeral_read}
use Rattle.cells.proofs.bytes.number_of.Goals as goal

pub returns : goal.returns
returns c =
    let is = sym c.is_numeral.ensures ∙ c.if-not-is_numeral.false in
    let total = fold_from_yields_List _ wrapped 0 c.fold-number.result c.fold-number.ensures.ran (YieldsList-from_slice c.args.part.now cc) (λ a x b q k. search (rules, tests)) in
    (is, numeral_read c.args.part.now c.fold-number.result is total)
