-- Digits alone.
use Rattle.std.proofs.Common.{◌≡◌, rules, tests, arith}
use Rattle.std.specs.Char.{is_ascii_digit}
use Rattle.std.specs.Str.{all_ascii_digits}
use Rattle.std.proofs.lemmas.Bool.Decides.{nat_tests}
use Rattle.std.proofs.lemmas.Iterator.{YieldsList-from_slice}
use Rattle.std.proofs.lemmas.Iterator.Search.{all_from_yields_List}
use Rattle.cells.proofs.bytes.is_numeral.Goals as goal

pub returns-then-part-le-MOST_DIGITS : goal.returns-then-part-le-MOST_DIGITS
returns-then-part-le-MOST_DIGITS c =
    let all : c.all.result ≡ all_ascii_digits c.args.part.now = all_from_yields_List is_ascii_digit _ _ _ c.all.ensures.ran (YieldsList-from_slice c.args.part.now cc) (λ x b q k. search (rules, tests)) in
    grind (arith, nat_tests)
