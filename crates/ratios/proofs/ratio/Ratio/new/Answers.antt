-- The quotients by the greatest common divisor are in lowest terms, and within what the numbers are.
use Rattle.std.proofs.Common.{ℕ, ◌≤◌, div-le_self, rules, tests, arith}
use Rattle.ratios.specs.Ratios.{OfRing}
use Rattle.ratios.proofs.Divisors.{quotient_some, same, lowest}
use Rattle.ratios.proofs.ratio.Ratio.new.Goals as goal

pub invariant_of-result : goal.invariant_of-result
invariant_of-result c =
    let w : ℕ = c.args.weight in
    let t : ℕ = c.args.tokens in
    let g = c.gcd-divisor.ensures in
    let d : ℕ = c.gcd-divisor.result in
    let some : 1 ≤ w = search (rules, tests) in
    let most : w ≤ 16000000000000 = search (rules, tests) in
    let holds : 1 ≤ t = search (rules, tests) in
    let few : t ≤ 4080 = search (rules, tests) in
    record {
      cycle_some = quotient_some w d some g.0;
      cycle_most = omega (arith, div-le_self w d);
      parts_some = quotient_some t d holds g.1;
      parts_most = omega (arith, div-le_self t d);
      lowest = lowest w t d some g;
    }

pub returns : goal.returns
returns c =
    let w : ℕ = c.args.weight in
    let t : ℕ = c.args.tokens in
    let g = c.gcd-divisor.ensures in
    let d : ℕ = c.gcd-divisor.result in
    let of : OfRing w t = search (rules, tests) in
    (of, record { same = same w t d g.0 g.1; lowest = lowest w t d of.weighs g })
