-- The value at the arc's start with the arc's lag is what is stored.
use Rattle.std.proofs.Common.{◌≡◌, ℕ, ap, set, ℤ, ◌+ℤ◌, SFits, to_z, of_z, w64, rules, arith}
use Rattle.std.proofs.lemmas.Int.{ints}
use Rattle.walks.specs.Arcs.{arc_at, best_at, longer}
use Rattle.walks.proofs.best.push.Goals as goal

pub returns : goal.returns
returns c =
    let bs = c.args.bests.now in
    let e : ℕ = c.args.e in
    let arc = arc_at c.args.arcs.now e in
    let v : ℤ = (best_at bs arc.from).value in
    let l : ℤ = arc.lag in
    let vf : SFits w64 v = search rules in
    let lf : SFits w64 l = search rules in
    let is : to_z w64 (of_z w64 (to_z w64 (of_z w64 v) +ℤ to_z w64 (of_z w64 l))) ≡ v +ℤ l = omega (arith, ints) in (
      ap (λ (z : ℤ). set bs arc.to (longer (best_at bs arc.from) e z)) is,
      record { above = omega (arith, ints) },
      c.if-arc.false,
      c.in_default.ensures,
    )
