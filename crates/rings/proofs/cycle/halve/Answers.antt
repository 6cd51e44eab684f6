-- A ring above the middle, which is above the best, is the best one then.
use Rattle.std.proofs.Common.{ℕ, ◌+◌, ◌-◌, ◌*◌, ◌/◌, ◌<◌, sym, subst, arith, rules}
use Rattle.flow.specs.Nets.{net_of}
use Rattle.ratios.specs.Ratios.{Is}
use Rattle.rings.specs.declared.cycle.Tried.TheVariants.{Slower}
use Rattle.rings.specs.Cycles.{Tells, IsBest}
use Rattle.rings.proofs.Bests.{links_below, next_best, above_best}
use Rattle.rings.proofs.cycle.halve.Goals as goal
use Rattle.rings.proofs.cycle.halve.Goals.{in-Starts, in-Slower}

pub loop-preserved : goal.loop-preserved
loop-preserved c =
    let b = c.loop.best.ratio in
    let r = c.unwrap-probe.result in
    let low : ℕ = b.cycle * c.args.parts / b.parts in
    let middle : ℕ = low + (c.loop.high - low) / 2 in
    let wide : low + 1 < c.loop.high = c.if-low-high.false in
    let is : Is r middle c.args.parts = search rules in
    let up : b.cycle * r.parts < r.cycle * b.parts = above_best b.cycle b.parts c.args.parts middle r.cycle r.parts b.parts_some (omega arith) is.same r.parts_some in
    elim c.match-try_at.branch [
      | in-Starts w ↦ (omega (arith, w.high-is, c.loop.invariant.0), λ service are paces. subst (λ x. IsBest (net_of c.args.graph.now) service x) (sym w.best-is) (c.loop.invariant.1 service are paces))
      | in-Slower w ↦ (
        omega (arith, w.high-is, c.loop.invariant.0),
        λ service are paces.
            let n = net_of c.args.graph.now in
            let told : Tells n service r.cycle r.parts (Slower w.in-Slower.above) = subst (λ t. Tells n service r.cycle r.parts t) w.in-Slower.is (c.try_at.ensures service are) in
            let links = links_below n service b.cycle b.parts r.cycle r.parts up (c.loop.invariant.1 service are paces).links in
            subst (λ x. IsBest n service x) (sym w.best-is) (next_best n service r.cycle r.parts w.in-Slower.above links told),
      )
    ]
