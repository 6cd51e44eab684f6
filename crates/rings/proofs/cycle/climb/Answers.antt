-- A ring above gives a greater ratio; start figures show that none is above.
use Rattle.std.proofs.Common.{subst, arith}
use Rattle.flow.specs.Nets.{net_of}
use Rattle.rings.specs.declared.cycle.Tried.TheVariants.{Starts, Slower}
use Rattle.rings.specs.Cycles.{Tells}
use Rattle.rings.proofs.Asked.{by_spans}
use Rattle.rings.proofs.Growing.{steps_grow, steps_below}
use Rattle.rings.proofs.Bests.{next_best, figures_of_best}
use Rattle.rings.proofs.cycle.climb.Goals as goal

pub returns-in-Starts : goal.returns-in-Starts
returns-in-Starts c = λ service are paces.
    let n = net_of c.args.graph.now in
    let r = c.tries.best.ratio in
    let told : Tells n service r.cycle r.parts (Starts c.in-Starts.starts) = subst (λ t. Tells n service r.cycle r.parts t) c.in-Starts.is (c.try_at.ensures service are) in
    figures_of_best n service c.tries.best c.in-Starts.starts (c.tries.invariant service are paces) told

pub tries-smaller : goal.tries-smaller
tries-smaller c =
    let n = net_of c.args.graph.now in
    let s = by_spans c.args.weights.now.spans in
    let r = c.tries.best.ratio in
    let r' = c.in-Slower.ring.ratio in
    let told : Tells n s r.cycle r.parts (Slower c.in-Slower.ring) = subst (λ t. Tells n s r.cycle r.parts t) c.in-Slower.is (c.try_at.ensures s (λ v h. omega arith)) in
    let a = steps_grow r.cycle r.parts r'.cycle r'.parts r.parts_some r.parts_most r'.parts_some r'.parts_most told.2 in
    let b = steps_below r'.cycle r'.parts r'.cycle_most in
    omega arith

pub tries-preserved : goal.tries-preserved
tries-preserved c = λ service are paces.
    let n = net_of c.args.graph.now in
    let r = c.tries.best.ratio in
    let told : Tells n service r.cycle r.parts (Slower c.in-Slower.ring) = subst (λ t. Tells n service r.cycle r.parts t) c.in-Slower.is (c.try_at.ensures service are) in
    next_best n service r.cycle r.parts c.in-Slower.ring (c.tries.invariant service are paces).links told
