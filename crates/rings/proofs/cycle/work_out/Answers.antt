-- The slowest link is the first ring; a ring above is the next; start figures show that none is above.
use Rattle.std.proofs.Common.{ℕ, ◌*◌, get_or, sym, ap, ◌∙◌, subst, mul_comm, mul-one, mul-le-mul_right, arith, rules}
use Rattle.flow.specs.Nets.{net_of}
use Rattle.ratios.specs.Ratios.{Is}
use Rattle.rings.specs.declared.cycle.Tried.TheVariants.{Starts, Slower}
use Rattle.rings.specs.Cycles.{Tells}
use Rattle.rings.proofs.Walked.{link_reaches}
use Rattle.rings.proofs.Bests.{next_best, figures_of_best}
use Rattle.rings.proofs.cycle.work_out.Goals as goal

pub loop-init : goal.loop-init
loop-init c = λ service are paces.
    let g = c.args.graph.now in
    let first : ℕ = c.slowest-first.result in
    let w : ℕ = get_or c.args.weights.now.paces first 0 in
    let r = c.unwrap.result in
    let is : Is r w 1 = search rules in
    record {
      ring = link_reaches (net_of g) service first r.cycle r.parts c.slowest-first.ensures.task (ap (λ (x : ℕ). r.parts * x) (sym (paces first c.slowest-first.ensures.task)) ∙ is.same);
      short = tt;
      links = λ v h.
          let pace : ℕ = get_or c.args.weights.now.paces v 0 in
          omega (arith, mul-le-mul_right r.parts (c.slowest-first.ensures.most v h), mul_comm w r.parts, mul_comm pace r.parts, mul-one r.cycle, is.same, ap (λ (x : ℕ). r.parts * x) (paces v h));
    }

pub returns-in-Starts : goal.returns-in-Starts
returns-in-Starts c = λ service are paces.
    let n = net_of c.args.graph.now in
    let r = c.loop.best.ratio in
    let told : Tells n service r.cycle r.parts (Starts c.in-Starts.starts) = subst (λ t. Tells n service r.cycle r.parts t) c.in-Starts.is (c.try_at.ensures service are) in
    figures_of_best n service c.loop.best c.in-Starts.starts (c.loop.invariant service are paces) told

pub loop-preserved : goal.loop-preserved
loop-preserved c = λ service are paces.
    let n = net_of c.args.graph.now in
    let r = c.loop.best.ratio in
    let told : Tells n service r.cycle r.parts (Slower c.in-Slower.ring) = subst (λ t. Tells n service r.cycle r.parts t) c.in-Slower.is (c.try_at.ensures service are) in
    next_best n service r.cycle r.parts c.in-Slower.ring (c.loop.invariant service are paces).links told
