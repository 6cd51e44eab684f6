-- One base more.
use Rattle.std.proofs.Common.{◌≡◌, ℕ, ◌*◌, ◌<◌, ◌≤◌, length, length-set, ◌∙◌, get_or, pos, to_z, w64, vec_len, mul-le-mul, arith}
use Rattle.std.proofs.lemmas.Int.{ints}
use Rattle.rings.proofs.Filled.{filled}
use Rattle.rings.proofs.arcs.bases.Goals as goal

pub loop-v-preserved : goal.loop-v-preserved
loop-v-preserved c =
    let v : ℕ = c.loop-v.v in
    let s : ℕ = get_or c.args.spans.now v 0 in
    let p : ℕ = c.args.ratio.parts in
    let g = c.args.graph.now in
    let l : v < vec_len g.tasks = omega arith in
    let few : vec_len g.tasks ≤ 16 = omega (arith, g.counts.few, g.tasks.ok.0) in
    let low : p * s ≤ 4080 * 1000000000000 = mul-le-mul c.args.ratio.parts_most (c.requires v l) in
    let is : to_z w64 (p * s) ≡ pos (p * s) = omega (arith, ints) in
    let room : length c.loop-v.bases ≡ 16 = c.loop-v.invariant.0 in (
      length-set c.loop-v.bases v (to_z w64 (p * s)) ∙ room,
      filled c.loop-v.bases v (to_z w64 (p * s)) (pos 0) (λ k. pos (p * get_or c.args.spans.now k 0)) (omega arith) is c.loop-v.invariant.1,
    )
