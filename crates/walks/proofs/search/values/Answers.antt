-- One value more.
use Rattle.std.proofs.Common.{◌≡◌, ℕ, length, length-set, ◌∙◌, ℤ, SFits, to_z, of_z, w64, rules, arith}
use Rattle.std.proofs.lemmas.Int.{to_z-of_z}
use Rattle.walks.specs.Arcs.{best_at}
use Rattle.walks.proofs.Made.{filled}
use Rattle.walks.proofs.search.values.Goals as goal

pub loop-task-preserved : goal.loop-task-preserved
loop-task-preserved c =
    let i : ℕ = c.loop-task.task in
    let z : ℤ = (best_at c.args.bests.now i).value in
    let f : SFits w64 z = search rules in
    let room : length c.loop-task.values ≡ 16 = c.loop-task.invariant.0 in (
      length-set c.loop-task.values i (to_z w64 (of_z w64 z)) ∙ room,
      filled c.loop-task.values i (to_z w64 (of_z w64 z)) (λ k. (best_at c.args.bests.now k).value) (omega arith) (to_z-of_z w64 z f) c.loop-task.invariant.1,
    )
