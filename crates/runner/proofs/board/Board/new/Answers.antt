-- One task more has its need, one edge more its tokens.
use Rattle.std.proofs.Common.{◌≡◌, ℕ, ◌<◌, ◌≤◌, ◌∙◌, ap, refl, arith, List, length, vec_len, length-set}
use Rattle.graph.specs.declared.parts.Edge.{Edge}
use Rattle.graph.specs.declared.parts.Task.{Task}
use Rattle.graph.specs.Edges.{edge_at}
use Rattle.graph.specs.Legal.{task_at}
use Rattle.runner.specs.Tasks.{no_record}
use Rattle.runner.specs.declared.task.Stage.TheVariants.{Idle}
use Rattle.runner.specs.declared.task.TaskRecord.{TaskRecord}
use Rattle.runner.proofs.Writes.{all_written, one_more_written, each_nought}
use Rattle.runner.proofs.board.Board.new.Goals as goal

pub loop-v-preserved : goal.loop-v-preserved
loop-v-preserved c =
    let l = c.loop-v in
    let i = l.invariant in
    let g = c.args.graph.now in
    let counted : l.v < vec_len g.tasks = omega (arith, c.loop-v-test.true, c.deref-task-items.ensures.len) in
    let there : l.v < length l.tasks = omega (arith, i.0, counted, g.counts.few) in
    let same : (task_at c.deref-task-items.result.now l.v).time ≡ (task_at g.tasks.items l.v).time = ap (λ (ts : List Task). (task_at ts l.v).time) c.deref-task-items.ensures.value in (
      length-set l.tasks l.v _ ∙ i.0,
      all_written (λ u (t : TaskRecord). t.fired ≡ 0) l.tasks l.v _ no_record there (i.1 l.v) i.1,
      all_written (λ u (t : TaskRecord). t.waiting ≡ 0) l.tasks l.v _ no_record there (i.2 l.v) i.2,
      all_written (λ u (t : TaskRecord). t.stage ≡ Idle) l.tasks l.v _ no_record there (i.3 l.v) i.3,
      all_written (λ u (t : TaskRecord). u < 16 → 1 ≤ t.need) l.tasks l.v _ no_record there (λ _. omega (arith, same, (g.ranges.times l.v (omega (arith, g.tasks.ok.0, counted))).0)) i.4,
      one_more_written (λ u (t : TaskRecord). t.need ≡ (task_at g.tasks.items u).time) l.tasks l.v _ no_record there same i.5,
    )

pub loop-e-init : goal.loop-e-init
loop-e-init c = (refl, λ e. omega (arith, each_nought 48 e), λ e h. absurd (omega arith))

pub loop-e-preserved : goal.loop-e-preserved
loop-e-preserved c =
    let l = c.loop-e in
    let i = l.invariant in
    let g = c.args.graph.now in
    let counted : l.e < vec_len g.edges = omega (arith, c.loop-e-test.true, c.deref-edge-items.ensures.len) in
    let there : l.e < length l.held = omega (arith, i.0, counted, g.counts.sparse) in
    let same : (edge_at c.deref-edge-items.result.now l.e).tokens ≡ (edge_at g.edges.items l.e).tokens = ap (λ (es : List Edge). (edge_at es l.e).tokens) c.deref-edge-items.ensures.value in (
      length-set l.held l.e _ ∙ i.0,
      all_written (λ u (t : ℕ). t ≤ 255) l.held l.e _ 0 there (omega (arith, same, g.ranges.tokens l.e (omega (arith, g.edges.ok.0, counted)))) i.1,
      one_more_written (λ u (t : ℕ). t ≡ (edge_at g.edges.items u).tokens) l.held l.e _ 0 there same i.2,
    )
