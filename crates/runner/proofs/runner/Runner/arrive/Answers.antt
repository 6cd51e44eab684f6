-- An arrival in every run.
use Rattle.std.proofs.Common.{rules, ◌≡◌, ◌<◌, ◌≤◌, ◌⊎◌, inl, inr, ap, ◌∙◌, sym, arith, refl, true, false, vec_len}
use Rattle.std.proofs.lemmas.List.{get_or_read}
use Rattle.graph.specs.declared.parts.Task.{Task}
use Rattle.graph.specs.Legal.{no_task}
use Rattle.flow.specs.Nets.{net_of}
use Rattle.runs.specs.States.{arrived}
use Rattle.runs.specs.Runs.{arrive as arrival}
use Rattle.runner.specs.Boards.{shown}
use Rattle.runner.specs.Runners.{shown_whole}
use Rattle.runner.proofs.Calls.{no_inlet, crowded, same_alike, refused_goes, arrive_goes}
use Rattle.runner.proofs.runner.Runner.arrive.Given as given
use Rattle.runner.proofs.runner.Runner.arrive.Goals as goal
use Rattle.runner.proofs.runner.Runner.arrive.Goals.{then-task-len-via-then-task-len, then-task-len-via-else-task-len+then-not-index}

-- no such task, or none with an inlet
lacks : (g : given.Over) → (c : goal.After-refuses g) → (vec_len c.args.self.now.graph.tasks ≤ c.args.task) ⊎ ((net_of c.args.self.now.graph).inlet c.args.task ≡ false)
lacks g c = elim c.then-task-len.branch [
  | then-task-len-via-then-task-len w ↦ inl (omega (arith, w.if-task-len.true, c.len.ensures))
  | then-task-len-via-else-task-len+then-not-index w ↦
      let there : c.args.task < vec_len c.args.self.now.graph.tasks = omega (arith, w.if-task-len.false, c.len.ensures) in
      inr (sym (ap (λ (t : Task). t.inlet) (get_or_read c.args.self.now.graph.tasks.items c.args.task w.index.result.now (search rules) w.index.ensures no_task)) ∙ w.if-not-index.true)
]

pub returns-then-task-len-clause-answers : goal.returns-then-task-len-clause-answers
returns-then-task-len-clause-answers g c =
    (13, no_inlet (net_of c.args.self.now.graph) 0 (shown_whole c.args.self.now) c.args.task (lacks g c), c.refuses.ensures)

pub returns-then-task-len-clause-goes : goal.returns-then-task-len-clause-goes
returns-then-task-len-clause-goes g c =
    refused_goes g.R.Rack.places g.R.Rack.steps c.args.self.now (arrival c.args.task) 13 c.refuses.result refl c.refuses.ensures
    (λ slots x h. no_inlet (net_of c.args.self.now.graph) slots x c.args.task (lacks g c))

pub returns-then-waiting-ge-MOST_WAITING-clause-answers : goal.returns-then-waiting-ge-MOST_WAITING-clause-answers
returns-then-waiting-ge-MOST_WAITING-clause-answers g c =
    let there : c.args.task < vec_len c.args.self.now.graph.tasks = omega (arith, c.if-task-len.false, c.len.ensures) in
    let inlet : (net_of c.args.self.now.graph).inlet c.args.task ≡ true =
    sym (ap (λ (t : Task). t.inlet) (get_or_read c.args.self.now.graph.tasks.items c.args.task c.index.result.now (search rules) c.index.ensures no_task)) ∙ c.if-not-index.false in
    (15, crowded (net_of c.args.self.now.graph) 0 (shown_whole c.args.self.now) c.args.task there inlet (omega (arith, c.if-waiting-ge-MOST_WAITING.true, c.waiting.ensures)), c.refuses-then-waiting-ge-MOST_WAITING.ensures)

pub returns-then-waiting-ge-MOST_WAITING-clause-goes : goal.returns-then-waiting-ge-MOST_WAITING-clause-goes
returns-then-waiting-ge-MOST_WAITING-clause-goes g c =
    let there : c.args.task < vec_len c.args.self.now.graph.tasks = omega (arith, c.if-task-len.false, c.len.ensures) in
    let inlet : (net_of c.args.self.now.graph).inlet c.args.task ≡ true =
    sym (ap (λ (t : Task). t.inlet) (get_or_read c.args.self.now.graph.tasks.items c.args.task c.index.result.now (search rules) c.index.ensures no_task)) ∙ c.if-not-index.false in
    refused_goes g.R.Rack.places g.R.Rack.steps c.args.self.now (arrival c.args.task) 15 c.refuses-then-waiting-ge-MOST_WAITING.result refl c.refuses-then-waiting-ge-MOST_WAITING.ensures
    (λ slots x h. crowded (net_of c.args.self.now.graph) slots x c.args.task there inlet (omega (arith, h.waiting c.args.task there, c.if-waiting-ge-MOST_WAITING.true, c.waiting.ensures)))

pub returns-clause-goes : goal.returns-clause-goes
returns-clause-goes g c =
    let there : c.args.task < vec_len c.args.self.now.graph.tasks = omega (arith, c.if-task-len.false, c.len.ensures) in
    let inlet : (net_of c.args.self.now.graph).inlet c.args.task ≡ true =
    sym (ap (λ (t : Task). t.inlet) (get_or_read c.args.self.now.graph.tasks.items c.args.task c.index.result.now (search rules) c.index.ensures no_task)) ∙ c.if-not-index.false in
    arrive_goes g.R.Rack.places g.R.Rack.steps c.args.self.now _ refl refl c.args.task there inlet (omega (arith, c.if-waiting-ge-MOST_WAITING.false, c.waiting.ensures))
    (same_alike (net_of c.args.self.now.graph) (shown c.arrive.new.self) (arrived (shown c.args.self.now.board) c.args.task) c.arrive.ensures.stands)
