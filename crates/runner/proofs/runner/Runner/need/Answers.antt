-- A need in every run.
use Rattle.std.proofs.Common.{rules, ◌≡◌, ◌<◌, ◌∙◌, sym, arith, refl, false, vec_len, leb, ◌&&◌, None}
use Rattle.graph.specs.Legal.{task_at}
use Rattle.flow.specs.Nets.{net_of}
use Rattle.runs.specs.States.{need_set}
use Rattle.runs.specs.Runs.{need as need_of, why}
use Rattle.runner.specs.Boards.{shown}
use Rattle.runner.specs.Runners.{shown_whole}
use Rattle.runner.proofs.Calls.{no_task, no_need, some_need, same_alike, refused_goes, need_goes, same_time}
use Rattle.runner.proofs.runner.Runner.need.Goals as goal

pub returns-then-task-len-clause-answers : goal.returns-then-task-len-clause-answers
returns-then-task-len-clause-answers g c =
    (13, no_task (net_of c.args.self.now.graph) 0 (shown_whole c.args.self.now) c.args.task c.args.ticks (omega (arith, c.if-task-len.true, c.len.ensures)), c.refuses.ensures)

pub returns-then-task-len-clause-goes : goal.returns-then-task-len-clause-goes
returns-then-task-len-clause-goes g c =
    refused_goes g.R.Rack.places g.R.Rack.steps c.args.self.now (need_of c.args.task c.args.ticks) 13 c.refuses.result refl c.refuses.ensures
    (λ slots x h. no_task (net_of c.args.self.now.graph) slots x c.args.task c.args.ticks (omega (arith, c.if-task-len.true, c.len.ensures)))

pub returns-then-not-legal_need-clause-answers : goal.returns-then-not-legal_need-clause-answers
returns-then-not-legal_need-clause-answers g c =
    let r = c.args.self.now in
    let there : c.args.task < vec_len r.graph.tasks = omega (arith, c.if-task-len.false, c.len.ensures) in
    let out : (leb 1 c.args.ticks && leb c.args.ticks (task_at r.graph.tasks.items c.args.task).time) ≡ false =
    same_time c.args.ticks r.graph.tasks.items c.args.task c.index.result.now (search rules) c.index.ensures ∙ sym c.legal_need.ensures ∙ c.if-not-legal_need.true in
    (14, no_need (net_of r.graph) 0 (shown_whole r) c.args.task c.args.ticks there out, c.refuses-then-not-legal_need.ensures)

pub returns-then-not-legal_need-clause-goes : goal.returns-then-not-legal_need-clause-goes
returns-then-not-legal_need-clause-goes g c =
    let r = c.args.self.now in
    let there : c.args.task < vec_len r.graph.tasks = omega (arith, c.if-task-len.false, c.len.ensures) in
    let out : (leb 1 c.args.ticks && leb c.args.ticks (task_at r.graph.tasks.items c.args.task).time) ≡ false =
    same_time c.args.ticks r.graph.tasks.items c.args.task c.index.result.now (search rules) c.index.ensures ∙ sym c.legal_need.ensures ∙ c.if-not-legal_need.true in
    refused_goes g.R.Rack.places g.R.Rack.steps r (need_of c.args.task c.args.ticks) 14 c.refuses-then-not-legal_need.result refl c.refuses-then-not-legal_need.ensures
    (λ slots x h. no_need (net_of r.graph) slots x c.args.task c.args.ticks there out)

pub returns-clause-answers : goal.returns-clause-answers
returns-clause-answers g c =
    let r = c.args.self.now in
    let there : c.args.task < vec_len r.graph.tasks = omega (arith, c.if-task-len.false, c.len.ensures) in
    some_need (net_of r.graph) 0 (shown_whole r) c.args.task c.args.ticks there
    (same_time c.args.ticks r.graph.tasks.items c.args.task c.index.result.now (search rules) c.index.ensures ∙ sym c.legal_need.ensures ∙ c.if-not-legal_need.false)

pub returns-clause-goes : goal.returns-clause-goes
returns-clause-goes g c =
    let r = c.args.self.now in
    let there : c.args.task < vec_len r.graph.tasks = omega (arith, c.if-task-len.false, c.len.ensures) in
    let wanted : why (net_of r.graph) 0 (shown_whole r) (need_of c.args.task c.args.ticks) ≡ None =
    some_need (net_of r.graph) 0 (shown_whole r) c.args.task c.args.ticks there
    (same_time c.args.ticks r.graph.tasks.items c.args.task c.index.result.now (search rules) c.index.ensures ∙ sym c.legal_need.ensures ∙ c.if-not-legal_need.false) in
    need_goes g.R.Rack.places g.R.Rack.steps r _ refl refl c.args.task c.args.ticks wanted
    (same_alike (net_of r.graph) (shown c.need.new.self) (need_set (shown r.board) c.args.task c.args.ticks) c.need.ensures.stands)
