-- The runs go on with the tick, or with its refusal.
use Rattle.std.proofs.Common.{◌≡◌, vec_len, refl, ap, ◌∙◌, arith}
use Rattle.std.proofs.lemmas.Result.{err_from_is_err_and}
use Rattle.graph.specs.declared.graph.Graph.{Graph}
use Rattle.flow.specs.Nets.{net_of}
use Rattle.runs.proofs.Forget.{Shows}
use Rattle.player.proofs.Following.{few_put, same_claims, tick_refused, tick_does}
use Rattle.player.proofs.player.Player.tick.Given as given
use Rattle.player.proofs.player.Player.tick.Goals as goal

shows : (g : given.Over) → Shows g.R.Rack.places g.R.Rack.service g.R.Rack.steps
shows g = record { keeps = g.met.R.Rack.keeps; moves = g.met.R.Rack.moves; others = g.met.R.Rack.others; stays = g.met.R.Rack.stays }

pub returns-in_err-tick-clause-does : goal.returns-in_err-tick-clause-does
returns-in_err-tick-clause-does g c =
    let p = err_from_is_err_and c.from_residual.result c.from_residual.ensures.1 in
    let a = c.args.self.now in
    let e = c.in_err-tick.ensures in
    let is : c.len-tasks.result ≡ vec_len a.runner.graph.tasks = c.len-tasks.ensures ∙ ap (λ (h : Graph). vec_len h.tasks) c.graph-graph.ensures in
    let all = same_claims c.len-tasks.result (vec_len a.runner.graph.tasks) c.args.claimed is (omega (arith, a.runner.graph.counts.few, a.runner.graph.tasks.ok.0)) in
    rw (p.1, p.2) (tick_refused g.R.Rack.places g.R.Rack.service g.R.Rack.steps a _ _ _ c.in_err-tick.field-0.0 c.args.out.now all refl refl e.turns.1 a.clear e.answers e.turns.0)

pub put_records-requires : goal.put_records-requires
put_records-requires g c =
    omega (arith, c.requires.room, few_put g.R.Rack.places g.R.Rack.service g.R.Rack.steps c.args.self.now.runner c.tick.new.self c.args.self.now.records _ c.tick.new.belt c.args.self.now.clear c.in_ok-tick.ensures.turns)

pub returns-clause-does : goal.returns-clause-does
returns-clause-does g c =
    let a = c.args.self.now in
    let e = c.in_ok-tick.ensures in
    let is : c.len-tasks.result ≡ vec_len a.runner.graph.tasks = c.len-tasks.ensures ∙ ap (λ (h : Graph). vec_len h.tasks) c.graph-graph.ensures in
    let all = same_claims c.len-tasks.result (vec_len a.runner.graph.tasks) c.args.claimed is (omega (arith, a.runner.graph.counts.few, a.runner.graph.tasks.ok.0)) in
    tick_does g.R.Rack.places g.R.Rack.service g.R.Rack.steps (shows g) a _ _ _ c.tick.new.belt c.put_records.new.belt _ _ c.args.out.now c.put_records.new.out all refl a.clear refl e.answers e.turns (ap net_of c.graph.ensures) c.deref.ensures.value c.put_records.ensures
