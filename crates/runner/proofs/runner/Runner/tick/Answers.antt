-- A tick in every run.
use Rattle.std.proofs.Common.{◌≡◌, ℕ, ◌++◌, None, length, vec_len, refl, sym, ap, ◌∙◌, subst, arith}
use Rattle.std.proofs.lemmas.List.{length-map}
use Rattle.belt.specs.Belts.{contents, room}
use Rattle.flow.specs.Nets.{net_of}
use Rattle.runs.specs.Runs.{tick, why, Whole, Sweep}
use Rattle.runs.proofs.Forget.{Shows}
use Rattle.runner.specs.Boards.{shown}
use Rattle.runner.specs.Records.{told, lying, ended}
use Rattle.runner.specs.Marks.{Marked}
use Rattle.runner.specs.Serves.{marked}
use Rattle.runner.specs.Runners.{whole_with, TickDone}
use Rattle.runner.proofs.Going.{misfit, spent, no_room, goes, refused_goes_on, tick_goes_on}
use Rattle.runner.proofs.Alikes.{one_net, alike_self, ended_is}
use Rattle.runs.proofs.Exact.{exact, no_smaller}
use Rattle.runner.proofs.Alone.{runners_exact}
use Rattle.runner.proofs.Kept.{timely, in_pace, steady}
use Rattle.runner.proofs.runner.Runner.tick.Given as given
use Rattle.runner.proofs.runner.Runner.tick.Goals as goal

shows : (g : given.Over) → Shows g.R.Rack.places g.R.Rack.service g.R.Rack.steps
shows g = record { keeps = g.met.R.Rack.keeps; moves = g.met.R.Rack.moves; others = g.met.R.Rack.others; stays = g.met.R.Rack.stays }

pub returns-then-claims-tasks-clause-answers : goal.returns-then-claims-tasks-clause-answers
returns-then-claims-tasks-clause-answers g c =
    let r = c.args.self.now in
    let b = c.args.belt.now in
    (13, misfit (net_of r.graph) (room b) (whole_with r (contents b)) c.args.claims.now (λ q. c.if-claims-tasks.true (q ∙ sym c.len-tasks.ensures)), c.refuses.ensures)

pub returns-then-claims-tasks-clause-goes : goal.returns-then-claims-tasks-clause-goes
returns-then-claims-tasks-clause-goes g c =
    let r = c.args.self.now in
    let b = c.args.belt.now in
    refused_goes_on g.R.Rack.places g.R.Rack.steps r b c.args.claims.now 13 c.refuses.result refl c.refuses.ensures
    (λ x clock lies. misfit (net_of r.graph) (room b) x c.args.claims.now (λ q. c.if-claims-tasks.true (q ∙ sym c.len-tasks.ensures)))

pub returns-then-clock-ge-LAST_CLOCK-clause-answers : goal.returns-then-clock-ge-LAST_CLOCK-clause-answers
returns-then-clock-ge-LAST_CLOCK-clause-answers g c =
    let r = c.args.self.now in
    let b = c.args.belt.now in
    let fit : length c.args.claims.now ≡ vec_len r.graph.tasks = c.if-claims-tasks.false ∙ c.len-tasks.ensures in
    (16, spent (net_of r.graph) (room b) (whole_with r (contents b)) c.args.claims.now fit (omega (arith, c.if-clock-ge-LAST_CLOCK.true, c.clock.ensures)), c.refuses-then-clock-ge-LAST_CLOCK.ensures)

pub returns-then-clock-ge-LAST_CLOCK-clause-goes : goal.returns-then-clock-ge-LAST_CLOCK-clause-goes
returns-then-clock-ge-LAST_CLOCK-clause-goes g c =
    let r = c.args.self.now in
    let b = c.args.belt.now in
    let fit : length c.args.claims.now ≡ vec_len r.graph.tasks = c.if-claims-tasks.false ∙ c.len-tasks.ensures in
    refused_goes_on g.R.Rack.places g.R.Rack.steps r b c.args.claims.now 16 c.refuses-then-clock-ge-LAST_CLOCK.result refl c.refuses-then-clock-ge-LAST_CLOCK.ensures
    (λ x clock lies. spent (net_of r.graph) (room b) x c.args.claims.now fit (omega (arith, c.if-clock-ge-LAST_CLOCK.true, c.clock.ensures, clock)))

pub returns-then-free-tasks-clause-answers : goal.returns-then-free-tasks-clause-answers
returns-then-free-tasks-clause-answers g c =
    let r = c.args.self.now in
    let b = c.args.belt.now in
    let fit : length c.args.claims.now ≡ vec_len r.graph.tasks = c.if-claims-tasks.false ∙ c.len-tasks.ensures in (
      17,
      no_room (net_of r.graph) (room b) (whole_with r (contents b)) c.args.claims.now fit (omega (arith, c.if-clock-ge-LAST_CLOCK.false, c.clock.ensures))
          (omega (arith, length-map (contents b) told, c.free.ensures, c.if-free-tasks.true, c.len-tasks.ensures)),
      c.refuses-then-free-tasks.ensures,
    )

pub returns-then-free-tasks-clause-goes : goal.returns-then-free-tasks-clause-goes
returns-then-free-tasks-clause-goes g c =
    let r = c.args.self.now in
    let b = c.args.belt.now in
    let fit : length c.args.claims.now ≡ vec_len r.graph.tasks = c.if-claims-tasks.false ∙ c.len-tasks.ensures in
    refused_goes_on g.R.Rack.places g.R.Rack.steps r b c.args.claims.now 17 c.refuses-then-free-tasks.result refl c.refuses-then-free-tasks.ensures
    (λ x clock lies.
    no_room (net_of r.graph) (room b) x c.args.claims.now fit (omega (arith, c.if-clock-ge-LAST_CLOCK.false, c.clock.ensures, clock))
    (omega (arith, lies, c.free.ensures, c.if-free-tasks.true, c.len-tasks.ensures)))

-- nothing is against the tick
open_to : (g : given.Over) → (c : goal.After-put_records g) → (x : Whole) → x.state.clock ≡ c.args.self.now.board.clock → length x.belt ≡ length (contents c.args.belt.now) →
    why (net_of c.args.self.now.graph) (room c.args.belt.now) x (tick c.args.claims.now) ≡ None
open_to g c x clock lies =
    let r = c.args.self.now in
    let b = c.args.belt.now in
    let fit : length c.args.claims.now ≡ vec_len r.graph.tasks = c.if-claims-tasks.false ∙ c.len-tasks.ensures in
    goes (net_of r.graph) (room b) x c.args.claims.now fit (omega (arith, c.if-clock-ge-LAST_CLOCK.false, c.clock.ensures, clock))
    (omega (arith, lies, c.free.ensures, c.if-free-tasks.false, c.len-tasks.ensures))

pub returns-clause-answers : goal.returns-clause-answers
returns-clause-answers g c = open_to g c (whole_with c.args.self.now (contents c.args.belt.now)) refl (length-map (contents c.args.belt.now) told)

done_so :
    (g : given.Over) → (c : goal.After-put_records g) → (m : Marked c.args.self.now.graph c.tick-ends.new.self) →
    TickDone g.R.Rack.places g.R.Rack.steps c.args.self.now c.args.belt.now c.args.claims.now (record { graph = c.args.self.now.graph; rack = c.sweep-grants.new.rack; board = c.tick-ends.new.self; marked = m }) c.put_records.new.belt
done_so g c m =
    let r = c.args.self.now in
    let n = net_of r.graph in
    let b = c.args.belt.now in
    let gr = marked c.sweep-grants.result in
    let fit : length c.args.claims.now ≡ vec_len r.graph.tasks = c.if-claims-tasks.false ∙ c.len-tasks.ensures in
    let moves = c.tick-ends.ensures.moves in
    let put = c.put_records.ensures.put (omega (arith, c.free.ensures, c.if-free-tasks.false)) in
    record {
      its_graph = refl;
      grants = gr;
      sweep = λ enough. subst (λ (k : ℕ). Sweep g.R.Rack.steps c.args.claims.now gr r.rack k c.sweep-grants.new.rack) fit (c.sweep-grants.ensures (omega (arith, fit, enough)));
      stands = moves;
      records = put ∙ ap (λ ws. lying (contents b) ++ ws)
          (ap (λ (k : ℕ). ended (shown c.tick-ends.new.self) (marked c.tick-ends.result) k) c.len-tasks.ensures
          ∙ ended_is n n (one_net n) (shown r.board) (shown r.board) (alike_self n (shown r.board)) gr (shown c.tick-ends.new.self) (marked c.tick-ends.result) moves.clock moves.fired c.tick-ends.ensures.ending (vec_len r.graph.tasks) (omega arith));
      same_room = c.put_records.ensures.room;
    }

pub returns-clause-turns : goal.returns-clause-turns
returns-clause-turns g c = done_so g c _

pub returns-clause-goes : goal.returns-clause-goes
returns-clause-goes g c = tick_goes_on g.R.Rack.places g.R.Rack.steps c.args.self.now c.args.belt.now c.args.claims.now g.R.Rack.service (shows g) _ c.put_records.new.belt (done_so g c _) (open_to g c)

pub returns-then-claims-tasks-clause-timely : goal.returns-then-claims-tasks-clause-timely
returns-then-claims-tasks-clause-timely g c = timely g.R.Rack.places g.R.Rack.service g.R.Rack.steps (shows g) _

pub returns-then-claims-tasks-clause-paced : goal.returns-then-claims-tasks-clause-paced
returns-then-claims-tasks-clause-paced g c = in_pace g.R.Rack.places g.R.Rack.service g.R.Rack.steps (shows g) _

pub returns-then-claims-tasks-clause-steady : goal.returns-then-claims-tasks-clause-steady
returns-then-claims-tasks-clause-steady g c = steady g.R.Rack.places g.R.Rack.service g.R.Rack.steps (shows g) _

pub returns-then-claims-tasks-clause-exact : goal.returns-then-claims-tasks-clause-exact
returns-then-claims-tasks-clause-exact g c = (exact, no_smaller, runners_exact)

pub returns-then-clock-ge-LAST_CLOCK-clause-timely : goal.returns-then-clock-ge-LAST_CLOCK-clause-timely
returns-then-clock-ge-LAST_CLOCK-clause-timely g c = timely g.R.Rack.places g.R.Rack.service g.R.Rack.steps (shows g) _

pub returns-then-clock-ge-LAST_CLOCK-clause-paced : goal.returns-then-clock-ge-LAST_CLOCK-clause-paced
returns-then-clock-ge-LAST_CLOCK-clause-paced g c = in_pace g.R.Rack.places g.R.Rack.service g.R.Rack.steps (shows g) _

pub returns-then-clock-ge-LAST_CLOCK-clause-steady : goal.returns-then-clock-ge-LAST_CLOCK-clause-steady
returns-then-clock-ge-LAST_CLOCK-clause-steady g c = steady g.R.Rack.places g.R.Rack.service g.R.Rack.steps (shows g) _

pub returns-then-clock-ge-LAST_CLOCK-clause-exact : goal.returns-then-clock-ge-LAST_CLOCK-clause-exact
returns-then-clock-ge-LAST_CLOCK-clause-exact g c = (exact, no_smaller, runners_exact)

pub returns-then-free-tasks-clause-timely : goal.returns-then-free-tasks-clause-timely
returns-then-free-tasks-clause-timely g c = timely g.R.Rack.places g.R.Rack.service g.R.Rack.steps (shows g) _

pub returns-then-free-tasks-clause-paced : goal.returns-then-free-tasks-clause-paced
returns-then-free-tasks-clause-paced g c = in_pace g.R.Rack.places g.R.Rack.service g.R.Rack.steps (shows g) _

pub returns-then-free-tasks-clause-steady : goal.returns-then-free-tasks-clause-steady
returns-then-free-tasks-clause-steady g c = steady g.R.Rack.places g.R.Rack.service g.R.Rack.steps (shows g) _

pub returns-then-free-tasks-clause-exact : goal.returns-then-free-tasks-clause-exact
returns-then-free-tasks-clause-exact g c = (exact, no_smaller, runners_exact)

pub returns-clause-timely : goal.returns-clause-timely
returns-clause-timely g c = timely g.R.Rack.places g.R.Rack.service g.R.Rack.steps (shows g) _

pub returns-clause-paced : goal.returns-clause-paced
returns-clause-paced g c = in_pace g.R.Rack.places g.R.Rack.service g.R.Rack.steps (shows g) _

pub returns-clause-steady : goal.returns-clause-steady
returns-clause-steady g c = steady g.R.Rack.places g.R.Rack.service g.R.Rack.steps (shows g) _

pub returns-clause-exact : goal.returns-clause-exact
returns-clause-exact g c = (exact, no_smaller, runners_exact)
