-- A run of a net is one of any net with the same tasks and edges; so what holds of one task alone holds of its runners.
use Rattle.std.proofs.Common.{◌≡◌, ℕ, ◌<◌, Bool, List, ◌++◌, sym, refl, ap, ap₂, ◌∙◌, subst, ⊎_elim, arith, le-ltb}
use Rattle.std.proofs.lemmas.Bool.{cases_lt}
use Rattle.graph.specs.declared.graph.Graph.{Graph}
use Rattle.flow.specs.Nets.{Net, net_of}
use Rattle.flow.specs.Lone.{lone}
use Rattle.runs.specs.States.{State, Finished, put_out}
use Rattle.runs.specs.Runs.{Call, Said, arrive, need, tick, Whole, why, Run, begin, refuses, arrives, sets, ticks, takes, Sweep}
use Rattle.runs.specs.Exact.{slice_steps, EndsAt}
use Rattle.runs.proofs.Exact.{exact}
use Rattle.runner.specs.Boards.{Alike}
use Rattle.runner.specs.Alone.{OneTask, RunnersExact}
use Rattle.runner.proofs.Alikes.{SameNet, alike_ticked, same_put}
use Rattle.runner.proofs.Calls.{alike_arrived, alike_need}

module _ (n m : Net) (nets : SameNet n m) (slots : ℕ) where
  -- the same reason
  pub same_why : (x y : Whole) → Alike n x.state y.state → y.belt ≡ x.belt → (call : Call) → why m slots y call ≡ why n slots x call
  same_why x y like belt (arrive v) =
      ⊎_elim
      (λ h. rw (nets.tasks, nets.inlet v h, like.waiting v h) refl)
      (λ h. rw (nets.tasks, le-ltb v n.tasks h) refl)
      (cases_lt v n.tasks)
  same_why x y like belt (need v k) =
      ⊎_elim
      (λ h. rw (nets.tasks, nets.time v h) refl)
      (λ h. rw (nets.tasks, le-ltb v n.tasks h) refl)
      (cases_lt v n.tasks)
  same_why x y like belt (tick claims) = rw (nets.tasks, like.clock, belt) refl

  module _ {R : Type 0} (steps : R → ℕ → Bool → Bool → R → Type 0) (first : R)
      (to : (e : ℕ) → e < n.edges → n.to e < n.tasks) (from : (e : ℕ) → e < n.edges → n.from e < n.tasks) where
    pub record Twin (said : List Said) (a : R) (x : Whole) : Type 0 where
      pub whole : Whole
      pub run : Run steps m first slots said a whole
      pub like : Alike n x.state whole.state
      pub records : whole.state.records ≡ x.state.records
      pub belt : whole.belt ≡ x.belt

    pub twin : {said : List Said} {a : R} {x : Whole} → Run steps n first slots said a x → Twin said a x
    twin begin = record {
      whole = _;
      run = begin;
      like = record { clock = refl; held = λ e h. sym (nets.tokens e h); waiting = λ v h. refl; to_go = λ v h. refl; fired = λ v h. refl; need = λ v h. sym (nets.time v h) };
      records = refl;
      belt = refl;
    }
    twin (refuses {x = x} run call w) =
        let t = twin run in
        record { whole = t.whole; run = refuses t.run call (same_why x t.whole t.like t.belt call ∙ w); like = t.like; records = t.records; belt = t.belt }
    twin (arrives {x = x} run v w) =
        let t = twin run in
        record { whole = _; run = arrives t.run v (same_why x t.whole t.like t.belt (arrive v) ∙ w); like = alike_arrived n x.state t.whole.state v t.like; records = t.records; belt = t.belt }
    twin (sets {x = x} run v y w) =
        let t = twin run in
        record { whole = _; run = sets t.run v y (same_why x t.whole t.like t.belt (need v y) ∙ w); like = alike_need n x.state t.whole.state v y t.like; records = t.records; belt = t.belt }
    twin (ticks {a = a} {b = b} {x = x} run claims grants w sweep) =
        let t = twin run in
        let put : put_out m t.whole.state grants m.tasks ≡ put_out n x.state grants n.tasks =
        ap (λ (k : ℕ). put_out m t.whole.state grants k) nets.tasks ∙ sym (same_put n m nets x.state t.whole.state t.like grants n.tasks (omega arith)) in
        record {
          whole = _;
          run = ticks t.run claims grants (same_why x t.whole t.like t.belt (tick claims) ∙ w) (subst (λ (k : ℕ). Sweep steps claims grants a k b) (sym nets.tasks) sweep);
          like = alike_ticked n m nets x.state t.whole.state t.like grants to from;
          records = ap₂ (λ (xs ys : List Finished). xs ++ ys) t.records put;
          belt = ap₂ (λ (xs ys : List Finished). xs ++ ys) t.belt put;
        }
    twin (takes run gone rest h) =
        let t = twin run in
        record { whole = _; run = takes t.run gone rest (t.belt ∙ h); like = t.like; records = t.records; belt = refl }

lone_net : (g : Graph) (time : ℕ) → OneTask g time → SameNet (net_of g) (lone time)
lone_net g time one = record {
  tasks = sym one.tasks;
  edges = sym one.edges;
  time = λ v h. let z : v ≡ 0 = omega (arith, h, one.tasks) in rw z (sym one.its_time);
  inlet = λ v h. let z : v ≡ 0 = omega (arith, h, one.tasks) in rw z (sym one.inlet);
  from = λ e h. absurd (omega (arith, h, one.edges));
  to = λ e h. absurd (omega (arith, h, one.edges));
  tokens = λ e h. absurd (omega (arith, h, one.edges));
}

ends_as : (s t : State) (i c : ℕ) → s.records ≡ t.records → EndsAt s i c → EndsAt t i c
ends_as s t i c e h = record { then = rw (sym e) h.then; not_before = λ d k q. h.not_before d k (rw e q) }

pub runners_exact : RunnersExact
runners_exact period slice time times i t case =
    let met = exact period slice time times i t case in (
      met.0,
      met.1,
      record {
        server = met.2.server;
        starts = met.2.starts;
        some = met.2.some;
        each = λ slots pos r one said x led meets.
            let w = twin (net_of r.graph) (lone time) (lone_net r.graph time one) slots slice_steps (record { server = met.2.server })
            (λ e h. absurd (omega (arith, h, one.edges))) (λ e h. absurd (omega (arith, h, one.edges))) led.run in
            ends_as w.whole.state x.state i t w.records (met.2.each slots pos said r.rack w.whole w.run meets);
      },
    )
