-- The sample's run, tick by tick.
use Rattle.std.proofs.Common.{◌≡◌, ℕ, zero, suc, ◌+◌, ◌-◌, ◌*◌, ◌<◌, ◌≤◌, Bool, true, false, cond, eqb, ltb, List, [], ◌∷◌, sym, refl, ap, ◌∙◌, subst, inl, inr, append-nil, add-one, None, arith}
use Rattle.std.proofs.lemmas.Bool.Decides.{nat_tests}
use Rattle.servers.specs.Slices.{worst_of, pace_of}
use Rattle.servers.specs.declared.fixed.Fixed.{Fixed}
use Rattle.flow.specs.Nets.{Sound, Arrivals}
use Rattle.flow.specs.Finish.{Feeds, ReadyLargest, Finish, finish, by_worst}
use Rattle.runs.specs.States.{State, Finished, no_arrivals, all_hold, supplied, put_out, ticked}
use Rattle.runs.specs.Runs.{tick, arrivals_of, Whole, why, none, more, Run, begin, arrives, ticks, takes}
use Rattle.runs.specs.Sample.{sample_net, SampleRack, sample_service, sample_steps, sample_calls, SampleFigures, SampleRun, Sample}
use Rattle.runs.proofs.SampleFigures.{sample_figures}

-- a state of the sample, as numbers
record View : Type 0 where
  pub position : ℕ
  pub clock : ℕ
  pub held_0 : ℕ
  pub held_1 : ℕ
  pub waiting_0 : ℕ
  pub to_go_0 : ℕ
  pub to_go_1 : ℕ
  pub fired_0 : ℕ
  pub fired_1 : ℕ
  pub records : List Finished

abbrev state_of : View → State
state_of y = record {
  clock = y.clock;
  held = λ e. cond (eqb e 0) y.held_0 y.held_1;
  waiting = λ v. y.waiting_0;
  to_go = λ v. cond (eqb v 0) y.to_go_0 y.to_go_1;
  fired = λ v. cond (eqb v 0) y.fired_0 y.fired_1;
  need = sample_net.time;
  arrivals = no_arrivals;
  records = y.records;
}

abbrev grants_at : ℕ → ℕ → Bool
grants_at position v = cond (eqb v 0) (ltb position 4) true

abbrev after : View → View
after y = let t : State = ticked sample_net (grants_at y.position) (state_of y) in record {
  position = cond (ltb (y.position + 1) 10) (y.position + 1) 0;
  clock = t.clock;
  held_0 = t.held 0;
  held_1 = t.held 1;
  waiting_0 = t.waiting 0;
  to_go_0 = t.to_go 0;
  to_go_1 = t.to_go 1;
  fired_0 = t.fired 0;
  fired_1 = t.fired 1;
  records = t.records;
}

view : ℕ → View
view zero = record { position = 4; clock = 0; held_0 = 0; held_1 = 1; waiting_0 = 1; to_go_0 = 0; to_go_1 = 0; fired_0 = 0; fired_1 = 0; records = [] }
view (suc m) = after (view m)

at_end : (view 27).records ≡ (record { task = 0; firing = 0; clock = 18 } ∷ record { task = 1; firing = 0; clock = 27 } ∷ [])
unfolding view all_hold supplied put_out
at_end = refl

-- a state that reads so
record Looks (s : State) (y : View) : Type 0 where
  pub clock : s.clock ≡ y.clock
  pub held_0 : s.held 0 ≡ y.held_0
  pub held_1 : s.held 1 ≡ y.held_1
  pub waiting_0 : s.waiting 0 ≡ y.waiting_0
  pub to_go_0 : s.to_go 0 ≡ y.to_go_0
  pub to_go_1 : s.to_go 1 ≡ y.to_go_1
  pub fired_0 : s.fired 0 ≡ y.fired_0
  pub fired_1 : s.fired 1 ≡ y.fired_1
  pub need_0 : s.need 0 ≡ 6
  pub need_1 : s.need 1 ≡ 9
  pub records : s.records ≡ y.records

looks_after : (s : State) (y : View) (p : ℕ) → p ≡ y.position → Looks s y → Looks (ticked sample_net (grants_at p) s) (after y)
unfolding all_hold supplied put_out
looks_after s y p e l = record {
  clock = cc;
  held_0 = cc;
  held_1 = cc;
  waiting_0 = cc;
  to_go_0 = cc;
  to_go_1 = cc;
  fired_0 = cc;
  fired_1 = cc;
  need_0 = l.need_0;
  need_1 = l.need_1;
  records = cc;
}

view_clock : (m : ℕ) → (view m).clock ≡ m
unfolding view
view_clock zero = refl
view_clock (suc m) = ap (λ (k : ℕ). k + 1) (view_clock m) ∙ add-one m

module _ (slots : ℕ) (room : 2 ≤ slots) where
  slice : Fixed
  slice = record { slice = record { period = 10; ticks = 4; some = omega arith; within = omega arith; short = omega arith }; position = 4; passed = omega arith }

  sample_rack : SampleRack
  sample_rack = record { first = record { server = slice }; second = record { server = record {} } }

  record Reached (m : ℕ) : Type 0 where
    pub rack : SampleRack
    pub whole : Whole
    pub run : Run sample_steps sample_net sample_rack slots (sample_calls m) rack whole
    pub period : rack.first.server.slice.period ≡ 10
    pub slice_is : rack.first.server.slice.ticks ≡ 4
    pub position : rack.first.server.position ≡ (view m).position
    pub looks : Looks whole.state (view m)

  at_first : Reached 0
  unfolding view slice sample_rack
  at_first = record {
    rack = sample_rack;
    whole = _;
    run = arrives begin 0 refl;
    period = refl;
    slice_is = refl;
    position = refl;
    looks = record { clock = refl; held_0 = refl; held_1 = refl; waiting_0 = refl; to_go_0 = refl; to_go_1 = refl; fired_0 = refl; fired_1 = refl; need_0 = refl; need_1 = refl; records = refl };
  }

  tick_on : {m : ℕ} → m < 1000000000 → Reached m → Reached (suc m)
  unfolding view
  tick_on {m} h r = record {
    rack = record { first = record { server = moved }; second = r.rack.second };
    whole = _;
    run = ticks (takes r.run r.whole.belt [] (sym (append-nil r.whole.belt))) (false ∷ false ∷ []) (grants_at r.rack.first.server.position) ok
        (more (more none (inl (omega arith, (refl, record { says = ap (ltb r.rack.first.server.position) (sym r.slice_is); goes = refl; same_period = refl; same_slice = refl }), refl)))
        (inr (omega arith, (refl, refl), refl)));
    period = r.period;
    slice_is = r.slice_is;
    position = ap (λ (q : ℕ). cond (ltb (r.rack.first.server.position + 1) q) (r.rack.first.server.position + 1) 0) r.period ∙ ap (λ (q : ℕ). cond (ltb (q + 1) 10) (q + 1) 0) r.position;
    looks = looks_after r.whole.state (view m) r.rack.first.server.position r.position r.looks;
  }
    where
      ok : why sample_net slots (record { state = r.whole.state; belt = [] }) (tick (false ∷ false ∷ [])) ≡ None
      ok =
          let clk : r.whole.state.clock < 1000000000 = omega (arith, r.looks.clock, view_clock m) in
          let fr : 2 ≤ slots - 0 = omega arith in
          grind (arith, nat_tests)

      moved : Fixed
      moved = record {
        slice = r.rack.first.server.slice;
        position = cond (ltb (r.rack.first.server.position + 1) r.rack.first.server.slice.period) (r.rack.first.server.position + 1) 0;
        passed = let o : r.rack.first.server.position < r.rack.first.server.slice.period = r.rack.first.server.passed in grind (arith, nat_tests);
      }

  reach : (m : ℕ) → m ≤ 1000000000 → Reached m
  reach zero h = at_first
  reach (suc m) h = tick_on (omega arith) (reach m (omega arith))

  -- the bounds
  stamped : (m : ℕ) → ((arrivals_of (sample_calls m)).count 0 ≡ 1) × ((arrivals_of (sample_calls m)).stamp 0 0 ≡ 0)
  stamped zero = (refl, refl)
  stamped (suc m) = stamped m

  module _ (a : SampleRack) (period : a.first.server.slice.period ≡ 10) (sl : a.first.server.slice.ticks ≡ 4) where
    worst : (sample_service a 0).worst 6 ≡ 18
    worst = ap (λ (q : ℕ). worst_of q a.first.server.slice.ticks 6) period ∙ ap (λ (q : ℕ). worst_of 10 q 6) sl

    no_feed : (k e : ℕ) → k ≤ 0 → Feeds sample_net 0 k e → ⊥
    no_feed k zero h fe = let q : ◌≡◌ {A = ℕ} 1 0 = fe.into in omega arith
    no_feed k (suc zero) h fe = let q : 1 ≤ k = fe.past in omega arith
    no_feed k (suc (suc e)) h fe = let q : suc (suc e) < 2 = fe.edge in omega arith

    only_edge : (k e : ℕ) → Feeds sample_net 1 k e → e ≡ 0
    only_edge k e fe = let q : ◌≡◌ {A = ℕ} (cond (eqb e 0) 1 0) 1 = fe.into in grind (arith, nat_tests)

    abbrev α : Arrivals
    α = arrivals_of (sample_calls 27)

    bound_0 : (i : ℕ) → i ≡ 0 → Finish sample_net α (by_worst sample_net (sample_service a)) 0 i 18
    bound_0 i z = finish (λ k. 0) (λ k e. 0) (λ k h e fe. absurd (none_feeds k h e fe)) ready (record { covers = covers; met = (0, omega arith, omega (arith, costs 0 (omega arith))) })
      where
        none_feeds : (k : ℕ) → k ≤ i → (e : ℕ) → Feeds sample_net 0 k e → ⊥
        none_feeds k h e fe = no_feed k e (omega arith) fe

        came : (k : ℕ) → k ≤ i → (k < α.count 0) × (α.stamp 0 k ≤ 0)
        came k h =
            let p : k ≡ 0 = omega arith in
            (omega (arith, (stamped 27).0), omega (arith, ap (α.stamp 0) p, (stamped 27).1))

        ready : (k : ℕ) → k ≤ i → ReadyLargest sample_net α 0 k 0 (λ e. 0)
        ready k h = record { arrived = λ q. came k h; fed = λ e fe. omega arith; met = inl refl }

        costs : (k : ℕ) → k ≤ i → (sample_service a 0).worst ((i - k + 1) * 6) ≡ 18
        costs k h = let p : (i - k + 1) * 6 ≡ 6 = (let q : i - k + 1 ≡ 1 = omega arith in ap (λ (n : ℕ). n * 6) q) in ap (sample_service a 0).worst p ∙ worst

        covers : (k : ℕ) → k ≤ i → 0 + (sample_service a 0).worst ((i - k + 1) * 6) ≤ 18
        covers k h = omega (arith, costs k h)

    bound_1 : Finish sample_net α (by_worst sample_net (sample_service a)) 1 0 27
    bound_1 = finish (λ k. 18) (λ k e. 18)
        (λ k h e fe. subst (λ (d : ℕ). Finish sample_net α (by_worst sample_net (sample_service a)) (sample_net.from d) (k - sample_net.tokens d) 18) (sym (only_edge k e fe)) (bound_0 (k - 0) (omega arith)))
        (λ k h. record {
          arrived = λ q. absurd (let z : ◌≡◌ {A = ℕ} 0 1 = cc in omega arith);
          fed = λ e fe. omega arith;
          met = inr (inr (0, record { edge = omega arith; into = refl; past = omega arith }, refl));
        })
        (record { covers = λ k h. omega arith; met = (0, omega arith, omega arith) })

  figures : (a : SampleRack) → a.first.server.slice.period ≡ 10 → a.first.server.slice.ticks ≡ 4 → SampleFigures (sample_service a)
  figures a p s =
      sample_figures (sample_service a)
      (λ i. p i - s i)
      (λ i. pace_of (p i) (s i) 6)
      refl
      refl

  sample_run : SampleRun slots
  unfolding slice sample_rack
  sample_run =
      let r = reach 27 (omega arith) in
      record {
        first = sample_rack;
        is_sample = record { period = refl; slice = refl; position = refl };
        rack = r.rack;
        whole = r.whole;
        run = r.run;
        records = r.looks.records ∙ at_end;
        bound_0 = bound_0 r.rack r.period r.slice_is 0 refl;
        bound_1 = bound_1 r.rack r.period r.slice_is;
        figures = figures r.rack r.period r.slice_is;
      }

sample_sound : Sound sample_net
sample_sound = record {
  time_pos = λ v h. grind (arith, nat_tests);
  from_task = λ e h. grind (arith, nat_tests);
  to_task = λ e h. grind (arith, nat_tests);
  rank = λ v. v;
  forward = λ e h q. grind (arith, nat_tests);
}

pub sample : Sample
sample = record { sound = sample_sound; some = sample_run }
