-- The bound is met in some phase; in the worked figure, in phase 4.
use Rattle.std.proofs.Common.{◌≡◌, ℕ, zero, suc, ◌+◌, ◌-◌, ◌*◌, ◌<◌, ◌≤◌, Bool, true, false, cond, ◌&&◌, eqb, ltb, ◌⊎◌, List, [], ◌∷◌, length, get_or, sym, refl, ap, ◌∙◌, subst, inl, inr, append-nil, None, arith}
use Rattle.std.proofs.lemmas.Bool.Decides.{nat_tests}
use Rattle.servers.specs.Slices.{wait_at, worst_of}
use Rattle.servers.specs.FixedService.{Moves}
use Rattle.servers.specs.declared.fixed.Fixed.{Fixed}
use Rattle.servers.specs.SliceLaws.{fixed_laws, fixed_moves}
use Rattle.servers.proofs.WorstPhase.{worst_after, worst_whole}
use Rattle.racks.specs.declared.one.One.{One}
use Rattle.flow.specs.Nets.{Sound, Arrivals}
use Rattle.flow.specs.Finish.{Feeds, ReadyLargest, Finish, finish, by_worst}
use Rattle.runs.specs.States.{State}
use Rattle.servers.specs.Rounding.{le_or_lt}
use Rattle.runs.specs.Runs.{arrive, tick, Said, done, arrivals_of, Whole, why, Sweep, none, more, Run, begin, refuses, arrives, sets, ticks, takes}
use Rattle.runs.specs.Claims.{Ended}
use Rattle.flow.specs.Lone.{lone, at_times}
use Rattle.flow.proofs.Lone.{lone_bounds}
use Rattle.runs.specs.Exact.{slice_at, slice_steps, Full, Meets, SomeRun, EndsAt, AttainedIn, Attained, Case, Exact, NoSmaller, Phase4}
use Rattle.runs.proofs.Forget.{Shows, worsts, heard, on_time}
use Rattle.runs.proofs.Lone.{next, posn, posn_none, posn_step, phase, Low, low_start, low_needs, low_arrived, low_ticked}

lone_sound : (T : ℕ) → 1 ≤ T → Sound (lone T)
lone_sound T pos = record { time_pos = λ v h. pos; from_task = λ e h. absurd (omega arith); to_task = λ e h. absurd (omega arith); rank = λ v. 0; forward = λ e h. absurd (omega arith) }

-- a sweep over one place
sweep_none : {claims : List Bool} {grants : ℕ → Bool} {a b : One Fixed} {n : ℕ} → Sweep slice_steps claims grants a n b → n ≡ 0 → b ≡ a
sweep_none none e = refl
sweep_none (more sweep step) e = absurd (omega arith)

sweep_one : {claims : List Bool} {grants : ℕ → Bool} {a b : One Fixed} {n : ℕ} → Sweep slice_steps claims grants a n b → n ≡ 1 → Moves a.server (get_or claims 0 false) (grants 0) b.server
sweep_one none e = absurd (omega arith)
sweep_one {claims} {grants} {a} {b} (more {m = n} {b = c} sweep step) e =
    let z : n ≡ 0 = omega arith in
    let q : c ≡ a = sweep_none sweep z in
    let m : Moves c.server (get_or claims 0 false) (grants 0) b.server = subst (λ (j : ℕ). Moves c.server (get_or claims j false) (grants j) b.server) z step.1 in
    subst (λ (r : One Fixed). Moves r.server (get_or claims 0 false) (grants 0) b.server) q m

one_shows : Shows (λ (a : One Fixed). 1) slice_at slice_steps
one_shows = record {
  keeps = λ s k h. fixed_laws s.server;
  moves = λ a b k c g st. fixed_moves a.server b.server c g st.1;
  others = λ a b k c g st j h n. absurd (n (let z : k ≡ 0 = st.0 in omega arith));
  stays = λ a b k c g st. refl;
}

module _ (f : Fixed) (T : ℕ) (pos : 1 ≤ T) (slots : ℕ) where
  abbrev Runs : List Said → One Fixed → Whole → Type 0
  Runs said b x = Run slice_steps (lone T) (record { server = f }) slots said b x

  -- where the slice stands
  record Placed (b : One Fixed) (c : ℕ) : Type 0 where
    pub period : b.server.slice.period ≡ f.slice.period
    pub slice : b.server.slice.ticks ≡ f.slice.ticks
    pub position : b.server.position ≡ posn f.slice.period f.position c

  placed_tick : (a b : One Fixed) (claimed granted : Bool) (c : ℕ) → Placed a c → Moves a.server claimed granted b.server → Placed b (c + 1)
  placed_tick a b claimed granted c old m = record {
    period = m.same_period ∙ old.period;
    slice = m.same_slice ∙ old.slice;
    position =
        m.goes ∙ ap (λ (q : ℕ). cond (ltb (a.server.position + 1) q) (a.server.position + 1) 0) old.period
        ∙ ap (next f.slice.period) old.position ∙ sym (posn_step f.slice.period f.position c);
  }

  placed : {said : List Said} {b : One Fixed} {x : Whole} → Runs said b x → Placed b x.state.clock
  placed begin = record { period = refl; slice = refl; position = sym (posn_none f.slice.period f.position) }
  placed (refuses run call q) = placed run
  placed (arrives run v q) = placed run
  placed (sets run v n q) = placed run
  placed (ticks {a = a} {b = b} {x = x} run claims grants q sweep) = placed_tick a b (get_or claims 0 false) (grants 0) x.state.clock (placed run) (sweep_one sweep refl)
  placed (takes run gone rest h) = placed run

  module _ (i k a t : ℕ) (ki : k ≤ i) (tight : t ≡ a + worst_of f.slice.period f.slice.ticks ((i - k + 1) * T))
      (there : (n : ℕ) → wait_at f.slice.period f.slice.ticks (posn f.slice.period f.position a) n ≡ worst_of f.slice.period f.slice.ticks n) where
    abbrev Low' : State → Type 0
    Low' = Low f.slice.period f.slice.ticks f.slice.some f.slice.within T pos f.position f.passed i k a t ki tight there

    low_run : {said : List Said} {b : One Fixed} {x : Whole} → Runs said b x → Full T said → Low' x.state
    low_run begin full = low_start f.slice.period f.slice.ticks f.slice.some f.slice.within T pos f.position f.passed i k a t ki tight there (lone_sound T pos)
    low_run (refuses run call q) full = low_run run full
    low_run (arrives {x = x} run v q) full = low_arrived f.slice.period f.slice.ticks f.slice.some f.slice.within T pos f.position f.passed i k a t ki tight there x.state v (low_run run full)
    low_run (sets {x = x} run v n q) full = low_needs f.slice.period f.slice.ticks f.slice.some f.slice.within T pos f.position f.passed i k a t ki tight there x.state v n full.0 (low_run run full.1)
    low_run (ticks {a = b} {x = x} run claims grants q sweep) full =
        let pl = placed run in
        let m = sweep_one sweep refl in
        let e : grants 0 ≡ ltb (posn f.slice.period f.position x.state.clock) f.slice.ticks = m.says ∙ ap (λ (n : ℕ). ltb n b.server.slice.ticks) pl.position ∙ ap (ltb (posn f.slice.period f.position x.state.clock)) pl.slice in
        low_ticked f.slice.period f.slice.ticks f.slice.some f.slice.within T pos f.position f.passed i k a t ki tight there (lone_sound T pos) x.state grants e (low_run run full)
    low_run (takes run gone rest h) full = low_run run full

    -- Firing i ends at t, in every run with the arrivals.
    pub ends_at : (times : List ℕ) → get_or times k 0 ≡ a → Finish (lone T) (at_times times) (λ v m. worst_of f.slice.period f.slice.ticks (m * T)) 0 i t →
        (said : List Said) (b : One Fixed) (x : Whole) → Runs said b x → Meets T times i t said → EndsAt x.state i t
    ends_at times at (finish rd fs ds rs m) said b x run meets =
        let pl = placed run in
        let same : (n : ℕ) → worsts slice_at b 0 n ≡ worst_of f.slice.period f.slice.ticks n = λ n. ap (λ (q : ℕ). worst_of q b.server.slice.ticks n) pl.period ∙ ap (λ (q : ℕ). worst_of f.slice.period q n) pl.slice in
        let d : Finish (lone T) (arrivals_of said) (by_worst (lone T) (slice_at b)) 0 i t = finish rd fs (λ j h e fe. absurd (let z : e < 0 = fe.edge in omega arith)) (λ j h. again j h) (record {
          covers = λ j h. omega (arith, m.covers j h, same ((i - j + 1) * T));
          met = (m.met.0, m.met.1, omega (arith, m.met.2, same ((i - m.met.0 + 1) * T)));
        }) in
        let o = on_time (λ (r : One Fixed). 1) slice_at slice_steps one_shows (lone T) (lone_sound T pos) (record { server = f }) (omega arith) slots said b x run 0 i t (omega arith) d meets.reached in
        let late : (c : ℕ) → Ended x.state 0 i c → t ≤ c = λ c ended. (low_run run meets.full).late (λ h. ap (λ (α : Arrivals). α.stamp 0 k) (heard run).1 ∙ meets.on_times k ki ∙ at) c ended in
        let e : o.1 ≡ t = omega (arith, o.2, late o.1 o.3) in
        record {
          then = subst (λ (c : ℕ). Ended x.state 0 i c) e o.3;
          not_before = λ c l ended. omega (arith, late c ended);
        }
      where
        again : (j : ℕ) → j ≤ i → ReadyLargest (lone T) (arrivals_of said) 0 j (rd j) (fs j)
        again j h = record {
          arrived = λ q. (omega (arith, meets.came), omega (arith, ((rs j h).arrived refl).1, meets.on_times j h));
          fed = λ e fe. absurd (let z : e < 0 = fe.edge in omega arith);
          met = go (rs j h).met;
        }
          where
            go : (rd j ≡ 0) ⊎ ((true ≡ true) × (rd j ≡ get_or times j 0)) ⊎ ((e : ℕ) × Feeds (lone T) 0 j e × (rd j ≡ fs j e)) → (rd j ≡ 0) ⊎ ((true ≡ true) × (rd j ≡ (arrivals_of said).stamp 0 j)) ⊎ ((e : ℕ) × Feeds (lone T) 0 j e × (rd j ≡ fs j e))
            go (inl q) = inl q
            go (inr (inl (q, r))) = inr (inl (refl, r ∙ sym (meets.on_times j h)))
            go (inr (inr (e, fe, r))) = absurd (let z : e < 0 = fe.edge in omega arith)

  -- a run: each arrival at its time, and ticks between
  module _ (room : 1 ≤ slots) (times : List ℕ) where
    record Reached (m c : ℕ) : Type 0 where
      pub said : List Said
      pub rack : One Fixed
      pub whole : Whole
      pub run : Runs said rack whole
      pub full : Full T said
      pub clock : whole.state.clock ≡ c
      pub count : whole.state.arrivals.count 0 ≡ m
      pub stamps : (j : ℕ) → j < m → whole.state.arrivals.stamp 0 j ≡ get_or times j 0
      pub few : whole.state.waiting 0 ≤ whole.state.arrivals.count 0

    at_first : Reached 0 0
    at_first = record {
      said = [];
      rack = record { server = f };
      whole = _;
      run = begin;
      full = tt;
      clock = refl;
      count = refl;
      stamps = λ j h. absurd (omega arith);
      few = omega arith;
    }

    one_more : {m c : ℕ} → Reached m c → m < 65535 → get_or times m 0 ≡ c → Reached (m + 1) c
    one_more {m} {c} r h e = record {
      said = done (arrive 0) ∷ r.said;
      rack = r.rack;
      whole = _;
      run = arrives r.run 0 ok;
      full = r.full;
      clock = r.clock;
      count = omega (arith, r.count);
      stamps = λ j l.
          let old : j < m → r.whole.state.arrivals.stamp 0 j ≡ get_or times j 0 = r.stamps j in
          let cnt : r.whole.state.arrivals.count 0 ≡ m = r.count in
          let clk : r.whole.state.clock ≡ c = r.clock in
          by j (le_or_lt m j) l old;
      few = omega (arith, r.few);
    }
      where
        ok : why (lone T) slots r.whole (arrive 0) ≡ None
        ok = let few : r.whole.state.waiting 0 < 65535 = omega (arith, r.few, r.count) in grind (arith, nat_tests)

        by : (j : ℕ) → (m ≤ j) ⊎ (j < m) → j < m + 1 → (j < m → r.whole.state.arrivals.stamp 0 j ≡ get_or times j 0) →
            cond (eqb 0 0 && eqb j (r.whole.state.arrivals.count 0)) r.whole.state.clock (r.whole.state.arrivals.stamp 0 j) ≡ get_or times j 0
        by j (inl g) l old =
            let cnt : r.whole.state.arrivals.count 0 ≡ m = r.count in
            let clk : r.whole.state.clock ≡ c = r.clock in
            let q : m ≡ j = omega arith in
            let v : get_or times j 0 ≡ c = ap (λ (n : ℕ). get_or times n 0) (sym q) ∙ e in
            grind (arith, nat_tests)
        by j (inr g) l old =
            let cnt : r.whole.state.arrivals.count 0 ≡ m = r.count in
            let v = old g in
            grind (arith, nat_tests)

    tick_on : {m c : ℕ} → Reached m c → c < 1000000000 → Reached m (c + 1)
    tick_on {m} {c} r h = record {
      said = done (tick (false ∷ [])) ∷ r.said;
      rack = record { server = after };
      whole = _;
      run = ticks (takes r.run r.whole.belt [] (sym (append-nil r.whole.belt))) (false ∷ []) (λ v. ltb r.rack.server.position r.rack.server.slice.ticks) ok
          (more none (refl, record { says = refl; goes = refl; same_period = refl; same_slice = refl }));
      full = r.full;
      clock = omega (arith, r.clock);
      count = r.count;
      stamps = r.stamps;
      few = omega (arith, r.few);
    }
      where
        ok : why (lone T) slots (record { state = r.whole.state; belt = [] }) (tick (false ∷ [])) ≡ None
        ok =
            let clk : r.whole.state.clock < 1000000000 = omega (arith, r.clock) in
            let fr : 1 ≤ slots - 0 = omega arith in
            grind (arith, nat_tests)

        after : Fixed
        after = record {
          slice = r.rack.server.slice;
          position = next r.rack.server.slice.period r.rack.server.position;
          passed = let o : r.rack.server.position < r.rack.server.slice.period = r.rack.server.passed in grind (arith, nat_tests);
        }

    ticks_on : {m c : ℕ} (n : ℕ) → Reached m c → c + n ≤ 1000000000 → Reached m (c + n)
    ticks_on {m} {c} zero r h = subst (λ (d : ℕ). Reached m d) (let e : c ≡ c + zero = omega arith in e) r
    ticks_on {m} {c} (suc n) r h = subst (λ (d : ℕ). Reached m d) (let e : (c + n) + 1 ≡ c + suc n = omega arith in e) (tick_on (ticks_on n r (omega arith)) (omega arith))

    ticks_to : {m c : ℕ} (d : ℕ) → Reached m c → c ≤ d → d ≤ 1000000000 → Reached m d
    ticks_to {m} {c} d r le most = let e : c + (d - c) ≡ d = omega arith in subst (λ (d : ℕ). Reached m d) e (ticks_on (d - c) r (omega arith))

    module _ (short : length times ≤ 256) (falls : (j k : ℕ) → j ≤ k → k < length times → get_or times j 0 ≤ get_or times k 0) (i : ℕ) (il : i < length times) (most : get_or times i 0 ≤ 1000000000) where
      all_came : (m : ℕ) → m ≤ i → Reached (m + 1) (get_or times m 0)
      all_came zero h = one_more (ticks_to (get_or times 0 0) at_first (omega arith) (omega (arith, falls 0 i h il))) (omega arith) refl
      all_came (suc m) h =
          let e : m + 1 ≡ suc m = omega arith in
          let r = all_came m (omega arith) in
          subst (λ (n : ℕ). Reached (n + 1) (get_or times (suc m) 0)) e
          (one_more (ticks_to (get_or times (suc m) 0) r (falls m (suc m) (omega arith) (omega arith)) (omega (arith, falls (suc m) i h il))) (omega arith) (ap (λ (n : ℕ). get_or times n 0) e))

      pub some_run : (t : ℕ) → get_or times i 0 ≤ t → t ≤ 1000000000 → SomeRun T f slots times i t
      some_run t le t9 =
          let r = ticks_to t (all_came i (omega arith)) le t9 in
          record {
            said = r.said;
            rack = r.rack;
            whole = r.whole;
            run = r.run;
            meets = record {
              full = r.full;
              came = omega (arith, r.count, ap (λ (α : Arrivals). α.count 0) (heard r.run).1);
              on_times = λ k h. sym (ap (λ (α : Arrivals). α.stamp 0 k) (heard r.run).1) ∙ r.stamps k (omega arith);
              reached = omega (arith, r.clock, (heard r.run).0);
            };
          }

-- the position from which a slice is worst
worst_place : (p s : ℕ) → 0 < s → s ≤ p → (at : ℕ) × (at < p) × ((n : ℕ) → wait_at p s at n ≡ worst_of p s n)
worst_place p s some fits = go (le_or_lt p s)
  where
    go : (p ≤ s) ⊎ (s < p) → (at : ℕ) × (at < p) × ((n : ℕ) → wait_at p s at n ≡ worst_of p s n)
    go (inl h) = (0, omega arith, worst_whole p s some fits (omega arith))
    go (inr h) = (s, h, worst_after p s some fits h)

-- a firing is not finished before its arrival
after_last : (time : ℕ) (cost : ℕ → ℕ) (times : List ℕ) (i t : ℕ) → Finish (lone time) (at_times times) (λ v. cost) 0 i t → get_or times i 0 ≤ t
after_last time cost times i t (finish a fs ds rs m) = omega (arith, ((rs i (omega arith)).arrived refl).1, m.covers i (omega arith))

-- A slice that is worst at arrival k, from which the bound counts, attains it in its phase.
attained_in : (f : Fixed) (time : ℕ) (times : List ℕ) (i t : ℕ) → Case f.slice.period f.slice.ticks time times i t → (k a : ℕ) → k ≤ i → get_or times k 0 ≡ a →
    t ≡ a + worst_of f.slice.period f.slice.ticks ((i - k + 1) * time) →
    ((n : ℕ) → wait_at f.slice.period f.slice.ticks (posn f.slice.period f.position a) n ≡ worst_of f.slice.period f.slice.ticks n) →
    AttainedIn f.slice.period f.slice.ticks f.position time times i t
attained_in f time times i t case k a ki at tight there =
    let last : get_or times i 0 ≤ t = after_last time (λ m. worst_of f.slice.period f.slice.ticks (m * time)) times i t case.bound in
    record {
      server = f;
      starts = record { its_period = refl; its_slice = refl; its_phase = refl };
      some = λ slots room. some_run f time case.time_pos slots room times case.few case.never_fall i case.firing (omega (arith, case.near)) t last case.near;
      each = λ slots room. ends_at f time case.time_pos slots i k a t ki tight there times at case.bound;
    }

pub exact : Exact
exact period slice time times i t case = by case.bound
  where
    by : Finish (lone time) (at_times times) (λ v m. worst_of period slice (m * time)) 0 i t → Attained period slice time times i t
    by (finish a fs ds rs m) =
        let k : ℕ = m.met.0 in
        let ki : k ≤ i = m.met.1 in
        let at = worst_place period slice case.some case.within in
        let ph = phase period (a k) at.0 at.1 in
        let f : Fixed = record { slice = record { period = period; ticks = slice; some = case.some; within = case.within; short = case.short }; position = ph.0; passed = ph.1 } in
        let there : (n : ℕ) → wait_at period slice (posn period ph.0 (a k)) n ≡ worst_of period slice n = λ n. ap (λ (q : ℕ). wait_at period slice q n) ph.2 ∙ at.2 n in
        (ph.0, ph.1, attained_in f time times i t case k (a k) ki (at_time k ki (rs k ki).met) m.met.2 there)
      where
        at_time : (k : ℕ) → k ≤ i → (a k ≡ 0) ⊎ ((true ≡ true) × (a k ≡ get_or times k 0)) ⊎ ((e : ℕ) × Feeds (lone time) 0 k e × (a k ≡ fs k e)) → get_or times k 0 ≡ a k
        at_time k h (inl q) = omega (arith, ((rs k h).arrived refl).1)
        at_time k h (inr (inl (q, r))) = sym r
        at_time k h (inr (inr (e, fe, r))) = absurd (let z : e < 0 = fe.edge in omega arith)

pub no_smaller : NoSmaller
no_smaller period slice time times i t case u less =
    let (ph, below, met) = exact period slice time times i t case in
    record {
      phase = ph;
      below = below;
      server = met.server;
      starts = met.starts;
      run = λ slots room.
          let r = met.some slots room in
          (r, λ c l ended. (met.each slots room r.said r.rack r.whole r.run r.meets).not_before c (omega arith) ended);
    }

-- the worked figure
abbrev worked : List ℕ
worked = 0 ∷ 5 ∷ 40 ∷ []

worked_falls : (j k : ℕ) → j ≤ k → k < 3 → get_or worked j 0 ≤ get_or worked k 0
worked_falls zero k h l = omega arith
worked_falls (suc j) zero h l = absurd (omega arith)
worked_falls (suc zero) (suc zero) h l = omega arith
worked_falls (suc zero) (suc (suc zero)) h l = omega arith
worked_falls (suc zero) (suc (suc (suc k))) h l = absurd (omega arith)
worked_falls (suc (suc zero)) (suc zero) h l = absurd (omega arith)
worked_falls (suc (suc zero)) (suc (suc zero)) h l = omega arith
worked_falls (suc (suc zero)) (suc (suc (suc k))) h l = absurd (omega arith)
worked_falls (suc (suc (suc j))) (suc k) h l = absurd (omega arith)

worked_case : Case 10 4 6 worked 1 30
worked_case = record {
  some = omega arith;
  within = omega arith;
  short = omega arith;
  time_pos = omega arith;
  few = omega arith;
  never_fall = worked_falls;
  firing = omega arith;
  bound = lone_bounds 6 (λ m. worst_of 10 4 (m * 6)) worked 1 (omega arith);
  near = omega arith;
}

-- firings 0 and 1 are served back to back from clock 0, where the slice has just closed
pub phase_4 : Phase4
phase_4 =
    let f : Fixed = record { slice = record { period = 10; ticks = 4; some = omega arith; within = omega arith; short = omega arith }; position = 4; passed = omega arith } in
    let there : (n : ℕ) → wait_at 10 4 (posn 10 4 0) n ≡ worst_of 10 4 n = λ n. ap (λ (q : ℕ). wait_at 10 4 q n) (posn_none 10 4) ∙ worst_after 10 4 (omega arith) (omega arith) (omega arith) n in
    (worked_case, attained_in f 6 worked 1 30 worked_case 0 0 (omega arith) refl refl there)
