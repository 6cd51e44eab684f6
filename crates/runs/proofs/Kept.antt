-- The windows of all tasks are kept over a run, and so each firing is on time.
use Rattle.std.proofs.Common.{◌≡◌, ℕ, suc, ◌+◌, ◌-◌, ◌*◌, ◌<◌, ◌≤◌, Bool, true, false, cond, ◌&&◌, eqb, ◌⊎◌, refl, ap, subst, inl, inr, mul-le-mul_right, arith}
use mathlib.Core.List.Memᴰ
use Rattle.std.proofs.lemmas.Bool.Decides.{nat_tests}
use Rattle.flow.specs.Nets.{Net, Sound, Arrivals}
use Rattle.flow.specs.Finish.{Feeds, Finish, Ready}
use Rattle.runs.specs.States.{State, one, supplied, starts, left, ends, put_out, new_state, arrived, need_set, ticked}
use Rattle.runs.proofs.Bare.{Waits, Places, PlacesTicked, Bare, begin, arrives, sets, ticks, cost_of, OutBy}
use Rattle.servers.specs.Rounding.{le_or_lt}
use Rattle.flow.proofs.Bounds.{ready_le, finish_ready, ready_back}
use Rattle.runs.proofs.Moves.{supplied_decides, move}
use Rattle.runs.proofs.Window.{rest, rest_cases, open_window, slide}
use Rattle.runs.proofs.Base.{Base, out_now, base_start, base_needs, base_arrived, base_ticked}

-- arrivals come in order
pub record Ordered (g : Net) (α : Arrivals) : Type 0 where
  pub order : (v k : ℕ) → v < g.tasks → suc k < α.count v → α.stamp v k ≤ α.stamp v (suc k)

-- α has the arrivals accepted so far, and perhaps more, that come now or later
pub record Agrees (g : Net) (α : Arrivals) (s : State) : Type 0 where
  pub known : (v k : ℕ) → v < g.tasks → k < s.arrivals.count v → α.stamp v k ≡ s.arrivals.stamp v k
  pub late : (v k : ℕ) → v < g.tasks → s.arrivals.count v ≤ k → k < α.count v → s.clock ≤ α.stamp v k

-- Since firing k of v was ready, at a, v has not been behind what its place can have given it.
pub record Window (g : Net) (α : Arrivals) (Z W : ℕ → ℕ → ℕ) (s : State) (v : ℕ) : Type 0 where
  pub k : ℕ
  pub a : ℕ
  pub since : k ≤ s.fired v
  pub ready : Ready g α (cost_of g Z) v k a
  pub bound : (x : ℕ) → s.clock + W v (rest (g.time v) (s.to_go v) + x) ≤ a + Z v ((s.fired v - k + 1) * g.time v + x)

pub record Kept (g : Net) (Z W : ℕ → ℕ → ℕ) (s : State) : Type 0 where
  pub base : Base g s
  pub waits : (v : ℕ) → v < g.tasks → Waits (Z v) (W v)
  pub windows : (α : Arrivals) → Ordered g α → Agrees g α s → (v : ℕ) → v < g.tasks → (a : ℕ) → Ready g α (cost_of g Z) v (s.fired v) a → a ≤ s.clock → Window g α Z W s v
  pub timely : (α : Arrivals) → Ordered g α → Agrees g α s → (v i t : ℕ) → v < g.tasks → Finish g α (cost_of g Z) v i t → i < s.fired v → OutBy s v i t

module _ (g : Net) (sound : Sound g) (Z : ℕ → ℕ → ℕ) where
  -- a firing whose bound is not past the clock has ended
  ended : (W : ℕ → ℕ → ℕ) (s : State) → Kept g Z W s → (α : Arrivals) → Ordered g α → Agrees g α s → (v i t : ℕ) → v < g.tasks → Finish g α (cost_of g Z) v i t → t ≤ s.clock → i < s.fired v
  ended W s kept α ord agr v i t h d le = go (le_or_lt (s.fired v) i)
    where
      go : (s.fired v ≤ i) ⊎ (i < s.fired v) → i < s.fired v
      go (inr l) = l
      go (inl l) =
          let now = finish_ready g α (cost_of g Z) d (s.fired v) l in
          let w = kept.windows α ord agr v h now.0 now.1 (omega (arith, now.2)) in
          let ki : w.k ≤ i = omega (arith, w.since) in
          let old = finish_ready g α (cost_of g Z) d w.k ki in
          let same = ready_le g α (cost_of g Z) w.ready old.1 in
          let span : s.fired v - w.k + 1 ≤ i - w.k + 1 = omega arith in
          let span₂ : (s.fired v - w.k + 1) * g.time v + 0 ≤ (i - w.k + 1) * g.time v = omega (arith, mul-le-mul_right (g.time v) span) in
          let ws = kept.waits v h in
          let cs = rest_cases (g.time v) (s.to_go v) in
          let pos : 1 ≤ rest (g.time v) (s.to_go v) = omega (arith, sound.time_pos v h) in
          absurd (omega (arith, w.bound 0, ws.worst_rises _ _ span₂, ws.above (rest (g.time v) (s.to_go v) + 0), old.2, same, pos))

  -- a task whose next firing is ready, by its ready time, is under way or has its tokens
  has_tokens : (W : ℕ → ℕ → ℕ) (s : State) → Kept g Z W s → (α : Arrivals) → Ordered g α → Agrees g α s → ((v k : ℕ) → v < g.tasks → s.arrivals.count v ≤ k → k < α.count v → s.clock < α.stamp v k) →
      (v a : ℕ) → v < g.tasks → Ready g α (cost_of g Z) v (s.fired v) a → a ≤ s.clock → s.to_go v ≡ 0 → supplied g s v ≡ true
  has_tokens W s kept α ord agr later v a h r le idle = (supplied_decides g s v).1 (record { inlet = by_inlet; edges = by_edge })
    where
      by_inlet : g.inlet v ≡ true → 1 ≤ s.waiting v
      by_inlet q =
          let ar = r.largest.arrived q in
          let b = kept.base.wait_count v h q in
          go (le_or_lt (s.arrivals.count v) (s.fired v))
        where
          go : (s.arrivals.count v ≤ s.fired v) ⊎ (s.fired v < s.arrivals.count v) → 1 ≤ s.waiting v
          go (inl l) = absurd (omega (arith, later v (s.fired v) h l (r.largest.arrived q).0, (r.largest.arrived q).1))
          go (inr l) = omega (arith, kept.base.wait_count v h q)

      by_edge : (e : ℕ) → e < g.edges → g.to e ≡ v → 1 ≤ s.held e
      by_edge e he q = go (le_or_lt (g.tokens e) (s.fired v))
        where
          to_fired : s.fired (g.to e) ≡ s.fired v
          to_fired = ap s.fired q

          to_togo : s.to_go (g.to e) ≡ s.to_go v
          to_togo = ap s.to_go q

          go : (g.tokens e ≤ s.fired v) ⊎ (s.fired v < g.tokens e) → 1 ≤ s.held e
          go (inl l) =
              let fe : Feeds g v (s.fired v) e = record { edge = he; into = q; past = l } in
              let fl = r.largest.fed e fe in
              let done = ended W s kept α ord agr (g.from e) (s.fired v - g.tokens e) (r.f e) (sound.from_task e he) (r.feeds e fe) (omega arith) in
              omega (arith, kept.base.held_count e he, to_fired, to_togo)
          go (inr l) = omega (arith, kept.base.held_count e he, to_fired, to_togo)

  kept_start : (W : ℕ → ℕ → ℕ) → Places g Z W → Kept g Z W (new_state g)
  kept_start W rack = record {
    base = base_start g sound;
    waits = rack.waits;
    windows = λ α ord agr v h a r le. record {
      k = 0;
      a = a;
      since = omega arith;
      ready = r;
      bound = open_window (Z v) (W v) 0 a 0 (g.time v) 0 (rack.waits v h) (sound.time_pos v h) (omega arith) (omega arith);
    };
    timely = λ α ord agr v i t h d l. absurd (omega arith);
  }

  kept_needs : (W : ℕ → ℕ → ℕ) (s : State) (v x : ℕ) → 1 ≤ x → x ≤ g.time v → Kept g Z W s → Kept g Z W (need_set s v x)
  kept_needs W s v x pos fits kept = record {
    base = base_needs g s v x pos fits kept.base;
    waits = kept.waits;
    windows = λ α ord agr u h a r le.
        let w = kept.windows α ord (record { known = agr.known; late = agr.late }) u h a r le in
        record { k = w.k; a = w.a; since = w.since; ready = w.ready; bound = w.bound };
    timely = λ α ord agr. kept.timely α ord (record { known = agr.known; late = agr.late });
  }

  kept_arrived : (W : ℕ → ℕ → ℕ) (s : State) (v : ℕ) → Kept g Z W s → Kept g Z W (arrived s v)
  kept_arrived W s v kept = record {
    base = base_arrived g s v kept.base;
    waits = kept.waits;
    windows = λ α ord agr u h a r le.
        let w = kept.windows α ord (before α agr) u h a r le in
        record { k = w.k; a = w.a; since = w.since; ready = w.ready; bound = w.bound };
    timely = λ α ord agr. kept.timely α ord (before α agr);
  }
    where
      before : (α : Arrivals) → Agrees g α (arrived s v) → Agrees g α s
      before α agr = record {
        known = λ u k j l.
            let kn : k < s.arrivals.count u + one (eqb u v) → α.stamp u k ≡ cond (eqb u v && eqb k (s.arrivals.count u)) s.clock (s.arrivals.stamp u k) = agr.known u k j in
            grind (arith, nat_tests);
        late = λ u k j l m.
            let kn : k < s.arrivals.count u + one (eqb u v) → α.stamp u k ≡ cond (eqb u v && eqb k (s.arrivals.count u)) s.clock (s.arrivals.stamp u k) = agr.known u k j in
            let lt : s.arrivals.count u + one (eqb u v) ≤ k → s.clock ≤ α.stamp u k = λ p. agr.late u k j p m in
            grind (arith, nat_tests);
      }

  module _ (W W' : ℕ → ℕ → ℕ) (s : State) (grants : ℕ → Bool) (rack : PlacesTicked g Z grants W W') (kept : Kept g Z W s) where
    before_tick : (α : Arrivals) → Agrees g α (ticked g grants s) → Agrees g α s
    before_tick α agr = record { known = agr.known; late = λ v k j l m. omega (arith, agr.late v k j l m) }

    slid : (α : Arrivals) → Ordered g α → Agrees g α (ticked g grants s) → (v : ℕ) → v < g.tasks → (a : ℕ) → Ready g α (cost_of g Z) v (s.fired v) a → a ≤ s.clock → Window g α Z W' (ticked g grants s) v
    slid α ord agr v h a r le =
        let w = kept.windows α ord (before_tick α agr) v h a r le in
        let b = kept.base in
        record {
          k = w.k;
          a = w.a;
          since = omega (arith, w.since);
          ready = w.ready;
          bound = slide (grants v) (supplied g s v) (Z v) (W v) (W' v) s.clock w.a (s.fired v) w.k (g.time v) (s.to_go v) (s.need v) (left g s grants v) (one (starts g s grants v)) (one (ends g s grants v))
              (kept.waits v h) (rack.waits v h) (rack.ticks v h) (sound.time_pos v h) (b.need_fits v h) w.since w.bound
              (move g s grants v (b.need_pos v h))
              (has_tokens W s kept α ord (before_tick α agr) (λ u k j l m. omega (arith, agr.late u k j l m)) v a h r le);
        }

    mono : (v : ℕ) → v < g.tasks → (m n : ℕ) → m ≤ n → cost_of g Z v m ≤ cost_of g Z v n
    mono v h m n l = (kept.waits v h).worst_rises _ _ (mul-le-mul_right (g.time v) l)

    timely : (α : Arrivals) → Ordered g α → Agrees g α (ticked g grants s) → (v i t : ℕ) → v < g.tasks → Finish g α (cost_of g Z) v i t → i < (ticked g grants s).fired v → OutBy (ticked g grants s) v i t
    timely α ord agr v i t h d l = go (le_or_lt (s.fired v) i)
      where
        in_time : s.fired v ≤ i → (t ≤ s.clock) ⊎ (s.clock < t) → s.clock + 1 ≤ t
        in_time p (inl le) = absurd (omega (arith, ended W s kept α ord (before_tick α agr) v i t h d le))
        in_time p (inr lt) = omega arith

        go : (s.fired v ≤ i) ⊎ (i < s.fired v) → OutBy (ticked g grants s) v i t
        go (inl p) = (s.clock + 1, in_time p (le_or_lt t s.clock), out_now g s grants v i h p l)
        go (inr p) = let o = kept.timely α ord (before_tick α agr) v i t h d p in (o.0, o.1, Memᴰ.append_left (put_out g s grants g.tasks) o.2)

    kept_ticked : Kept g Z W' (ticked g grants s)
    kept_ticked = record {
      base = base_ticked g sound s grants kept.base;
      waits = rack.waits;
      windows = windows;
      timely = timely;
    }
      where
        windows : (α : Arrivals) → Ordered g α → Agrees g α (ticked g grants s) → (v : ℕ) → v < g.tasks → (a : ℕ) → Ready g α (cost_of g Z) v (s.fired v + one (ends g s grants v)) a → a ≤ s.clock + 1 → Window g α Z W' (ticked g grants s) v
        windows α ord agr v h a r le = go (le_or_lt a s.clock)
          where
            by_end : (b : Bool) → Ready g α (cost_of g Z) v (s.fired v + one b) a → a ≤ s.clock → (a' : ℕ) × (a' ≤ s.clock) × Ready g α (cost_of g Z) v (s.fired v) a'
            by_end true r l =
                let q : s.fired v + 1 ≡ suc (s.fired v) = omega arith in
                let back = ready_back g α (cost_of g Z) mono sound.from_task (λ _. ord.order v (s.fired v) h) (subst (λ (n : ℕ). Ready g α (cost_of g Z) v n a) q r) in
                (back.0, omega (arith, back.1), back.2)
            by_end false r l =
                let q : s.fired v + 0 ≡ s.fired v = omega arith in
                (a, l, subst (λ (n : ℕ). Ready g α (cost_of g Z) v n a) q r)

            go : (a ≤ s.clock) ⊎ (s.clock < a) → Window g α Z W' (ticked g grants s) v
            go (inl l) = let old = by_end (ends g s grants v) r l in slid α ord agr v h old.0 old.2 old.1
            go (inr l) = record {
              k = s.fired v + one (ends g s grants v);
              a = a;
              since = omega arith;
              ready = r;
              bound = open_window (Z v) (W' v) (s.clock + 1) a (s.fired v + one (ends g s grants v)) (g.time v) (left g s grants v) (rack.waits v h) (sound.time_pos v h) ((base_ticked g sound s grants kept.base).to_go_fits v h) (omega arith);
            }

  pub kept_run : {W : ℕ → ℕ → ℕ} {s : State} → Bare g Z W s → Kept g Z W s
  kept_run (begin {W = W} rack) = kept_start W rack
  kept_run (arrives {W = W} {s = s} run v h q) = kept_arrived W s v (kept_run run)
  kept_run (sets {W = W} {s = s} run v x p q) = kept_needs W s v x p q (kept_run run)
  kept_run (ticks {W = W} {W' = W'} {s = s} run grants rack) = kept_ticked W W' s grants rack (kept_run run)

  pub on_time : {W : ℕ → ℕ → ℕ} {s : State} → Bare g Z W s → (v i t : ℕ) → v < g.tasks → Finish g s.arrivals (cost_of g Z) v i t → t ≤ s.clock → (i < s.fired v) × OutBy s v i t
  on_time {W} {s} run v i t h d le =
      let kept = kept_run run in
      let own : Agrees g s.arrivals s = record { known = λ u k j l. refl; late = λ u k j l m. absurd (omega arith) } in
      let ord : Ordered g s.arrivals = record { order = kept.base.ordered } in
      let done : i < s.fired v = ended W s kept s.arrivals ord own v i t h d le in
      (done, kept.timely s.arrivals ord own v i t h d done)
