-- No firing ends before what it takes was there.
use Rattle.std.proofs.Common.{◌≡◌, ℕ, ◌+◌, ◌-◌, ◌<◌, ◌≤◌, min, Bool, true, cond, ◌&&◌, eqb, ◌⊎◌, List, ap, inl, inr, arith}
use mathlib.Core.List.Memᴰ
use mathlib.Core.List.{Memᴰ}
use Rattle.std.proofs.lemmas.Bool.Decides.{nat_tests}
use Rattle.flow.specs.Nets.{Net, Sound, Arrivals}
use Rattle.flow.specs.Finish.{Feeds}
use Rattle.servers.specs.Rounding.{le_or_lt}
use Rattle.runs.specs.States.{State, Finished, one, starts, ends, put_out, new_state, arrived, need_set, ticked}
use Rattle.runs.specs.Runs.{Said, Whole, Run, begin, refuses, arrives, sets, ticks, takes}
use Rattle.runs.specs.Claims.{Ended, NotEarly}
use Rattle.runs.proofs.Moves.{Supplied}
use Rattle.runs.proofs.Base.{Base, out_now, had, begun_at, base_start, base_needs, base_arrived, base_ticked}
use Rattle.runs.proofs.Forget.{heard, need_ok}
use Rattle.runs.proofs.Order.{put_of}

-- the firings of v that were begun
abbrev begun : State → ℕ → ℕ
begun s v = s.fired v + min 1 (s.to_go v)

-- the firing that feeds firing j of v over e ended below c
abbrev Fed : Net → State → ℕ → ℕ → ℕ → Type 0
Fed n s v j c = (e : ℕ) → Feeds n v j e → (d : ℕ) × (d < c) × Ended s (n.from e) (j - n.tokens e) d

-- what is known of a record
record Put (n : Net) (s : State) (v i c : ℕ) : Type 0 where
  pub task : v < n.tasks
  pub firing : i < s.fired v
  pub fed : Fed n s v i c
  pub came : n.inlet v ≡ true → s.arrivals.stamp v i < c

record Sure (n : Net) (s : State) : Type 0 where
  pub base : Base n s
  pub ended : (v j : ℕ) → v < n.tasks → j < s.fired v → (c : ℕ) × (c ≤ s.clock) × Ended s v j c
  pub fed : (v j : ℕ) → v < n.tasks → j < begun s v → Fed n s v j s.clock
  pub came : (v j : ℕ) → v < n.tasks → j < begun s v → n.inlet v ≡ true → s.arrivals.stamp v j < s.clock
  pub put : (v i c : ℕ) → Ended s v i c → Put n s v i c

module _ (n : Net) (sound : Sound n) where
  sure_new : Sure n (new_state n)
  sure_new = record {
    base = base_start n sound;
    ended = λ v j h l. absurd (omega arith);
    fed = λ v j h l. absurd (omega arith);
    came = λ v j h l. absurd (omega arith);
    put = λ v i c h. absurd (Memᴰ.not-nil h);
  }

  sure_needs : (s : State) (v x : ℕ) → 1 ≤ x → x ≤ n.time v → Sure n s → Sure n (need_set s v x)
  sure_needs s v x pos fits old = record {
    base = base_needs n s v x pos fits old.base;
    ended = old.ended;
    fed = old.fed;
    came = old.came;
    put = λ u i c h. let p = old.put u i c h in record { task = p.task; firing = p.firing; fed = p.fed; came = p.came };
  }

  sure_arrived : (s : State) (v : ℕ) → Sure n s → Sure n (arrived s v)
  sure_arrived s v old = record {
    base = base_arrived n s v old.base;
    ended = old.ended;
    fed = old.fed;
    came = λ u j h l q. same u j s.clock (count u j h l q) (old.came u j h l q);
    put = λ u i c h.
        let p = old.put u i c h in
        record { task = p.task; firing = p.firing; fed = p.fed; came = λ q. same u i c (count u i p.task (omega (arith, p.firing)) q) (p.came q) };
  }
    where
      count : (u j : ℕ) → u < n.tasks → j < begun s u → n.inlet u ≡ true → j < s.arrivals.count u
      count u j h l q = omega (arith, old.base.wait_count u h q)

      same : (u j c : ℕ) → j < s.arrivals.count u → s.arrivals.stamp u j < c → cond (eqb u v && eqb j (s.arrivals.count u)) s.clock (s.arrivals.stamp u j) < c
      same u j c l h = grind (arith, nat_tests)

  module _ (s : State) (grants : ℕ → Bool) (old : Sure n s) where
    abbrev s' : State
    s' = ticked n grants s

    lift : {v i c : ℕ} → Ended s v i c → Ended s' v i c
    lift h = Memᴰ.append_left (put_out n s grants n.tasks) h

    later : {v i d' : ℕ} → (d : ℕ) × (d < d') × Ended s v i d → d' ≤ s.clock + 1 → (d : ℕ) × (d < s.clock + 1) × Ended s' v i d
    later (d, l, h) k = (d, omega arith, lift h)

    ended' : (v j : ℕ) → v < n.tasks → j < s.fired v + one (ends n s grants v) → (c : ℕ) × (c ≤ s.clock + 1) × Ended s' v j c
    ended' v j h l = go (le_or_lt (s.fired v) j)
      where
        go : (s.fired v ≤ j) ⊎ (j < s.fired v) → (c : ℕ) × (c ≤ s.clock + 1) × Ended s' v j c
        go (inl p) = (s.clock + 1, omega arith, out_now n s grants v j h p l)
        go (inr p) = let o = old.ended v j h p in (o.0, omega (arith, o.1), lift o.2)

    -- a firing that was begun before, or begins now with all that it takes
    was_or_now : (v j : ℕ) → v < n.tasks → j < begun s' v → (j < begun s v) ⊎ ((j ≡ begun s v) × Supplied n s v)
    was_or_now v j h l = go (le_or_lt (begun s v) j) (had n sound s grants old.base v h)
      where
        go : (begun s v ≤ j) ⊎ (j < begun s v) → (one (starts n s grants v) ≡ 0) ⊎ ((one (starts n s grants v) ≡ 1) × Supplied n s v) → (j < begun s v) ⊎ ((j ≡ begun s v) × Supplied n s v)
        go (inr p) _ = inl p
        go (inl p) (inl q) = absurd (omega (arith, begun_at n sound s grants old.base v h))
        go (inl p) (inr (q, u)) = inr (omega (arith, begun_at n sound s grants old.base v h), u)

    fed' : (v j : ℕ) → v < n.tasks → j < begun s' v → Fed n s' v j (s.clock + 1)
    fed' v j h l e fe = go (was_or_now v j h l)
      where
        by : (d : ℕ) × (d ≤ s.clock) × Ended s (n.from e) (j - n.tokens e) d → (d : ℕ) × (d < s.clock + 1) × Ended s' (n.from e) (j - n.tokens e) d
        by (d, l, h) = (d, omega arith, lift h)

        go : (j < begun s v) ⊎ ((j ≡ begun s v) × Supplied n s v) → (d : ℕ) × (d < s.clock + 1) × Ended s' (n.from e) (j - n.tokens e) d
        go (inl p) = later (old.fed v j h p e fe) (omega arith)
        go (inr (q, u)) =
            let past : n.tokens e ≤ j = fe.past in
            let has : 1 ≤ s.held e = u.edges e fe.edge fe.into in
            let b : begun s (n.to e) ≡ begun s v = ap (begun s) fe.into in
            let done : j - n.tokens e < s.fired (n.from e) = omega (arith, old.base.held_count e fe.edge) in
            by (old.ended (n.from e) (j - n.tokens e) (sound.from_task e fe.edge) done)

    came' : (v j : ℕ) → v < n.tasks → j < begun s' v → n.inlet v ≡ true → s.arrivals.stamp v j < s.clock + 1
    came' v j h l i = go (was_or_now v j h l)
      where
        go : (j < begun s v) ⊎ ((j ≡ begun s v) × Supplied n s v) → s.arrivals.stamp v j < s.clock + 1
        go (inl p) = omega (arith, old.came v j h p i)
        go (inr (q, u)) =
            let has : 1 ≤ s.waiting v = u.inlet i in
            let k : j < s.arrivals.count v = omega (arith, old.base.wait_count v h i) in
            omega (arith, old.base.stamped v j h k)

    put' : (v i c : ℕ) → Ended s' v i c → Put n s' v i c
    put' v i c h = go (Memᴰ.append_cases s.records h)
      where
        go : Ended s v i c ⊎ Memᴰ {A = Finished} (record { task = v; firing = i; clock = c }) (put_out n s grants n.tasks) → Put n s' v i c
        go (inl k) =
            let p = old.put v i c k in
            record { task = p.task; firing = omega (arith, p.firing); fed = λ e fe. let o = p.fed e fe in (o.0, o.1, lift o.2); came = p.came }
        go (inr k) =
            let p = put_of n s grants n.tasks v i c k in
            let more : i < s.fired v + one (ends n s grants v) = omega (arith, p.2, ap one p.1) in
            let l : i < begun s' v = omega arith in
            record {
              task = p.0;
              firing = more;
              fed = λ e fe. let o = fed' v i p.0 l e fe in (o.0, omega (arith, o.1, p.3), o.2);
              came = λ q. omega (arith, came' v i p.0 l q, p.3);
            }

    sure_ticked : Sure n s'
    sure_ticked = record { base = base_ticked n sound s grants old.base; ended = ended'; fed = fed'; came = came'; put = put' }

  module _ {R : Type 0} (steps : R → ℕ → Bool → Bool → R → Type 0) (first : R) (slots : ℕ) where
    sure : {said : List Said} {a : R} {x : Whole} → Run steps n first slots said a x → Sure n x.state
    sure begin = sure_new
    sure (refuses run call w) = sure run
    sure (arrives {x = x} run v w) = sure_arrived x.state v (sure run)
    sure (sets {x = x} run v y w) = let ok = need_ok n slots x v y w in sure_needs x.state v y ok.0 ok.1 (sure run)
    sure (ticks {x = x} run claims grants w sweep) = sure_ticked x.state grants (sure run)
    sure (takes run gone rest h) = sure run

pub not_early : {R : Type 0} (places : R → ℕ) (steps : R → ℕ → Bool → Bool → R → Type 0) → NotEarly places steps
not_early places steps n sound first fits slots said a x run v i c h =
    let u = sure n sound steps first slots run in
    let p = u.put v i c h in
    let e = (heard run).1 in
    record {
      fed = p.fed;
      came = λ q. (omega (arith, u.base.wait_count v p.task q, p.firing, ap (λ (α : Arrivals). α.count v) e), omega (arith, p.came q, ap (λ (α : Arrivals). α.stamp v i) e));
    }

-- A firing that has a record counts as ended.
pub ended_counts :
    {R : Type 0} (steps : R → ℕ → Bool → Bool → R → Type 0) (n : Net) → Sound n → (first : R) (slots : ℕ) {said : List Said} {a : R} {x : Whole} → Run steps n first slots said a x →
    (v i c : ℕ) → Ended x.state v i c → i < x.state.fired v
ended_counts steps n sound first slots run v i c h = ((sure n sound steps first slots run).put v i c h).firing
