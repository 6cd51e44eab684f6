-- What each state of a run keeps, apart from time: the counts of tokens.
use Rattle.std.proofs.Common.{◌≡◌, ℕ, zero, suc, ◌+◌, ◌<◌, ◌≤◌, min, Bool, true, false, cond, eqb, ◌⊎◌, List, [], ◌∷◌, ◌++◌, refl, ap, subst, inl, inr, arith}
use mathlib.Core.List.Memᴰ
use mathlib.Core.List.{Memᴰ}
use Rattle.std.proofs.lemmas.Bool.Decides.{nat_tests}
use Rattle.flow.specs.Nets.{Net, Sound}
use Rattle.runs.specs.States.{State, Finished, one, supplied, starts, left, ends, put_out, new_state, arrived, need_set, ticked}
use Rattle.servers.specs.Rounding.{le_or_lt}
use Rattle.runs.specs.Claims.{Ended}
use Rattle.runs.proofs.Moves.{Supplied, supplied_decides, Move, rests, goes, begins, lacks, move, begun}

pub record Base (g : Net) (s : State) : Type 0 where
  pub need_pos : (v : ℕ) → v < g.tasks → 1 ≤ s.need v
  pub need_fits : (v : ℕ) → v < g.tasks → s.need v ≤ g.time v
  pub to_go_fits : (v : ℕ) → v < g.tasks → s.to_go v ≤ g.time v
  pub held_count : (e : ℕ) → e < g.edges → s.held e + (s.fired (g.to e) + min 1 (s.to_go (g.to e))) ≡ g.tokens e + s.fired (g.from e)
  pub wait_count : (v : ℕ) → v < g.tasks → g.inlet v ≡ true → s.waiting v + (s.fired v + min 1 (s.to_go v)) ≡ s.arrivals.count v
  pub stamped : (v k : ℕ) → v < g.tasks → k < s.arrivals.count v → s.arrivals.stamp v k ≤ s.clock
  pub ordered : (v k : ℕ) → v < g.tasks → suc k < s.arrivals.count v → s.arrivals.stamp v k ≤ s.arrivals.stamp v (suc k)

pub base_start : (g : Net) → Sound g → Base g (new_state g)
base_start g sound = record {
  need_pos = λ v h. sound.time_pos v h;
  need_fits = λ v h. omega arith;
  to_go_fits = λ v h. omega arith;
  held_count = λ e h. omega arith;
  wait_count = λ v h q. omega arith;
  stamped = λ v k i h. omega arith;
  ordered = λ v k i h. omega arith;
}

pub base_needs : (g : Net) (s : State) (v x : ℕ) → 1 ≤ x → x ≤ g.time v → Base g s → Base g (need_set s v x)
base_needs g s v x pos fits b = record {
  need_pos = λ u h. let old : 1 ≤ s.need u = b.need_pos u h in grind (arith, nat_tests);
  need_fits = λ u h. fitted u h (eqb_cases u);
  to_go_fits = b.to_go_fits;
  held_count = b.held_count;
  wait_count = b.wait_count;
  stamped = b.stamped;
  ordered = b.ordered;
}
  where
    eqb_cases : (u : ℕ) → ((u ≡ v) × (cond (eqb u v) x (s.need u) ≡ x)) ⊎ (cond (eqb u v) x (s.need u) ≡ s.need u)
    eqb_cases u = go (eqb u v) refl
      where
        go : (t : Bool) → eqb u v ≡ t → ((u ≡ v) × (cond t x (s.need u) ≡ x)) ⊎ (cond t x (s.need u) ≡ s.need u)
        go true q = inl (grind (arith, nat_tests), refl)
        go false q = inr refl

    fitted : (u : ℕ) → u < g.tasks → ((u ≡ v) × (cond (eqb u v) x (s.need u) ≡ x)) ⊎ (cond (eqb u v) x (s.need u) ≡ s.need u) → cond (eqb u v) x (s.need u) ≤ g.time u
    fitted u h (inl (p, q)) = let t : g.time u ≡ g.time v = ap g.time p in omega arith
    fitted u h (inr q) = omega (arith, b.need_fits u h)

pub base_arrived : (g : Net) (s : State) (v : ℕ) → Base g s → Base g (arrived s v)
base_arrived g s v b = record {
  need_pos = b.need_pos;
  need_fits = b.need_fits;
  to_go_fits = b.to_go_fits;
  held_count = b.held_count;
  wait_count = λ u h q. omega (arith, b.wait_count u h q);
  stamped = λ u k i h. let old : k < s.arrivals.count u → s.arrivals.stamp u k ≤ s.clock = b.stamped u k i in grind (arith, nat_tests);
  ordered = λ u k i h.
      let old : suc k < s.arrivals.count u → s.arrivals.stamp u k ≤ s.arrivals.stamp u (suc k) = b.ordered u k i in
      let old₂ : k < s.arrivals.count u → s.arrivals.stamp u k ≤ s.clock = b.stamped u k i in
      grind (arith, nat_tests);
}

-- the record of a firing that ends is among those put out
abbrev OneOut : Net → State → (ℕ → Bool) → ℕ → List Finished
OneOut g s grants m = cond (ends g s grants m) (record { task = m; firing = s.fired m; clock = s.clock + 1 } ∷ []) []

has_one : (g : Net) (s : State) (grants : ℕ → Bool) (v : ℕ) (b : Bool) → b ≡ true →
    Memᴰ {A = Finished} (record { task = v; firing = s.fired v; clock = s.clock + 1 }) (cond b (record { task = v; firing = s.fired v; clock = s.clock + 1 } ∷ []) [])
has_one g s grants v true q = Memᴰ.head refl
has_one g s grants v false q = absurd cc

pub has_out : (g : Net) (s : State) (grants : ℕ → Bool) (v n : ℕ) → v < n → ends g s grants v ≡ true →
    Memᴰ {A = Finished} (record { task = v; firing = s.fired v; clock = s.clock + 1 }) (put_out g s grants n)
unfolding put_out
has_out g s grants v zero h q = absurd (omega arith)
has_out g s grants v (suc n) h q = go (le_or_lt n v) (λ l. has_out g s grants v n l q)
  where
    go : (n ≤ v) ⊎ (v < n) → (v < n → Memᴰ {A = Finished} (record { task = v; firing = s.fired v; clock = s.clock + 1 }) (put_out g s grants n)) →
        Memᴰ {A = Finished} (record { task = v; firing = s.fired v; clock = s.clock + 1 }) (put_out g s grants n ++ OneOut g s grants n)
    go (inl l) _ =
        let e : v ≡ n = omega arith in
        subst (λ (m : ℕ). Memᴰ {A = Finished} (record { task = v; firing = s.fired v; clock = s.clock + 1 }) (put_out g s grants n ++ OneOut g s grants m)) e
        (Memᴰ.append_right (put_out g s grants n) (has_one g s grants v (ends g s grants v) q))
    go (inr l) before = Memᴰ.append_left (OneOut g s grants n) (before l)

-- A firing that is done with this tick, and was not before it, was put out by it.
pub out_now : (g : Net) (s : State) (grants : ℕ → Bool) (v i : ℕ) → v < g.tasks → s.fired v ≤ i → i < s.fired v + one (ends g s grants v) → Ended (ticked g grants s) v i (s.clock + 1)
out_now g s grants v i h over within =
    let e : ends g s grants v ≡ true = ends_now (ends g s grants v) within in
    let q : s.fired v ≡ i = omega (arith, ap one e) in
    Memᴰ.append_right s.records (subst (λ (m : ℕ). Memᴰ {A = Finished} (record { task = v; firing = m; clock = s.clock + 1 }) (put_out g s grants g.tasks)) q (has_out g s grants v g.tasks h e))
  where
    ends_now : (b : Bool) → i < s.fired v + one b → b ≡ true
    ends_now true _ = refl
    ends_now false l = absurd (omega arith)

-- the counts over a tick
module _ (g : Net) (sound : Sound g) (s : State) (grants : ℕ → Bool) (b : Base g s) where
  moved : (v : ℕ) → v < g.tasks → Move (grants v) (supplied g s v) (s.to_go v) (s.need v) (left g s grants v) (one (starts g s grants v)) (one (ends g s grants v))
  moved v h = move g s grants v (b.need_pos v h)

  left_fits : (v : ℕ) → v < g.tasks → left g s grants v ≤ g.time v
  left_fits v h = go (moved v h)
    where
      go : {x y : ℕ} → Move (grants v) (supplied g s v) (s.to_go v) (s.need v) (left g s grants v) x y → left g s grants v ≤ g.time v
      go (rests p q _ _) = omega (arith, b.to_go_fits v h)
      go (goes p q r _ _) = omega (arith, b.to_go_fits v h)
      go (begins p q _ r _ _) = omega (arith, b.need_fits v h)
      go (lacks p q _ r _ _) = omega arith

  -- a task that starts had what it takes
  pub had : (v : ℕ) → v < g.tasks → (one (starts g s grants v) ≡ 0) ⊎ ((one (starts g s grants v) ≡ 1) × Supplied g s v)
  had v h = go (moved v h)
    where
      go : {x y z : ℕ} → Move (grants v) (supplied g s v) (s.to_go v) (s.need v) x y z → (y ≡ 0) ⊎ ((y ≡ 1) × Supplied g s v)
      go (rests p q r _) = inl r
      go (goes p q r t _) = inl t
      go (begins p q u r t _) = inr (t, (supplied_decides g s v).0 u)
      go (lacks p q _ r t _) = inl t

  pub begun_at : (v : ℕ) → v < g.tasks → s.fired v + one (ends g s grants v) + min 1 (left g s grants v) ≡ s.fired v + min 1 (s.to_go v) + one (starts g s grants v)
  begun_at v h = begun _ _ _ _ _ _ _ (s.fired v) (moved v h)

  held_after : (e : ℕ) → e < g.edges → (ticked g grants s).held e + ((ticked g grants s).fired (g.to e) + min 1 ((ticked g grants s).to_go (g.to e))) ≡ g.tokens e + (ticked g grants s).fired (g.from e)
  held_after e h = go (had (g.to e) (sound.to_task e h))
    where
      go : (one (starts g s grants (g.to e)) ≡ 0) ⊎ ((one (starts g s grants (g.to e)) ≡ 1) × Supplied g s (g.to e)) →
          (ticked g grants s).held e + ((ticked g grants s).fired (g.to e) + min 1 ((ticked g grants s).to_go (g.to e))) ≡ g.tokens e + (ticked g grants s).fired (g.from e)
      go (inl q) = omega (arith, b.held_count e h, begun_at (g.to e) (sound.to_task e h))
      go (inr (q, u)) = omega (arith, b.held_count e h, begun_at (g.to e) (sound.to_task e h), u.edges e h refl)

  wait_after : (v : ℕ) → v < g.tasks → g.inlet v ≡ true → (ticked g grants s).waiting v + ((ticked g grants s).fired v + min 1 ((ticked g grants s).to_go v)) ≡ s.arrivals.count v
  wait_after v h i = go (had v h)
    where
      go : (one (starts g s grants v) ≡ 0) ⊎ ((one (starts g s grants v) ≡ 1) × Supplied g s v) →
          (ticked g grants s).waiting v + ((ticked g grants s).fired v + min 1 ((ticked g grants s).to_go v)) ≡ s.arrivals.count v
      go (inl q) = omega (arith, b.wait_count v h i, begun_at v h)
      go (inr (q, u)) = omega (arith, b.wait_count v h i, begun_at v h, u.inlet i)

  pub base_ticked : Base g (ticked g grants s)
  base_ticked = record {
    need_pos = b.need_pos;
    need_fits = b.need_fits;
    to_go_fits = left_fits;
    held_count = held_after;
    wait_count = wait_after;
    stamped = λ v k i h. omega (arith, b.stamped v k i h);
    ordered = b.ordered;
  }
