-- What a ledger keeps stays right with one arrival more.
use Rattle.std.proofs.Common.{◌≡◌, ◌≢◌, ℕ, ◌+◌, ◌*◌, ◌<◌, ◌≤◌, true, ◌⊎◌, inl, inr, List, length, set, get_or, sym, ap, ◌∙◌, subst, arith, get_or-set_same, get_or-set_other}
use Rattle.std.proofs.lemmas.Bool.Decides.{nat_tests}
use native.Mathlib.Decide.{ℕ_discrete}
use Rattle.flow.specs.Nets.{Net, Arrivals}
use Rattle.flow.specs.Finish.{Cost, Feeds, ReadyLargest, Finish, finish}
use Rattle.runs.specs.States.{one_more}
use Rattle.finish.proofs.Counts.{count_set}
use Rattle.finish.specs.Filling.{entry, capped, Partly}
use Rattle.finish.specs.Ledgers.{first, Knows}
use Rattle.finish.specs.declared.ledger.Ledger.{Ledger}

-- The second has the arrivals of the first, and maybe more.
record Extends (α α' : Arrivals) : Type 0 where
  pub has : (v k : ℕ) → k < α.count v → k < α'.count v
  pub same : (v k : ℕ) → k < α.count v → α'.stamp v k ≡ α.stamp v k

-- a bound is the same with more arrivals: it took none but those that it needs
module _ (g : Net) (cost : Cost) (α α' : Arrivals) (x : Extends α α') where
  ready_extended : (v k a : ℕ) (f : ℕ → ℕ) → ReadyLargest g α v k a f → ReadyLargest g α' v k a f
  ready_extended v k a f r = record { arrived = λ q. let s = r.arrived q in (x.has v k s.0, omega (arith, x.same v k s.0, s.1)); fed = r.fed; met = go r.met }
    where
      go : (a ≡ 0) ⊎ ((g.inlet v ≡ true) × (a ≡ α.stamp v k)) ⊎ ((e : ℕ) × Feeds g v k e × (a ≡ f e)) → (a ≡ 0) ⊎ ((g.inlet v ≡ true) × (a ≡ α'.stamp v k)) ⊎ ((e : ℕ) × Feeds g v k e × (a ≡ f e))
      go (inl p) = inl p
      go (inr (inl (p, q))) = inr (inl (p, q ∙ sym (x.same v k (r.arrived p).0)))
      go (inr (inr p)) = inr (inr p)

  finish_extended : {v i t : ℕ} → Finish g α cost v i t → Finish g α' cost v i t
  finish_extended {v} (finish a f ds rs m) = finish a f (λ k h e y. finish_extended (ds k h e y)) (λ k h. ready_extended v k (a k) (f k) (rs k h)) m

  partly_extended : (n : ℕ) (done : ℕ → ℕ) (ready table : List ℕ) → Partly g α cost n done ready table → Partly g α' cost n done ready table
  partly_extended n done ready table p = record {
    room = p.room;
    readies = λ u j um jm.
        let r = p.readies u j um jm in
        record { a = r.a; is = record { f = r.is.f; feeds = λ e h. finish_extended (r.is.feeds e h); largest = ready_extended u j r.a r.is.f r.is.largest }; told = r.told };
    bounds = λ u j um jm. let b = p.bounds u j um jm in record { t = b.t; is = finish_extended b.is; told = b.told };
  }

module _ (α : Arrivals) (clock task : ℕ) where
  extends : Extends α (one_more α clock task)
  extends = record { has = λ v k h. omega arith; same = λ v k h. grind (arith, nat_tests) }

  pub bounds_with_one_more : (g : Net) (cost : Cost) (n : ℕ) (done : ℕ → ℕ) (ready table : List ℕ) → Partly g α cost n done ready table → Partly g (one_more α clock task) cost n done ready table
  bounds_with_one_more g cost = partly_extended g cost α (one_more α clock task) extends

-- one arrival more at the task, which is number i there
module _ (α : Arrivals) (clock task i : ℕ) where
  -- it is kept
  pub arrival_kept : (u : ℕ) (xs : List ℕ) (x : ℕ) → task * 256 + i < length xs → x ≡ capped clock → i < 256 → (u ≡ task → i ≡ first (α.count u)) →
      ((k : ℕ) → k < first (α.count u) → entry xs 256 u k ≡ capped (α.stamp u k)) →
      (k : ℕ) → k < first ((one_more α clock task).count u) → entry (set xs (task * 256 + i) x) 256 u k ≡ capped ((one_more α clock task).stamp u k)
  arrival_kept u xs x inside q im here old k h = go (ℕ_discrete (u * 256 + k) (task * 256 + i))
    where
      go : Dec (u * 256 + k ≡ task * 256 + i) → entry (set xs (task * 256 + i) x) 256 u k ≡ capped ((one_more α clock task).stamp u k)
      go (yes e) =
          let km : k < 256 = omega arith in
          let t : u ≡ task = omega arith in
          let c : k ≡ α.count u = omega (arith, here t) in
          let s : (one_more α clock task).stamp u k ≡ clock = grind (arith, nat_tests) in
          subst (λ (z : ℕ). get_or (set xs (task * 256 + i) x) z 0 ≡ capped ((one_more α clock task).stamp u k)) (sym e) (omega (arith, get_or-set_same xs (task * 256 + i) x 0 inside, s))
      go (no ne) =
          let ne' : u * 256 + k ≢ task * 256 + i = ne in
          let b : k < first (α.count u) = below (ℕ_discrete u task) in
          let s : (one_more α clock task).stamp u k ≡ α.stamp u k = grind (arith, nat_tests) in
          omega (arith, get_or-set_other xs (task * 256 + i) (u * 256 + k) x 0 ne', old k b, s)
        where
          below : Dec (u ≡ task) → k < first (α.count u)
          below (no n) = let c : (one_more α clock task).count u ≡ α.count u = grind (arith, nat_tests) in omega arith
          below (yes y) =
              let c : (one_more α clock task).count u ≡ α.count u + 1 = grind (arith, nat_tests) in
              let i' : i ≡ first (α.count u) = here y in
              let y' : u * 256 ≡ task * 256 = ap (λ (m : ℕ). m * 256) y in
              let k' : k ≢ i = λ z. ne (omega (arith, ap (λ (m : ℕ). u * 256 + m) z)) in
              omega arith

-- what the ledger knows after it, whether it kept the arrival or had 256 of them
module _ (n : Net) (cost : Cost) (α : Arrivals) (fired : ℕ → ℕ) (l : Ledger) (clock task : ℕ) (h : Knows n cost α fired l) where
  pub counted_more : task < length l.arrived → get_or l.arrived task 0 < 256 → (v : ℕ) → v < n.tasks → get_or (set l.arrived task (get_or l.arrived task 0 + 1)) v 0 ≡ first ((one_more α clock task).count v)
  counted_more inside im = count_set n.tasks α.count (one_more α clock task).count task (grind (arith, nat_tests)) (λ u ne. let ne' : u ≢ task = ne in grind (arith, nat_tests)) l.arrived inside im h.arrived

  pub arrivals_more : (x : ℕ) → task * 256 + get_or l.arrived task 0 < length l.arrivals → x ≡ capped clock → get_or l.arrived task 0 < 256 →
      (v k : ℕ) → v < n.tasks → k < first ((one_more α clock task).count v) → entry (set l.arrivals (task * 256 + get_or l.arrived task 0) x) 256 v k ≡ capped ((one_more α clock task).stamp v k)
  arrivals_more x inside q im v k vm =
      arrival_kept α clock task (get_or l.arrived task 0) v l.arrivals x inside q im (λ e. omega (arith, ap (λ (u : ℕ). get_or l.arrived u 0) e, h.arrived v vm)) (λ j. h.arrivals v j vm) k

  pub knows_full : ((v : ℕ) → v < n.tasks → v ≡ task → 256 ≤ α.count v) → Knows n cost (one_more α clock task) fired l
  knows_full full = record { few = h.few; waits = h.waits; arrivals = arrivals; arrived = arrived; ended = h.ended; bounds = bounds_with_one_more α clock task n cost 256 (λ v. first (fired v)) l.ready l.bounds h.bounds }
    where
      same : (v : ℕ) → v < n.tasks → first ((one_more α clock task).count v) ≡ first (α.count v)
      same v vm = go (ℕ_discrete v task)
        where
          go : Dec (v ≡ task) → first ((one_more α clock task).count v) ≡ first (α.count v)
          go (yes e) = omega (arith, full v vm e)
          go (no ne) = let c : (one_more α clock task).count v ≡ α.count v = grind (arith, nat_tests) in omega arith

      arrivals : (v k : ℕ) → v < n.tasks → k < first ((one_more α clock task).count v) → entry l.arrivals 256 v k ≡ capped ((one_more α clock task).stamp v k)
      arrivals v k vm km =
          let b : k < first (α.count v) = omega (arith, same v vm) in
          let s : (one_more α clock task).stamp v k ≡ α.stamp v k = (extends α clock task).same v k (omega arith) in
          omega (arith, h.arrivals v k vm b, s)

      arrived : (v : ℕ) → v < n.tasks → get_or l.arrived v 0 ≡ first ((one_more α clock task).count v)
      arrived v vm = omega (arith, same v vm, h.arrived v vm)
