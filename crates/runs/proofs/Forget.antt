-- A run over a rack, with the rack forgotten but for its waits.
use Rattle.std.proofs.Common.{◌≡◌, ℕ, suc, ◌+◌, ◌<◌, ◌≤◌, Bool, true, false, cond, ◌&&◌, ltb, leb, ◌⊎◌, List, get_or, sym, refl, ap, ◌∙◌, subst, inl, inr, Option, Some, None, arith, ltb-true, leb-true}
use Rattle.servers.specs.Service.{Service, Laws, Sooner, Ticks}
use Rattle.flow.specs.Nets.{Net, Arrivals}
use Rattle.flow.specs.Finish.{Finish, by_worst}
use Rattle.runs.specs.States.{one_more}
use Rattle.runs.proofs.Bare.{Waits, Ticked}
use Rattle.runs.proofs.Bare as bare
use Rattle.servers.specs.Rounding.{le_or_lt}
use Rattle.runs.proofs.Kept as kept
use Rattle.runs.specs.Runs.{arrive, need, Said, clock_of, arrivals_of, Whole, why, Sweep, none, more, Run, begin, refuses, arrives, sets, ticks, takes}
use Rattle.runs.specs.Claims.{OnTime, SameFigures, Steady}

-- the worst waits of a rack's places
abbrev pub worsts : {R : Type 0} → (R → ℕ → Service) → R → ℕ → ℕ → ℕ
worsts service a v m = (service a v).worst m

-- the laws of a rack
pub record Shows {R : Type 0} (places : R → ℕ) (service : R → ℕ → Service) (steps : R → ℕ → Bool → Bool → R → Type 0) : Type 0 where
  pub keeps : (s : R) (k : ℕ) → k < places s → Laws (service s k)
  pub moves : (a b : R) (k : ℕ) (c g : Bool) → steps a k c g b → Ticks (service a k) g (service b k)
  pub others : (a b : R) (k : ℕ) (c g : Bool) → steps a k c g b → (j : ℕ) → j < places a → (j ≡ k → ⊥) → service b j ≡ service a j
  pub stays : (a b : R) (k : ℕ) (c g : Bool) → steps a k c g b → places b ≡ places a

-- the clock and the arrivals are what was said
pub heard : {R : Type 0} {steps : R → ℕ → Bool → Bool → R → Type 0} {g : Net} {first : R} {slots : ℕ} {said : List Said} {a : R} {x : Whole} → Run steps g first slots said a x → (x.state.clock ≡ clock_of said) × (x.state.arrivals ≡ arrivals_of said)
heard begin = (refl, refl)
heard (refuses run call w) = heard run
heard (arrives {said = said} {x = x} run v w) =
    let h = heard run in
    (h.0, ap (λ (α : Arrivals). one_more α x.state.clock v) h.1 ∙ ap (λ (c : ℕ). one_more (arrivals_of said) c v) h.0)
heard (sets run v n w) = heard run
heard (ticks run claims grants w sweep) = let h = heard run in (ap (λ (c : ℕ). c + 1) h.0, h.1)
heard (takes run gone rest h) = heard run

-- what is known of a call that is not refused
pub arrive_ok : (g : Net) (slots : ℕ) (x : Whole) (v : ℕ) → why g slots x (arrive v) ≡ None → (v < g.tasks) × (g.inlet v ≡ true)
arrive_ok g slots x v w = let b = go (ltb v g.tasks) (g.inlet v) w in (ltb-true _ _ b.0, b.1)
  where
    go : (b c : Bool) → ◌≡◌ {A = Option ℕ} (cond (b && c) (cond (ltb (x.state.waiting v) 65535) None (Some 15)) (Some 13)) None → (b ≡ true) × (c ≡ true)
    go true true w = (refl, refl)
    go true false w = absurd cc
    go false c w = absurd cc

pub need_ok : (g : Net) (slots : ℕ) (x : Whole) (v y : ℕ) → why g slots x (need v y) ≡ None → (1 ≤ y) × (y ≤ g.time v)
need_ok g slots x v y w = let b = go (ltb v g.tasks) (leb 1 y) (leb y (g.time v)) w in (leb-true _ _ b.0, leb-true _ _ b.1)
  where
    go : (b c d : Bool) → ◌≡◌ {A = Option ℕ} (cond b (cond (c && d) None (Some 14)) (Some 13)) None → (c ≡ true) × (d ≡ true)
    go true true true w = (refl, refl)
    go true true false w = absurd cc
    go true false d w = absurd cc
    go false c d w = absurd cc

module _ {R : Type 0} (places : R → ℕ) (service : R → ℕ → Service) (steps : R → ℕ → Bool → Bool → R → Type 0) (shows : Shows places service steps) where
  -- A sweep ticks each of its places, and no other.
  pub record Swept (grants : ℕ → Bool) (a : R) (n : ℕ) (b : R) : Type 0 where
    pub stays : places b ≡ places a
    pub ticked : (v : ℕ) → v < n → v < places a → Ticks (service a v) (grants v) (service b v)
    pub rests : (v : ℕ) → n ≤ v → v < places a → service b v ≡ service a v

  pub swept : (claims : List Bool) (grants : ℕ → Bool) (a : R) {n : ℕ} {b : R} → Sweep steps claims grants a n b → Swept grants a n b
  swept claims grants a none = record { stays = refl; ticked = λ v h. absurd (omega arith); rests = λ v h i. refl }
  swept claims grants a (more {m = n} {b = b} {c = c} sweep step) = step_on (swept claims grants a sweep)
    where
      step_on : Swept grants a n b → Swept grants a (suc n) c
      step_on old = record {
        stays = shows.stays b c n (get_or claims n false) (grants n) step ∙ old.stays;
        ticked = λ v h i. by v i (le_or_lt n v) h;
        rests = λ v h i. shows.others b c n (get_or claims n false) (grants n) step v (omega (arith, old.stays)) (λ e. omega arith) ∙ old.rests v (omega arith) i;
      }
        where
          by : (v : ℕ) → v < places a → (n ≤ v) ⊎ (v < n) → v < suc n → Ticks (service a v) (grants v) (service c v)
          by v i (inl l) h =
              let e : n ≡ v = omega arith in
              let t : Ticks (service b n) (grants n) (service c n) = shows.moves b c n (get_or claims n false) (grants n) step in
              let u : Ticks (service b v) (grants v) (service c v) = subst (λ (m : ℕ). Ticks (service b m) (grants m) (service c m)) e t in
              subst (λ (p : Service). Ticks p (grants v) (service c v)) (old.rests v l i) u
          by v i (inr l) h =
              subst (λ (p : Service). Ticks (service a v) (grants v) p) (sym (shows.others b c n (get_or claims n false) (grants n) step v (omega (arith, old.stays)) (λ e. omega arith))) (old.ticked v l i)

  abbrev pub waits_of : R → ℕ → ℕ → ℕ
  waits_of a v n = (service a v).wait n

  waits : (a : R) (v : ℕ) (z : ℕ → ℕ) → v < places a → ((n : ℕ) → (service a v).worst n ≡ z n) → Waits z (waits_of a v)
  waits a v z h same =
      let l = shows.keeps a v h in
      record {
        none = l.wait_none;
        above = l.wait_least;
        rises = l.wait_rises;
        within = λ n. omega (arith, l.wait_most n, same n);
        worst_none = omega (arith, l.worst_none, same 0);
        worst_rises = λ m n k. omega (arith, l.worst_rises m n k, same m, same n);
      }

  sooner : (p q : Service) (g : Bool) → Sooner g p.wait q.wait → Ticked g p.wait q.wait
  sooner p q true s = record { given = λ e n. let i : n + 1 ≡ suc n = omega arith in omega (arith, s n, ap p.wait i); kept = λ e. absurd cc }
  sooner p q false s = record { given = λ e. absurd cc; kept = λ e n h. omega (arith, s n h) }

  module _ (g : Net) (first : R) (slots : ℕ) (fits : g.tasks ≤ places first) where
    pub run_stays : {said : List Said} {a : R} {x : Whole} → Run steps g first slots said a x → places a ≡ places first
    run_stays begin = refl
    run_stays (refuses run call w) = run_stays run
    run_stays (arrives run v w) = run_stays run
    run_stays (sets run v n w) = run_stays run
    run_stays (ticks {a = a} run claims grants w sweep) = (swept claims grants a sweep).stays ∙ run_stays run
    run_stays (takes run gone rest h) = run_stays run

    pub forget : {said : List Said} {a : R} {x : Whole} → Run steps g first slots said a x → (Z : ℕ → ℕ → ℕ) → ((v n : ℕ) → v < g.tasks → (service a v).worst n ≡ Z v n) → bare.Bare g Z (waits_of a) x.state
    forget begin Z same = bare.begin (record { waits = λ v h. waits first v (Z v) (omega arith) (λ n. same v n h) })
    forget (refuses run call w) Z same = forget run Z same
    forget (arrives {x = x} run v w) Z same = let ok = arrive_ok g slots x v w in bare.arrives (forget run Z same) v ok.0 ok.1
    forget (sets {x = x} run v y w) Z same = let ok = need_ok g slots x v y w in bare.sets (forget run Z same) v y ok.0 ok.1
    forget (ticks {a = a} {b = b} {x = x} run claims grants w sweep) Z same =
        let sw = swept claims grants a sweep in
        let few : g.tasks ≤ places a = omega (arith, run_stays run) in
        let before : (v n : ℕ) → v < g.tasks → (service a v).worst n ≡ Z v n = λ v n h. sym ((sw.ticked v h (omega arith)).same_worst n) ∙ same v n h in
        bare.ticks (forget run Z before) grants (record { ticks = λ v h. ticked_at sw v h few; waits = λ v h. waits b v (Z v) (omega (arith, sw.stays)) (λ n. same v n h) })
      where
        ticked_at : Swept grants a g.tasks b → (v : ℕ) → v < g.tasks → g.tasks ≤ places a → Ticked (grants v) (waits_of a v) (waits_of b v)
        ticked_at sw v h few = sooner (service a v) (service b v) (grants v) (sw.ticked v h (omega arith)).sooner
    forget (takes run gone rest h) Z same = forget run Z same

  pub steady : Steady places service steps
  steady g first fits slots said a x run v h = go run
    where
      go : {said : List Said} {a : R} {x : Whole} → Run steps g first slots said a x → SameFigures (service first v) (service a v)
      go begin = record { worst = λ m. refl; lead = refl; pace = λ m. refl }
      go (refuses run call w) = go run
      go (arrives run u w) = go run
      go (sets run u y w) = go run
      go (ticks {a = a} run claims grants w sweep) =
          let old = go run in
          let t = (swept claims grants a sweep).ticked v h (omega (arith, run_stays g first slots fits run)) in
          record { worst = λ m. t.same_worst m ∙ old.worst m; lead = t.same_lead ∙ old.lead; pace = λ m. t.same_pace m ∙ old.pace m }
      go (takes run gone rest e) = go run

  pub on_time : OnTime places service steps
  on_time g sound first fits slots said a x run v i t h d le =
      let b = forget g first slots fits run (worsts service a) (λ v n h. refl) in
      let e = heard run in
      let o = kept.on_time g sound (worsts service a) b v i t h (subst (λ (α : Arrivals). Finish g α (by_worst g (service a)) v i t) (sym e.1) d) (omega (arith, e.0)) in
      (o.0, o.1.0, o.1.1, o.1.2)
