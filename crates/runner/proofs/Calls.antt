-- What arrivals and needs make of the runs that led to a runner.
use Rattle.std.proofs.Common.{◌≡◌, ℕ, ◌+◌, ◌<◌, ◌≤◌, Bool, true, false, cond, ltb, leb, ◌&&◌, ◌⊎◌, List, ◌∷◌, length, get_or, vec_len, Some, None, Ok, Err, sym, refl, ap, ◌∙◌, subst, inl, inr, le-ltb, lt-ltb, eqb}
use Rattle.std.proofs.lemmas.List.{get_or_read}
use Rattle.faults.specs.Faults.{fault}
use Rattle.faults.specs.Numbers.{number_of, reason_by}
use Rattle.faults.specs.declared.fault.Fault.{Fault}
use Rattle.faults.specs.declared.layer.Layer.TheVariants as layer
use Rattle.graph.specs.declared.parts.Task.{Task}
use Rattle.graph.specs.Legal.{no_task as a_task, task_at}
use Rattle.flow.specs.Nets.{Net, net_of}
use Rattle.runs.specs.States.{State, one, arrived, need_set}
use Rattle.runs.specs.Runs.{Call, Said, arrive, need, refused, Whole, why, Run, refuses, arrives, sets}
use Rattle.runner.specs.Boards.{shown, Same, Alike}
use Rattle.runner.specs.Runners.{Led, Goes, shown_whole}
use Rattle.runner.specs.declared.runner.Runner.{Runner}

-- the reason against an arrival
module _ (n : Net) (slots : ℕ) (x : Whole) (v : ℕ) where
  pub no_inlet : (n.tasks ≤ v) ⊎ (n.inlet v ≡ false) → why n slots x (arrive v) ≡ Some 13
  no_inlet (inl h) = rw (le-ltb v n.tasks h) refl
  no_inlet (inr h) = ap (λ b. cond b (cond (ltb (x.state.waiting v) 65535) None (Some 15)) (Some 13)) (go (ltb v n.tasks) (n.inlet v) h)
    where
      go : (b c : Bool) → c ≡ false → (b && c) ≡ false
      go true c q = q
      go false c q = refl

  module _ (there : v < n.tasks) (inlet : n.inlet v ≡ true) where
    pub crowded : 65535 ≤ x.state.waiting v → why n slots x (arrive v) ≡ Some 15
    crowded h = rw (lt-ltb v n.tasks there, inlet, le-ltb (x.state.waiting v) 65535 h) refl

    pub welcome : x.state.waiting v < 65535 → why n slots x (arrive v) ≡ None
    welcome h = rw (lt-ltb v n.tasks there, inlet, lt-ltb (x.state.waiting v) 65535 h) refl

pub alike_arrived : (n : Net) (s t : State) (v : ℕ) → Alike n s t → Alike n (arrived s v) (arrived t v)
alike_arrived n s t v h = record {
  clock = h.clock;
  held = h.held;
  waiting = λ u k. ap (λ (m : ℕ). m + one (eqb u v)) (h.waiting u k);
  to_go = h.to_go;
  fired = h.fired;
  need = h.need;
}

pub alike_need : (n : Net) (s t : State) (v y : ℕ) → Alike n s t → Alike n (need_set s v y) (need_set t v y)
alike_need n s t v y h = record {
  clock = h.clock;
  held = h.held;
  waiting = h.waiting;
  to_go = h.to_go;
  fired = h.fired;
  need = λ u k. ap (λ (m : ℕ). cond (eqb u v) y m) (h.need u k);
}

pub alike_by : (n : Net) (s t u : State) → Alike n s t → Alike n t u → Alike n s u
alike_by n s t u h k = record {
  clock = h.clock ∙ k.clock;
  held = λ e q. h.held e q ∙ k.held e q;
  waiting = λ v q. h.waiting v q ∙ k.waiting v q;
  to_go = λ v q. h.to_go v q ∙ k.to_go v q;
  fired = λ v q. h.fired v q ∙ k.fired v q;
  need = λ v q. h.need v q ∙ k.need v q;
}

pub same_alike : (n : Net) (s t : State) → Same s t → Alike n s t
same_alike n s t h = record {
  clock = h.clock;
  held = λ e q. h.held e;
  waiting = λ v q. h.waiting v;
  to_go = λ v q. h.to_go v;
  fired = λ v q. h.fired v;
  need = λ v q. h.need v;
}

module _ {R : Type 0} (places : R → ℕ) (steps : R → ℕ → Bool → Bool → R → Type 0) (a : Runner R) where
  -- A refused call stays in the runs, and leads nowhere else.
  pub refused_goes :
      (call : Call) (k : ℕ) (e : Fault) → number_of (reason_by k) ≡ k → e ≡ fault k layer.Runner 0 0 →
      ((slots : ℕ) (x : Whole) → Alike (net_of a.graph) (shown a.board) x.state → why (net_of a.graph) slots x call ≡ Some k) →
      Goes places steps a call (Err e) a
  refused_goes call k e number is reason first slots said x led = record {
    whole = x;
    led = record {
      fits = led.fits;
      run = subst (λ (m : ℕ). Run steps (net_of a.graph) first slots (refused call m ∷ said) a.rack x) (sym (ap (λ (f : Fault). number_of f.reason) is ∙ number)) (refuses led.run call (reason slots x led.stands));
      stands = led.stands;
    };
    its_belt = refl;
  }

  module _ (b : Runner R) (graph : b.graph ≡ a.graph) (rack : b.rack ≡ a.rack) where
    -- a run that goes on to runner b
    goes_to :
        (first : R) (slots : ℕ) (said : List Said) (x : Whole) → vec_len a.graph.tasks ≤ places first → Run steps (net_of a.graph) first slots said a.rack x → Alike (net_of a.graph) (shown b.board) x.state →
        Led places steps first slots said b x
    goes_to first slots said x fits run stands = record { fits = rw graph fits; run = rw (graph, rack) run; stands = rw graph stands }

    pub arrive_goes :
        (v : ℕ) → v < vec_len a.graph.tasks → (net_of a.graph).inlet v ≡ true → (shown a.board).waiting v < 65535 →
        Alike (net_of a.graph) (shown b.board) (arrived (shown a.board) v) → Goes places steps a (arrive v) (Ok tt) b
    arrive_goes v there inlet room stands first slots said x led = record {
      whole = record { state = arrived x.state v; belt = x.belt };
      led = goes_to first slots _ _ led.fits (arrives led.run v (welcome (net_of a.graph) slots x v there inlet (subst (λ (m : ℕ). m < 65535) (led.stands.waiting v there) room)))
          (alike_by (net_of a.graph) (shown b.board) (arrived (shown a.board) v) (arrived x.state v) stands (alike_arrived (net_of a.graph) (shown a.board) x.state v led.stands));
      its_belt = refl;
    }

    pub need_goes :
        (v y : ℕ) → why (net_of a.graph) 0 (shown_whole a) (need v y) ≡ None →
        Alike (net_of a.graph) (shown b.board) (need_set (shown a.board) v y) → Goes places steps a (need v y) (Ok tt) b
    need_goes v y reason stands first slots said x led = record {
      whole = record { state = need_set x.state v y; belt = x.belt };
      led = goes_to first slots _ _ led.fits (sets led.run v y reason)
          (alike_by (net_of a.graph) (shown b.board) (need_set (shown a.board) v y) (need_set x.state v y) stands (alike_need (net_of a.graph) (shown a.board) x.state v y led.stands));
      its_belt = refl;
    }

-- the reason against a need
module _ (n : Net) (slots : ℕ) (x : Whole) (v y : ℕ) where
  pub no_task : n.tasks ≤ v → why n slots x (need v y) ≡ Some 13
  no_task h = rw (le-ltb v n.tasks h) refl

  module _ (there : v < n.tasks) where
    pub no_need : (leb 1 y && leb y (n.time v)) ≡ false → why n slots x (need v y) ≡ Some 14
    no_need h = rw (lt-ltb v n.tasks there, h) refl

    pub some_need : (leb 1 y && leb y (n.time v)) ≡ true → why n slots x (need v y) ≡ None
    some_need h = rw (lt-ltb v n.tasks there, h) refl

-- A read task's time is that of the net.
pub same_time : (y : ℕ) (ts : List Task) (v : ℕ) (t : Task) → v < length ts → t ≡ get_or ts v t → (leb 1 y && leb y (task_at ts v).time) ≡ (leb 1 y && leb y t.time)
same_time y ts v t there read = sym (ap (λ (u : Task). leb 1 y && leb y u.time) (get_or_read ts v t there read a_task))
