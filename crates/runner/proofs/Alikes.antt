-- States that are alike tick alike.
use Rattle.std.proofs.Common.{◌≡◌, ℕ, zero, suc, ◌+◌, ◌-◌, ◌<◌, ◌≤◌, Bool, true, false, cond, eqb, List, [], ◌∷◌, ◌++◌, sym, refl, ◌∙◌, ap, ap₂, arith}
use Rattle.std.proofs.lemmas.Bool.Decides.{same_from_decides}
use Rattle.flow.specs.Nets.{Net}
use Rattle.runs.specs.States.{State, Finished, one, supplied, starts, ends, left, put_out, ticked}
use Rattle.runs.proofs.Moves.{supplied_decides}
use Rattle.runner.specs.Boards.{Alike}
use Rattle.runner.specs.Records.{ended}

-- Two nets with the same tasks and edges, within their number.
pub record SameNet (n m : Net) : Type 0 where
  pub tasks : m.tasks ≡ n.tasks
  pub edges : m.edges ≡ n.edges
  pub time : (v : ℕ) → v < n.tasks → m.time v ≡ n.time v
  pub inlet : (v : ℕ) → v < n.tasks → m.inlet v ≡ n.inlet v
  pub from : (e : ℕ) → e < n.edges → m.from e ≡ n.from e
  pub to : (e : ℕ) → e < n.edges → m.to e ≡ n.to e
  pub tokens : (e : ℕ) → e < n.edges → m.tokens e ≡ n.tokens e

pub one_net : (n : Net) → SameNet n n
one_net n = record { tasks = refl; edges = refl; time = λ v h. refl; inlet = λ v h. refl; from = λ e h. refl; to = λ e h. refl; tokens = λ e h. refl }

module _ (n m : Net) (nets : SameNet n m) (s t : State) (like : Alike n s t) (grants : ℕ → Bool) where
  same_supplied : (v : ℕ) → v < n.tasks → supplied n s v ≡ supplied m t v
  same_supplied v h =
      same_from_decides (supplied n s v) (supplied m t v) (
        λ q.
            let u = (supplied_decides n s v).0 q in
            record {
              inlet = λ i. omega (arith, u.inlet (sym (nets.inlet v h) ∙ i), like.waiting v h);
              edges = λ e k w. let j : e < n.edges = omega (arith, k, nets.edges) in omega (arith, u.edges e j (sym (nets.to e j) ∙ w), like.held e j);
            },
        λ u.
            (supplied_decides n s v).1
            (record {
              inlet = λ i. omega (arith, u.inlet (nets.inlet v h ∙ i), like.waiting v h);
              edges = λ e k w. omega (arith, u.edges e (omega (arith, k, nets.edges)) (nets.to e k ∙ w), like.held e k);
            }),
      )
      (supplied_decides m t v)

  same_starts : (v : ℕ) → v < n.tasks → starts n s grants v ≡ starts m t grants v
  same_starts v h = ap₂ (λ (k : ℕ) (p : Bool). cond (grants v) (cond (eqb k 0) p false) false) (like.to_go v h) (same_supplied v h)

  pub same_ends : (v : ℕ) → v < n.tasks → ends n s grants v ≡ ends m t grants v
  same_ends v h =
      ap₂ (λ (k : ℕ) (p : Bool). cond (grants v) (cond (eqb k 0) (cond p (eqb (s.need v) 1) false) (eqb k 1)) false) (like.to_go v h) (same_supplied v h)
      ∙ ap (λ (k : ℕ). cond (grants v) (cond (eqb (t.to_go v) 0) (cond (supplied m t v) (eqb k 1) false) (eqb (t.to_go v) 1)) false) (like.need v h)

  same_left : (v : ℕ) → v < n.tasks → left n s grants v ≡ left m t grants v
  same_left v h =
      ap₂ (λ (k : ℕ) (p : Bool). cond (grants v) (cond (eqb k 0) (cond p (s.need v - 1) 0) (k - 1)) k) (like.to_go v h) (same_supplied v h)
      ∙ ap (λ (k : ℕ). cond (grants v) (cond (eqb (t.to_go v) 0) (cond (supplied m t v) (k - 1) 0) (t.to_go v - 1)) (t.to_go v)) (like.need v h)

  pub alike_ticked : ((e : ℕ) → e < n.edges → n.to e < n.tasks) → ((e : ℕ) → e < n.edges → n.from e < n.tasks) → Alike n (ticked n grants s) (ticked m grants t)
  alike_ticked to from = record {
    clock = ap (λ (k : ℕ). k + 1) like.clock;
    held = λ e h. omega (arith, like.held e h, ap one (same_starts (n.to e) (to e h)), ap one (same_ends (n.from e) (from e h)), ap (λ (v : ℕ). one (starts m t grants v)) (nets.to e h), ap (λ (v : ℕ). one (ends m t grants v)) (nets.from e h));
    waiting = λ v h. omega (arith, like.waiting v h, ap one (same_starts v h));
    to_go = λ v h. same_left v h;
    fired = λ v h. omega (arith, like.fired v h, ap one (same_ends v h));
    need = λ v h. like.need v h;
  }

  -- The records of the firings that end, as the state after it tells them.
  pub ended_is :
      (u : State) (ending : ℕ → Bool) → u.clock ≡ s.clock + 1 → ((v : ℕ) → v < n.tasks → u.fired v ≡ s.fired v + one (ends n s grants v)) → ((v : ℕ) → v < n.tasks → ending v ≡ ends n s grants v) →
      (k : ℕ) → k ≤ n.tasks → ended u ending k ≡ put_out n s grants k
  unfolding put_out
  ended_is u ending clock fired all zero h = refl
  ended_is u ending clock fired all (suc k) h =
      let before = ended_is u ending clock fired all k (omega arith) in
      let here : k < n.tasks = omega arith in
      let e : ending k ≡ ends n s grants k = all k here in
      let f : ending k ≡ true → u.fired k - 1 ≡ s.fired k = λ q. omega (arith, fired k here, ap one (sym (all k here) ∙ q)) in
      ap₂ (λ (xs ys : List Finished). xs ++ ys) before (go (ending k) e f clock)
    where
      go : (b : Bool) → b ≡ ends n s grants k → (b ≡ true → u.fired k - 1 ≡ s.fired k) → u.clock ≡ s.clock + 1 →
          ◌≡◌ {A = List Finished} (cond b (record { task = k; firing = u.fired k - 1; clock = u.clock } ∷ []) []) (cond (ends n s grants k) (record { task = k; firing = s.fired k; clock = s.clock + 1 } ∷ []) [])
      go true q f c = rw (sym q, f refl, c) refl
      go false q f c = rw (sym q) refl

  pub same_put : (k : ℕ) → k ≤ n.tasks → put_out n s grants k ≡ put_out m t grants k
  unfolding put_out
  same_put zero h = refl
  same_put (suc k) h =
      let here : k < n.tasks = omega arith in
      let before = same_put k (omega arith) in
      rw (before, same_ends k here, like.fired k here, like.clock) refl

pub alike_self : (n : Net) (s : State) → Alike n s s
alike_self n s = record { clock = refl; held = λ e h. refl; waiting = λ v h. refl; to_go = λ v h. refl; fired = λ v h. refl; need = λ v h. refl }
