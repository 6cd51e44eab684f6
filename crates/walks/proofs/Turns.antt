-- What a search keeps from push to push, and what it has at its end.
use Rattle.std.proofs.Common.{◌≡◌, ℕ, suc, ◌+◌, ◌<◌, ◌≤◌, ◌≢◌, ◌⊎◌, inl, inr, refl, sym, ap, subst, ◌∙◌, List, [], ◌∷◌, ◌++◌, length, set, length-append, arith}
use Rattle.std.proofs.lemmas.Bool.{cases_eq}
use Rattle.walks.specs.ArcNet.{ArcNet, Lawful, Settled, Least}
use Rattle.walks.proofs.Walks.{Fresh, Walk, stand, on, walk_more, walk_short}

-- each task's value, and the walk that it came by
pub record State (g : ArcNet) : Type 0 where
  pub value : ℕ → g.V
  pub walk : ℕ → List ℕ

pub record Good (g : ArcNet) (s : State g) : Type 0 where
  pub walks : (v : ℕ) → v < g.tasks → Walk g (s.value) (s.walk v) v (s.value v)
  pub based : (v : ℕ) → v < g.tasks → g.upto (g.base v) (s.value v)
  pub least : (y : ℕ → g.V) → Settled g y → (v : ℕ) → v < g.tasks → g.upto (s.value v) (y v)

unfoldable pub Holds : (g : ArcNet) (s : State g) → ℕ → Type 0
Holds g s e = g.upto (g.step e (s.value (g.from e))) (s.value (g.to e))

-- each task has a walk of k arcs or more, or its values keep to those of the first j arcs that set out from it
pub Held : (g : ArcNet) (s : State g) → ℕ → ℕ → Type 0
Held g s k j = (v : ℕ) → v < g.tasks → (k ≤ length (s.walk v)) ⊎ ((e : ℕ) → e < j → g.from e ≡ v → Holds g s e)

pub record Raised (g : ArcNet) (s s' : State g) (e : ℕ) : Type 0 where
  pub up : g.upto (g.step e (s.value (g.from e))) (s.value (g.to e)) → ⊥
  pub new : s'.value (g.to e) ≡ g.step e (s.value (g.from e))
  pub way : s'.walk (g.to e) ≡ s.walk (g.from e) ++ e ∷ []
  pub fresh : Fresh g (s.walk (g.from e)) (g.from e) (g.to e)
  pub other : (v : ℕ) → v ≢ g.to e → (s'.value v ≡ s.value v) × (s'.walk v ≡ s.walk v)

abbrev pub begin : (g : ArcNet) → State g
begin g = record { value = g.base; walk = λ v. [] }

pub good_begin : (g : ArcNet) → Lawful g → Good g (begin g)
good_begin g ok = record {
  walks = λ v h. stand h (ok.same (g.base v));
  based = λ v h. ok.same (g.base v);
  least = λ y set v h. set.based v h;
}

pub held_none : (g : ArcNet) (s : State g) (j : ℕ) → Held g s 0 j
unfolding Held
held_none g s j v h = inl (omega arith)

pub held_start : (g : ArcNet) (s : State g) (k : ℕ) → Held g s k 0
unfolding Held
held_start g s k v h = inr (λ e l. absurd (omega arith))

-- one more arc that holds
pub held_more : (g : ArcNet) (s : State g) (k j : ℕ) → Held g s k j → Holds g s j → Held g s k (suc j)
unfolding Held
held_more g s k j held now v h = go (held v h)
  where
    one : (e : ℕ) → (e ≡ j) ⊎ (e ≢ j) → ((e : ℕ) → e < j → g.from e ≡ v → Holds g s e) → e < suc j → g.from e ≡ v → Holds g s e
    one e (inl same) before l f = subst (Holds g s) (sym same) now
    one e (inr ne) before l f = before e (omega arith) f

    go : (k ≤ length (s.walk v)) ⊎ ((e : ℕ) → e < j → g.from e ≡ v → Holds g s e) → (k ≤ length (s.walk v)) ⊎ ((e : ℕ) → e < suc j → g.from e ≡ v → Holds g s e)
    go (inl l) = inl l
    go (inr before) = inr (λ e l f. one e (cases_eq e j) before l f)

-- after as many rounds as there are tasks, all is settled
pub settled : (g : ArcNet) → Lawful g → (s : State g) → Good g s → Held g s (g.tasks) (g.arcs) → Least g (s.value)
unfolding Held Holds
settled g ok s good held = record {
  settled = record { based = good.based; keeps = λ e h. go e h (held (g.from e) (ok.from_task e h)) };
  least = good.least;
}
  where
    go : (e : ℕ) → e < g.arcs → (g.tasks ≤ length (s.walk (g.from e))) ⊎ ((a : ℕ) → a < g.arcs → g.from a ≡ g.from e → Holds g s a) → Holds g s e
    go e h (inl l) = absurd (omega (arith, walk_short g ok (s.value) (good.walks (g.from e) (ok.from_task e h))))
    go e h (inr all) = all e h refl

module _ (g : ArcNet) (ok : Lawful g) (s s' : State g) (e : ℕ) (h : e < g.arcs) (r : Raised g s s' e) where
  better : g.upto (s.value (g.to e)) (g.step e (s.value (g.from e)))
  better = go (ok.total (g.step e (s.value (g.from e))) (s.value (g.to e)))
    where
      go : g.upto (g.step e (s.value (g.from e))) (s.value (g.to e)) ⊎ g.upto (s.value (g.to e)) (g.step e (s.value (g.from e))) →
          g.upto (s.value (g.to e)) (g.step e (s.value (g.from e)))
      go (inl no_more) = absurd (r.up no_more)
      go (inr more) = more

  rises : (v : ℕ) → g.upto (s.value v) (s'.value v)
  rises v = go (cases_eq v (g.to e))
    where
      go : (v ≡ g.to e) ⊎ (v ≢ g.to e) → g.upto (s.value v) (s'.value v)
      go (inl q) = subst (λ (k : ℕ). g.upto (s.value k) (s'.value k)) (sym q) (subst (λ x. g.upto (s.value (g.to e)) x) (sym (r.new)) better)
      go (inr ne) = subst (λ x. g.upto (s.value v) x) (sym ((r.other v ne).0)) (ok.same (s.value v))

  walk_like : (v : ℕ) {ws ws' : List ℕ} {z z' : g.V} → ws' ≡ ws → z' ≡ z → Walk g (s'.value) ws v z → Walk g (s'.value) ws' v z'
  walk_like v {ws} {ws'} {z} {z'} p q w = subst (λ x. Walk g (s'.value) ws' v x) (sym q) (subst (λ l. Walk g (s'.value) l v z) (sym p) w)

  raised_walk : Good g s → (v : ℕ) → v < g.tasks → Walk g (s'.value) (s'.walk v) v (s'.value v)
  raised_walk good v l = go (cases_eq v (g.to e))
    where
      old : (u : ℕ) → u < g.tasks → Walk g (s'.value) (s.walk u) u (s.value u)
      old u b = walk_more g ok (s.value) (s'.value) (λ k _. rises k) (good.walks u b)

      go : (v ≡ g.to e) ⊎ (v ≢ g.to e) → Walk g (s'.value) (s'.walk v) v (s'.value v)
      go (inl q) =
          subst (λ (k : ℕ). Walk g (s'.value) (s'.walk k) k (s'.value k)) (sym q)
          (walk_like (g.to e) (r.way) (r.new) (on e (old (g.from e) (ok.from_task e h)) h refl (r.fresh) (ok.to_task e h) (subst (λ x. g.upto (g.step e (s.value (g.from e))) x) (sym (r.new)) (ok.same _))))
      go (inr ne) = walk_like v ((r.other v ne).1) ((r.other v ne).0) (old v l)

  raised_least : Good g s → (y : ℕ → g.V) → Settled g y → (v : ℕ) → v < g.tasks → g.upto (s'.value v) (y v)
  raised_least good y set v l = go (cases_eq v (g.to e))
    where
      go : (v ≡ g.to e) ⊎ (v ≢ g.to e) → g.upto (s'.value v) (y v)
      go (inl q) =
          subst (λ (k : ℕ). g.upto (s'.value k) (y k)) (sym q)
          (subst (λ x. g.upto x (y (g.to e))) (sym (r.new)) (ok.chain _ _ _ (ok.spreads e _ _ h (good.least y set (g.from e) (ok.from_task e h))) (set.keeps e h)))
      go (inr ne) = subst (λ x. g.upto x (y v)) (sym ((r.other v ne).0)) (good.least y set v l)

  pub raised_good : Good g s → Good g s'
  raised_good good = record {
    walks = raised_walk good;
    based = λ v l. ok.chain _ _ _ (good.based v l) (rises v);
    least = raised_least good;
  }

  -- what was held stays so
  stays : (k j : ℕ) → k ≤ suc (length (s.walk (g.from e))) → Held g s k j → Held g s' k j
  unfolding Held Holds
  stays k j room held v l = go (cases_eq v (g.to e))
    where
      kept : (v ≢ g.to e) → (k ≤ length (s.walk v)) ⊎ ((a : ℕ) → a < j → g.from a ≡ v → Holds g s a) → (k ≤ length (s'.walk v)) ⊎ ((a : ℕ) → a < j → g.from a ≡ v → Holds g s' a)
      kept ne (inl m) = inl (subst (λ (ws : List ℕ). k ≤ length ws) (sym ((r.other v ne).1)) m)
      kept ne (inr all) = inr (λ a b f.
          let same : s'.value (g.from a) ≡ s.value (g.from a) = (r.other (g.from a) (λ q. ne (sym f ∙ q))).0 in
          subst (λ x. g.upto (g.step a x) (s'.value (g.to a))) (sym same) (ok.chain _ _ _ (all a b f) (rises (g.to a))))

      go : (v ≡ g.to e) ⊎ (v ≢ g.to e) → (k ≤ length (s'.walk v)) ⊎ ((a : ℕ) → a < j → g.from a ≡ v → Holds g s' a)
      go (inl q) =
          let long : length (s'.walk v) ≡ length (s.walk (g.from e)) + 1 = ap (λ (u : ℕ). length (s'.walk u)) q ∙ ap length (r.way) ∙ length-append (s.walk (g.from e)) (e ∷ []) in
          inl (omega arith)
      go (inr ne) = kept ne (held v l)

  -- the walk that was made longer had k arcs
  long_enough : (k : ℕ) → Held g s k (g.arcs) → k ≤ length (s.walk (g.from e))
  unfolding Held Holds
  long_enough k held = go (held (g.from e) (ok.from_task e h))
    where
      go : (k ≤ length (s.walk (g.from e))) ⊎ ((a : ℕ) → a < g.arcs → g.from a ≡ g.from e → Holds g s a) → k ≤ length (s.walk (g.from e))
      go (inl l) = l
      go (inr all) = absurd (r.up (all e h refl))

  raised_holds : Holds g s' e
  unfolding Holds
  raised_holds =
      let same : s'.value (g.from e) ≡ s.value (g.from e) = (r.other (g.from e) (r.fresh.at_end)).0 in
      subst (λ x. g.upto (g.step e x) (s'.value (g.to e))) (sym same) (subst (λ x. g.upto (g.step e (s.value (g.from e))) x) (sym (r.new)) (ok.same _))

  pub raised_held : (k : ℕ) → Held g s k (g.arcs) → Held g s (suc k) e → Held g s' k (g.arcs) × Held g s' (suc k) (suc e)
  raised_held k before so_far =
      let l : k ≤ length (s.walk (g.from e)) = long_enough k before in
      (stays k (g.arcs) (omega arith) before, held_more g s' (suc k) e (stays (suc k) e (omega arith) so_far) raised_holds)
