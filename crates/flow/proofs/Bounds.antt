-- A and F are functions, and exist at each firing before one at which they exist, where they are no larger.
use Rattle.std.proofs.Common.{◌≡◌, ℕ, suc, ◌+◌, ◌-◌, ◌<◌, ◌≤◌, Bool, true, false, ◌⊎◌, refl, inl, inr, arith}
use native.Mathlib.Decide.{dec_le, dec_lt, ℕ_discrete}
use Rattle.flow.specs.Nets.{Net, Arrivals}
use Rattle.flow.specs.Finish.{Cost, Feeds, ReadyLargest, Finish, finish, Ready}
use Rattle.flow.proofs.Largest.{Largest, largest}

pub dec_feeds : (g : Net) (v k e : ℕ) → Dec (Feeds g v k e)
dec_feeds g v k e = go (dec_lt e g.edges) (ℕ_discrete (g.to e) v) (dec_le (g.tokens e) k)
  where
    go : Dec (e < g.edges) → Dec (g.to e ≡ v) → Dec (g.tokens e ≤ k) → Dec (Feeds g v k e)
    go (yes a) (yes b) (yes c) = yes (record { edge = a; into = b; past = c })
    go (yes a) (yes b) (no c) = no (λ x. c x.past)
    go (yes a) (no b) c = no (λ x. b x.into)
    go (no a) b c = no (λ x. a x.edge)

module _ (g : Net) (α : Arrivals) where
  -- a ready time is no later than another, where what feeds it is not
  largest_le : (v k a a' : ℕ) (f f' : ℕ → ℕ) → ReadyLargest g α v k a f → ReadyLargest g α v k a' f' → ((e : ℕ) → Feeds g v k e → f e ≤ f' e) → a ≤ a'
  largest_le v k a a' f f' r r' less = go r.met
    where
      go : (a ≡ 0) ⊎ ((g.inlet v ≡ true) × (a ≡ α.stamp v k)) ⊎ ((e : ℕ) × Feeds g v k e × (a ≡ f e)) → a ≤ a'
      go (inl q) = omega arith
      go (inr (inl (i, q))) = omega (arith, (r'.arrived i).1)
      go (inr (inr (e, h, q))) = omega (arith, less e h, r'.fed e h)

  -- a finish bound is no later than one by another cost, where that is not less at the tasks of a kind which the edges come from
  module _ (cost cost' : Cost) (P : ℕ → Type 0) (from : (e : ℕ) → e < g.edges → P (g.from e)) (dearer : (v m : ℕ) → P v → cost v m ≤ cost' v m) where
    pub finish_dearer : {v i s t : ℕ} → P v → Finish g α cost v i s → Finish g α cost' v i t → s ≤ t
    finish_dearer {v} {i} {s} {t} b (finish a f ds rs m) (finish a' f' ds' rs' m') =
        let k : ℕ = m.met.0 in
        let h : k ≤ i = m.met.1 in
        let less : a k ≤ a' k = largest_le v k (a k) (a' k) (f k) (f' k) (rs k h) (rs' k h) (λ e x. finish_dearer (from e x.edge) (ds k h e x) (ds' k h e x)) in
        omega (arith, m.met.2, m'.covers k h, less, dearer v (i - k + 1) b)

module _ (g : Net) (α : Arrivals) (cost : Cost) where
  pub finish_le : {v i s t : ℕ} → Finish g α cost v i s → Finish g α cost v i t → s ≤ t
  finish_le = finish_dearer g α cost cost (λ _. Unit {0}) (λ e h. tt) (λ v m h. omega arith) tt

  pub ready_le : {v k a a' : ℕ} → Ready g α cost v k a → Ready g α cost v k a' → a ≤ a'
  ready_le {v} {k} {a} {a'} r r' = largest_le g α v k a a' r.f r'.f r.largest r'.largest (λ e x. finish_le (r.feeds e x) (r'.feeds e x))

  -- the ready times that a finish bound is made from
  pub finish_ready : {v i t : ℕ} → Finish g α cost v i t → (k : ℕ) → k ≤ i → (a : ℕ) × Ready g α cost v k a × (a + cost v (i - k + 1) ≤ t)
  finish_ready (finish a f ds rs m) k h = (a k, record { f = f k; feeds = ds k h; largest = rs k h }, m.covers k h)

  -- what a finish bound needs: with one of these missing there is none
  pub finish_needs : {v i t : ℕ} → Finish g α cost v i t → (k : ℕ) → k ≤ i → (g.inlet v ≡ true → k < α.count v) × ((e : ℕ) → Feeds g v k e → (x : ℕ) × Finish g α cost (g.from e) (k - g.tokens e) x)
  finish_needs (finish a f ds rs m) k h = (λ q. ((rs k h).arrived q).0, λ e fe. (f k e, ds k h e fe))

  -- it does not fall with the firing's number, where more firings cost no less
  pub finish_rises : {v i j s t : ℕ} → ((m n : ℕ) → m ≤ n → cost v m ≤ cost v n) → i ≤ j → Finish g α cost v i s → Finish g α cost v j t → s ≤ t
  finish_rises {v} {i} {j} rises l (finish a f ds rs m) d =
      let k : ℕ = m.met.0 in
      let h : k ≤ i = m.met.1 in
      let later = finish_ready d k (omega arith) in
      let less : a k ≤ later.0 = ready_le (record { f = f k; feeds = ds k h; largest = rs k h }) later.1 in
      omega (arith, m.met.2, later.2, rises (i - k + 1) (j - k + 1) (omega arith))

  -- A ready time from the finish bounds that it is made from
  pub make_ready : (v k : ℕ) → ((e : ℕ) → Feeds g v k e → (x : ℕ) × Finish g α cost (g.from e) (k - g.tokens e) x) → (g.inlet v ≡ true → k < α.count v) → (a : ℕ) × Ready g α cost v k a
  make_ready v k fs came = by_inlet (g.inlet v) refl
    where
      pick : (e : ℕ) → Dec (Feeds g v k e) → (x : ℕ) × (Feeds g v k e → Finish g α cost (g.from e) (k - g.tokens e) x)
      pick e (yes h) = ((fs e h).0, λ _. (fs e h).1)
      pick e (no n) = (0, λ h. absurd (n h))

      f : ℕ → ℕ
      f e = (pick e (dec_feeds g v k e)).0

      l : (b : ℕ) → Largest (Feeds g v k) f b g.edges
      l b = largest (Feeds g v k) f b (dec_feeds g v k) g.edges

      by_inlet : (b : Bool) → g.inlet v ≡ b → (a : ℕ) × Ready g α cost v k a
      by_inlet true q =
          let st : ℕ = α.stamp v k in (
            (l st).value,
            record {
              f = f;
              feeds = λ e h. (pick e (dec_feeds g v k e)).1 h;
              largest = record {
                arrived = λ _. (came q, (l st).base);
                fed = λ e h. (l st).upper e h.edge h;
                met = elim (l st).met [ inl p ↦ inr (inl (q, p)) | inr p ↦ inr (inr (p.0, p.2, p.3)) ];
              };
            },
          )
      by_inlet false q = (
        (l 0).value,
        record {
          f = f;
          feeds = λ e h. (pick e (dec_feeds g v k e)).1 h;
          largest = record {
            arrived = λ p. absurd cc;
            fed = λ e h. (l 0).upper e h.edge h;
            met = elim (l 0).met [ inl p ↦ inl p | inr p ↦ inr (inr (p.0, p.2, p.3)) ];
          };
        },
      )

  -- A finish bound from the ready times that it is made from
  pub make_finish : (v i : ℕ) → ((k : ℕ) → k ≤ i → (a : ℕ) × Ready g α cost v k a) → (t : ℕ) × Finish g α cost v i t
  make_finish v i rs = (l.value, finish a f (λ k h. ((pick k (dec_le k i)).2 h).0) (λ k h. ((pick k (dec_le k i)).2 h).1) (record { covers = λ k h. l.upper k (omega arith) tt; met = found l.met }))
    where
      Picked : ℕ → Type 0
      Picked k = (x : ℕ) × (y : ℕ → ℕ) × (k ≤ i → ((e : ℕ) → Feeds g v k e → Finish g α cost (g.from e) (k - g.tokens e) (y e)) × ReadyLargest g α v k x y)

      pick : (k : ℕ) → Dec (k ≤ i) → Picked k
      pick k (yes h) = ((rs k h).0, (rs k h).1.f, λ _. ((rs k h).1.feeds, (rs k h).1.largest))
      pick k (no n) = (0, λ e. 0, λ h. absurd (n h))

      a : ℕ → ℕ
      a k = (pick k (dec_le k i)).0

      f : ℕ → ℕ → ℕ
      f k = (pick k (dec_le k i)).1

      h : ℕ → ℕ
      h k = a k + cost v (i - k + 1)

      l : Largest (λ k. Unit {0}) h (h 0) (suc i)
      l = largest (λ k. Unit {0}) h (h 0) (λ k. yes tt) (suc i)

      found : (l.value ≡ h 0) ⊎ ((k : ℕ) × (k < suc i) × Unit {0} × (l.value ≡ h k)) → (k : ℕ) × (k ≤ i) × (l.value ≡ h k)
      found (inl q) = (0, omega arith, q)
      found (inr (k, b, u, q)) = (k, omega arith, q)

  -- The finish bound of an earlier firing is there too, and no later.
  pub finish_back : {v i t : ℕ} → ((m n : ℕ) → m ≤ n → cost v m ≤ cost v n) → (j : ℕ) → j ≤ i → Finish g α cost v i t → (t' : ℕ) × (t' ≤ t) × Finish g α cost v j t'
  finish_back {v} rises j l d =
      let b = make_finish v j (λ k h. let r = finish_ready d k (omega arith) in (r.0, r.1)) in
      (b.0, finish_rises rises l b.1 d, b.1)

  -- the same of the ready time, where arrivals come in order
  module _ (mono : (v : ℕ) → v < g.tasks → (m n : ℕ) → m ≤ n → cost v m ≤ cost v n) (from_task : (e : ℕ) → e < g.edges → g.from e < g.tasks) where
    pub ready_back : {v k a : ℕ} → (g.inlet v ≡ true → suc k < α.count v → α.stamp v k ≤ α.stamp v (suc k)) → Ready g α cost v (suc k) a → (a' : ℕ) × (a' ≤ a) × Ready g α cost v k a'
    ready_back {v} {k} {a} ordered r = (b.0, under b.1.largest.met, b.1)
      where
        before : (e : ℕ) → Feeds g v k e → (x : ℕ) × (x ≤ a) × Finish g α cost (g.from e) (k - g.tokens e) x
        before e h =
            let h' : Feeds g v (suc k) e = record { edge = h.edge; into = h.into; past = omega (arith, h.past) } in
            let x = finish_back (mono (g.from e) (from_task e h.edge)) (k - g.tokens e) (omega arith) (r.feeds e h') in
            (x.0, omega (arith, x.1, r.largest.fed e h'), x.2)

        b : (a' : ℕ) × Ready g α cost v k a'
        b = make_ready v k (λ e h. let x = before e h in (x.0, x.2)) (λ q. omega (arith, (r.largest.arrived q).0))

        under : (b.0 ≡ 0) ⊎ ((g.inlet v ≡ true) × (b.0 ≡ α.stamp v k)) ⊎ ((e : ℕ) × Feeds g v k e × (b.0 ≡ b.1.f e)) → b.0 ≤ a
        under (inl q) = omega arith
        under (inr (inl (i, q))) = omega (arith, ordered i (r.largest.arrived i).0, (r.largest.arrived i).1)
        under (inr (inr (e, h, q))) = omega (arith, finish_le (b.1.feeds e h) (before e h).2, (before e h).1)
