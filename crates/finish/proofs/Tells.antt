-- What is kept of a ready time and of a finish bound, from what is kept of those before.
use Rattle.std.proofs.Common.{◌≡◌, ◌≢◌, ℕ, suc, ◌+◌, ◌-◌, ◌*◌, ◌<◌, ◌≤◌, Bool, true, false, ◌⊎◌, List, length, set, get_or, refl, sym, ap, subst, inl, inr, arith, length-set, get_or-set_same, get_or-set_other, mul-le-mul_right}
use Rattle.std.proofs.lemmas.Bool.{cases_lt}
use Rattle.std.proofs.lemmas.Bool.Decides.{nat_tests}
use native.Mathlib.Decide.{ℕ_discrete}
use Rattle.flow.specs.Nets.{Net, Arrivals}
use Rattle.flow.specs.Finish.{Cost, Feeds, Finish, finish, Ready}
use Rattle.flow.proofs.Bounds.{finish_le, ready_le, finish_ready, make_ready, make_finish}
use Rattle.finish.proofs.Steps.{cell}
use Rattle.finish.specs.Filling.{IsLargest, capped, entry, ReadyTold, FinishTold, WaitsTold, Partly, Came, Fed, more, Kept, Shaped, Stepped}

module _ (g : Net) (α : Arrivals) (cost : Cost) where
  finish_met : {v i t : ℕ} → Finish g α cost v i t → (k : ℕ) × (k ≤ i) × ((a : ℕ) × Ready g α cost v k a × (t ≡ a + cost v (i - k + 1)))
  finish_met (finish a f ds rs m) = (m.met.0, m.met.1, (a m.met.0, record { f = f m.met.0; feeds = ds m.met.0 m.met.1; largest = rs m.met.0 m.met.1 }, m.met.2))

  pub ready_told : (v i arrival r : ℕ) (f : ℕ → ℕ) → Came g α v i arrival → arrival ≤ 1000000000001 → ((e : ℕ) → Feeds g v i e → FinishTold g α cost (g.from e) (i - g.tokens e) (f e)) → IsLargest (Feeds g v i) f arrival g.edges r → ReadyTold g α cost v i r
  ready_told v i arrival r f came low fs tops = record { a = a; is = is; told = omega (arith, up tops.met, down is.largest.met) }
    where
      m : (a : ℕ) × Ready g α cost v i a
      m = make_ready g α cost v i (λ e h. ((fs e h).t, (fs e h).is)) (λ q. (came.inlet q).0)

      a : ℕ
      a = m.0

      is : Ready g α cost v i a
      is = m.1

      by_inlet : (b : Bool) → g.inlet v ≡ b → arrival ≤ a
      by_inlet true q = omega (arith, (came.inlet q).1, (is.largest.arrived q).1)
      by_inlet false q = omega (arith, came.none q)

      up : (r ≡ arrival) ⊎ ((e : ℕ) × (e < g.edges) × Feeds g v i e × (r ≡ f e)) → r ≤ capped a
      up (inl q) = omega (arith, by_inlet (g.inlet v) refl)
      up (inr (e, h, p, q)) = omega (arith, (fs e p).told, finish_le g α cost (fs e p).is (is.feeds e p), is.largest.fed e p)

      down : (a ≡ 0) ⊎ ((g.inlet v ≡ true) × (a ≡ α.stamp v i)) ⊎ ((e : ℕ) × Feeds g v i e × (a ≡ is.f e)) → capped a ≤ r
      down (inl q) = omega arith
      down (inr (inl (p, q))) = omega (arith, (came.inlet p).1, tops.base)
      down (inr (inr (e, p, q))) = omega (arith, (fs e p).told, finish_le g α cost (is.feeds e p) (fs e p).is, tops.upper e p.edge p)

  pub finish_told : (v i x y : ℕ) (r w : ℕ → ℕ) → ((k : ℕ) → k ≤ i → ReadyTold g α cost v k (r k)) → ((j : ℕ) → j ≤ i → w j ≡ capped (cost v (j + 1))) → IsLargest (λ k. Unit {0}) (λ k. r k + w (i - k)) 0 (i + 1) y → x ≡ capped y → FinishTold g α cost v i x
  finish_told v i x y r w rs ws tops xy = record { t = t; is = is; told = omega (arith, up tops.met, down) }
    where
      m : (t : ℕ) × Finish g α cost v i t
      m = make_finish g α cost v i (λ k h. ((rs k h).a, (rs k h).is))

      t : ℕ
      t = m.0

      is : Finish g α cost v i t
      is = m.1

      up : (y ≡ 0) ⊎ ((k : ℕ) × (k < i + 1) × Unit {0} × (y ≡ r k + w (i - k))) → capped y ≤ capped t
      up (inl q) = omega arith
      up (inr (k, h, u, q)) =
          let h' : k ≤ i = omega arith in
          let old = finish_ready g α cost is k h' in
          omega (arith, (rs k h').told, ws (i - k) (omega arith), ready_le g α cost (rs k h').is old.1, old.2)

      down : capped t ≤ capped y
      down =
          let old = finish_met is in
          let k = old.0 in
          let h = old.1 in
          omega (arith, (rs k h).told, ws (i - k) (omega arith), ready_le g α cost old.2.1 (rs k h).is, old.2.2, tops.upper k (omega (arith, h)) tt)

  -- fewer firings
  pub partly_less : (n : ℕ) (done done' : ℕ → ℕ) (ready table : List ℕ) → ((u : ℕ) → u < g.tasks → done' u ≤ done u) → Partly g α cost n done ready table → Partly g α cost n done' ready table
  partly_less n done done' ready table less p = record {
    room = λ u um. omega (arith, less u um, p.room u um);
    readies = λ u j um jm. p.readies u j um (omega (arith, less u um));
    bounds = λ u j um jm. p.bounds u j um (omega (arith, less u um));
  }

-- two entries at one place are one
apart : (n u j v i : ℕ) → j < n → i < n → u * n + j ≡ v * n + i → (u ≡ v) × (j ≡ i)
apart n u j v i a b q = go (cases_lt v u) (cases_lt u v)
  where
    go : (v < u) ⊎ (u ≤ v) → (u < v) ⊎ (v ≤ u) → (u ≡ v) × (j ≡ i)
    go (inr x) (inr y) = let s : u ≡ v = omega arith in let s' : u * n ≡ v * n = ap (λ (m : ℕ). m * n) s in (s, omega arith)
    go (inl x) y = let s : suc v ≤ u = omega arith in absurd (omega (arith, mul-le-mul_right n s))
    go (inr x) (inl y) = let s : suc u ≤ v = omega arith in absurd (omega (arith, mul-le-mul_right n s))

pub kept_set : (xs : List ℕ) (k x : ℕ) → Kept xs → k < length xs → x ≤ 1000000000001 → Kept (set xs k x)
kept_set xs k x l b h = record { at = λ j. go j (ℕ_discrete j k) }
  where
    go : (j : ℕ) → Dec (j ≡ k) → get_or (set xs k x) j 0 ≤ 1000000000001
    go j (no ne) = let n : j ≢ k = ne in omega (arith, get_or-set_other xs k j x 0 n, l.at j)
    go j (yes e) = subst (λ (m : ℕ). get_or (set xs k x) m 0 ≤ 1000000000001) (sym e) (omega (arith, get_or-set_same xs k x 0 b))

-- the entries of a table, and one more
module _ (m n v i : ℕ) (done : ℕ → ℕ) (T : ℕ → ℕ → ℕ → Type 0) (room : (u : ℕ) → u < m → done u ≤ n) (vm : v < m) (im : i < n) (dq : done v ≡ i) where
  pub entry_more : (xs : List ℕ) (x : ℕ) → v * n + i < length xs → ((u j : ℕ) → u < m → j < done u → T u j (entry xs n u j)) → T v i x → (u j : ℕ) → u < m → j < more done v u → T u j (entry (set xs (v * n + i) x) n u j)
  entry_more xs x inside old new u j um jm = go (ℕ_discrete u v) (ℕ_discrete j i)
    where
      other : j < done u → (u * n + j ≡ v * n + i → ⊥) → T u j (entry (set xs (v * n + i) x) n u j)
      other h ne = let ne' : u * n + j ≢ v * n + i = ne in subst (λ (z : ℕ). T u j z) (sym (get_or-set_other xs (v * n + i) (u * n + j) x 0 ne')) (old u j um h)

      go : Dec (u ≡ v) → Dec (j ≡ i) → T u j (entry (set xs (v * n + i) x) n u j)
      go (yes a) (yes b) = subst (λ (z : ℕ). T z j (entry (set xs (v * n + i) x) n z j)) (sym a) (subst (λ (z : ℕ). T v z (entry (set xs (v * n + i) x) n v z)) (sym b) (subst (λ (z : ℕ). T v i z) (sym (get_or-set_same xs (v * n + i) x 0 inside)) new))
      go (yes a) (no b) =
          let d : done u ≡ done v = ap done a in
          let h : j < suc (done v) = grind (arith, nat_tests) in
          let h' : j < done u = omega arith in
          other h' (λ q. b (apart n u j v i (omega (arith, room u um)) im q).1)
      go (no a) b =
          let h : j < done u = grind (arith, nat_tests) in
          other h (λ q. a (apart n u j v i (omega (arith, room u um)) im q).0)

pub kept_fed : (P : ℕ → Type 0) (table : List ℕ) (at : ℕ → ℕ) (arrival m a : ℕ) → arrival ≤ 1000000000001 → Kept table → IsLargest P (λ e. get_or table (at e) 0) arrival m a → a ≤ 1000000000001
kept_fed P table at arrival m a h l fed = go fed.met
  where
    go : (a ≡ arrival) ⊎ ((e : ℕ) × (e < m) × P e × (a ≡ get_or table (at e) 0)) → a ≤ 1000000000001
    go (inl q) = omega arith
    go (inr (e, b, p, q)) = omega (arith, l.at (at e))

-- a step
module _ (g : Net) (n v i arrival : ℕ) (worst ready table : List ℕ) (a x y : ℕ) (from_task : (e : ℕ) → e < g.edges → g.from e < g.tasks) (vm : v < g.tasks) (im : i < n) (low : arrival ≤ 1000000000001) (shaped : Shaped g n worst ready table) (fed : IsLargest (Feeds g v i) (λ e. entry table n (g.from e) (i - g.tokens e)) arrival g.edges a) (top : IsLargest (λ k. Unit {0}) (λ k. get_or (set ready (v * n + i) a) (v * n + k) 0 + get_or worst (v * n + (i - k)) 0) 0 (i + 1) y) (xy : x ≡ capped y) where
  inside : v * n + i < g.tasks * n
  inside = cell n g.tasks v i vm im

  inside_ready : v * n + i < length ready
  inside_ready = omega (arith, shaped.wide_ready, inside)

  inside_table : v * n + i < length table
  inside_table = omega (arith, shaped.wide_table, inside)

  step_right : (α : Arrivals) (cost : Cost) (done : ℕ → ℕ) → WaitsTold g cost n worst → Partly g α cost n done ready table → done v ≡ i → Came g α v i arrival → Fed g done v i → Partly g α cost n (more done v) (set ready (v * n + i) a) (set table (v * n + i) x)
  step_right α cost done ws p dq came fs = record { room = room; readies = readies; bounds = bounds }
    where
      room : (u : ℕ) → u < g.tasks → more done v u ≤ n
      room u um = let h : done u ≤ n = p.room u um in grind (arith, nat_tests)

      readies : (u j : ℕ) → u < g.tasks → j < more done v u → ReadyTold g α cost u j (entry (set ready (v * n + i) a) n u j)
      readies =
          entry_more g.tasks n v i done (ReadyTold g α cost) p.room vm im dq ready a inside_ready p.readies
          (ready_told g α cost v i arrival a (λ e. entry table n (g.from e) (i - g.tokens e)) came low (λ e h. p.bounds (g.from e) (i - g.tokens e) (from_task e h.edge) (fs.by e h)) fed)

      bounds : (u j : ℕ) → u < g.tasks → j < more done v u → FinishTold g α cost u j (entry (set table (v * n + i) x) n u j)
      bounds =
          entry_more g.tasks n v i done (FinishTold g α cost) p.room vm im dq table x inside_table p.bounds
          (finish_told g α cost v i x y (λ k. entry (set ready (v * n + i) a) n v k) (λ j. entry worst n v j) (λ k h. readies v k vm (grind (arith, nat_tests))) (λ j h. ws.at v j vm (omega arith)) top xy)

  pub stepped : Stepped g n v i arrival worst ready table (set ready (v * n + i) a) (set table (v * n + i) x)
  stepped = record {
    right = step_right;
    shaped = record {
      short = shaped.short;
      few = shaped.few;
      wide_worst = shaped.wide_worst;
      wide_ready = simp length-set shaped.wide_ready;
      wide_table = simp length-set shaped.wide_table;
      kept_worst = shaped.kept_worst;
      kept_ready = kept_set ready (v * n + i) a shaped.kept_ready inside_ready (kept_fed (Feeds g v i) table (λ e. g.from e * n + (i - g.tokens e)) arrival g.edges a low shaped.kept_table fed);
      kept_table = kept_set table (v * n + i) x shaped.kept_table inside_table (omega arith);
    };
  }
