-- A row of the table: the tasks in their order.
use Rattle.std.proofs.Common.{◌≡◌, ℕ, ◌+◌, ◌-◌, ◌*◌, ◌<◌, ◌≤◌, false, List, length, set, get_or, sym, ap, ◌∙◌, subst, vec_len, get_or-set_same, true≢false, arith}
use Rattle.std.proofs.lemmas.Bool.Decides.{nat_tests}
use native.Mathlib.Decide.{ℕ_discrete}
use Rattle.graph.specs.declared.graph.Graph.{Graph}
use Rattle.flow.specs.Nets.{Net, Arrivals, net_of}
use Rattle.flow.specs.Finish.{Cost, Feeds}
use Rattle.finish.proofs.Steps.{cell}
use Rattle.finish.proofs.Tells.{entry_more, partly_less}
use Rattle.finish.specs.Table.{SomeAbove}
use Rattle.finish.specs.Filling.{entry, FinishTold, WaitsTold, Came, Fed, more, Shaped, Stepped, Good, Advances, Went, done_at}

-- fewer firings
good_less : (g : Net) (α : Arrivals) (cost : Cost) (n : ℕ) (done done' : ℕ → ℕ) (ready table : List ℕ) → ((u : ℕ) → u < g.tasks → done' u ≤ done u) → Good g α cost n done ready table → Good g α cost n done' ready table
good_less g α cost n done done' ready table less h = record {
  partly = partly_less g α cost n done done' ready table less h.partly;
  within = λ u j um jm. h.within u j um (omega (arith, less u um));
}

module _ (g : Net) (α : Arrivals) (n : ℕ) (worst ready table : List ℕ) (done : ℕ → ℕ) where
  pub advances_none : (done' : ℕ → ℕ) → Shaped g n worst ready table → ((u : ℕ) → u < g.tasks → done' u ≤ done u) → Advances g α n worst done ready table done' ready table
  advances_none done' shaped less = record { shaped = shaped; good = λ cost ws h. good_less g α cost n done done' ready table less h }

  pub advances_on : (done' done'' : ℕ → ℕ) (ready' table' ready'' table'' : List ℕ) → Advances g α n worst done ready table done' ready' table' → Advances g α n worst done' ready' table' done'' ready'' table'' → Advances g α n worst done ready table done'' ready'' table''
  advances_on done' done'' ready' table' ready'' table'' a b = record { shaped = b.shaped; good = λ cost ws h. b.good cost ws (a.good cost ws h) }

-- one step, at a task whose feeders have their entries
module _ (g : Net) (α : Arrivals) (n v i arrival x : ℕ) (worst ready table ready' table' : List ℕ) (done : ℕ → ℕ) (s : Stepped g n v i arrival worst ready table ready' table') (wrote : table' ≡ set table (v * n + i) x) (shaped : Shaped g n worst ready table) (vm : v < g.tasks) (im : i < n) (dq : done v ≡ i) (came : Came g α v i arrival) (fed : Fed g done v i) where
  inside : v * n + i < length table
  inside = omega (arith, cell n g.tasks v i vm im, shaped.wide_table)

  pub step_advances : x ≤ 1000000000000 → Advances g α n worst done ready table (more done v) ready' table'
  step_advances low = record {
    shaped = s.shaped;
    good = λ cost ws h. record {
      partly = s.right α cost done ws h.partly dq came fed;
      within = subst (λ (t : List ℕ). (u j : ℕ) → u < g.tasks → j < more done v u → entry t n u j ≤ 1000000000000) (sym wrote)
          (entry_more g.tasks n v i done (λ u j y. y ≤ 1000000000000) h.partly.room vm im dq table x inside h.within low);
    };
  }

  pub step_over : 1000000000000 < x → (cost : Cost) → WaitsTold g cost n worst → Good g α cost n done ready table → SomeAbove g α cost n
  step_over high cost ws h =
      let b : FinishTold g α cost v i (entry table' n v i) = (s.right α cost done ws h.partly dq came fed).bounds v i vm (grind (arith, nat_tests)) in
      let q : entry table' n v i ≡ x = subst (λ (t : List ℕ). entry t n v i ≡ x) (sym wrote) (get_or-set_same table (v * n + i) x 0 inside) in
      record { v = v; i = i; t = b.t; task = vm; firing = im; is = b.is; over = omega (arith, b.told) }

-- the tasks in their order
module _ (g : Graph) (i p : ℕ) (pm : p < vec_len g.tasks) where
  pm' : p < g.order.tasks
  pm' = omega (arith, g.ordered)

  pub in_order : get_or g.order.list p 0 < vec_len g.tasks
  in_order = omega (arith, g.order.listed p pm', g.ordered)

  pub at_place : done_at g.order.place i p (get_or g.order.list p 0) ≡ i
  at_place = let q : get_or g.order.place (get_or g.order.list p 0) 0 ≡ p = g.order.back p pm' in grind (arith, nat_tests)

  pub fed_before : Fed (net_of g) (done_at g.order.place i p) (get_or g.order.list p 0) i
  fed_before = record { by = by }
    where
      by : (e : ℕ) → Feeds (net_of g) (get_or g.order.list p 0) i e → i - (net_of g).tokens e < done_at g.order.place i p ((net_of g).from e)
      by e h = go (ℕ_discrete ((net_of g).tokens e) 0)
        where
          go : Dec ((net_of g).tokens e ≡ 0) → i - (net_of g).tokens e < done_at g.order.place i p ((net_of g).from e)
          go (yes z) =
              let q : get_or g.order.place (get_or g.order.list p 0) 0 ≡ p = g.order.back p pm' in
              let to : get_or g.order.place ((net_of g).to e) 0 ≡ get_or g.order.place (get_or g.order.list p 0) 0 = ap (λ (u : ℕ). get_or g.order.place u 0) h.into in
              let f : get_or g.order.place ((net_of g).from e) 0 < get_or g.order.place ((net_of g).to e) 0 = g.forward e h.edge z in
              grind (arith, nat_tests)
          go (no z) =
              let past : (net_of g).tokens e ≤ i = h.past in
              let l : i - (net_of g).tokens e < i = omega arith in
              grind (arith, nat_tests)

  pub more_at : (u : ℕ) → u < vec_len g.tasks → done_at g.order.place i (p + 1) u ≤ more (done_at g.order.place i p) (get_or g.order.list p 0) u
  more_at u um = go (ℕ_discrete u (get_or g.order.list p 0))
    where
      go : Dec (u ≡ get_or g.order.list p 0) → done_at g.order.place i (p + 1) u ≤ more (done_at g.order.place i p) (get_or g.order.list p 0) u
      go (yes e) = let q = at_place in grind (arith, nat_tests)
      go (no e) =
          let um' : u < g.order.tasks = omega (arith, g.ordered) in
          let f : get_or g.order.list (get_or g.order.place u 0) 0 ≡ u = g.order.found u um' in
          let n : get_or g.order.place u 0 ≡ p → ⊥ = λ q. e (sym f ∙ ap (λ (k : ℕ). get_or g.order.list k 0) q) in
          grind (arith, nat_tests)

-- one task more of a row
module _ (g : Graph) (α : Arrivals) (n i p arrival x : ℕ) (worst ready table ready' table' ready'' table'' : List ℕ) (pm : p < vec_len g.tasks) (im : i < n) (so_far : Advances (net_of g) α n worst (λ _. i) ready table (done_at g.order.place i p) ready' table') (came : Came (net_of g) α (get_or g.order.list p 0) i arrival) (s : Stepped (net_of g) n (get_or g.order.list p 0) i arrival worst ready' table' ready'' table'') (wrote : table'' ≡ set table' (get_or g.order.list p 0 * n + i) x) where
  pub row_more : x ≤ 1000000000000 → Advances (net_of g) α n worst (λ _. i) ready table (done_at g.order.place i (p + 1)) ready'' table''
  row_more low =
      advances_on (net_of g) α n worst ready table (λ _. i) (done_at g.order.place i p) (done_at g.order.place i (p + 1)) ready' table' ready'' table'' so_far
      (advances_on (net_of g) α n worst ready' table' (done_at g.order.place i p) (more (done_at g.order.place i p) (get_or g.order.list p 0)) (done_at g.order.place i (p + 1)) ready'' table'' ready'' table''
      (step_advances (net_of g) α n (get_or g.order.list p 0) i arrival x worst ready' table' ready'' table'' (done_at g.order.place i p) s wrote so_far.shaped (in_order g i p pm) im (at_place g i p pm) came (fed_before g i p pm) low)
      (advances_none (net_of g) α n worst ready'' table'' (more (done_at g.order.place i p) (get_or g.order.list p 0)) (done_at g.order.place i (p + 1)) s.shaped (more_at g i p pm)))

  pub row_over : 1000000000000 < x → (done' : ℕ → ℕ) → Went (net_of g) α n worst (λ _. i) ready table done' ready'' table'' false
  row_over high done' = record {
    shaped = s.shaped;
    well = λ q. absurd (true≢false (sym q));
    over = λ _ cost ws h. step_over (net_of g) α n (get_or g.order.list p 0) i arrival x worst ready' table' ready'' table'' (done_at g.order.place i p) s wrote so_far.shaped (in_order g i p pm) im (at_place g i p pm) came (fed_before g i p pm) high cost ws (so_far.good cost ws h);
  }
