-- Two tasks change places in an order; and where none can be placed, some ring holds no token.
use Rattle.std.proofs.Common.{◌≡◌, ℕ, zero, suc, ◌+◌, ◌<◌, ◌≤◌, List, get_or, sym, subst, inl, inr, arith}
use Rattle.std.proofs.lemmas.Bool.{cases_eq, cases_lt}
use Rattle.std.proofs.lemmas.List.Edits.{Swapped as Swap}
use Rattle.std.specs.List.{SwappedAt}
use Rattle.graph.specs.declared.parts.Edge.{Edge}
use Rattle.graph.specs.declared.order.Order.{Order}
use Rattle.graph.specs.Edges.{edge_at, Ends, Leads, last, more, OnRing, SomeRing}
use Rattle.graph.specs.Ordered.{Waits, Next, Ordered, Swapped}

-- an order O of m tasks, and each one's place P in it
pub record Inverse (m : ℕ) (O P : ℕ → ℕ) : Type 0 where
  pub listed : (r : ℕ) → r < m → O r < m
  pub placed : (w : ℕ) → w < m → P w < m
  pub found : (w : ℕ) → w < m → O (P w) ≡ w
  pub back : (r : ℕ) → r < m → P (O r) ≡ r

module _ (m p q : ℕ) (O O' P P' : ℕ → ℕ) (before : Inverse m O P) (pm : p < m) (qm : q < m) (list : Swap O O' p q) (place : Swap P P' (O p) (O q)) where
  pub swapped_inverse : Inverse m O' P'
  swapped_inverse = record {
    listed = λ r rm. grind (arith, cases_eq r p, cases_eq r q, before.listed p pm, before.listed q qm, before.listed r rm, list);
    placed = λ w wm. grind (arith, cases_eq w (O p), cases_eq w (O q), before.back p pm, before.back q qm, before.placed w wm, place);
    found = λ w wm. grind (arith, cases_eq w (O p), cases_eq w (O q), before.back p pm, before.back q qm, before.found w wm, list, place);
    back = λ r rm. grind (arith, cases_eq r p, cases_eq r q, before.back p pm, before.back q qm, before.back r rm, list, place);
  }

  -- an edge from w to x, in order before, or from one before p to the task at q
  swapped_forward : p ≤ q → (w x : ℕ) → x < m → (P x < p → P w < P x) → (x ≡ O q → P w < p) → P' x < p + 1 → P' w < P' x
  swapped_forward pq w x xm old new h = grind (arith, cases_eq x (O p), cases_eq x (O q), cases_eq w (O p), cases_eq w (O q), before.back p pm, before.back q qm, before.found x xm, place)

abbrev pub inverse : (o : Order) → Inverse o.tasks (λ k. get_or o.list k 0) (λ k. get_or o.place k 0)
inverse o = record { listed = o.listed; placed = o.placed; found = o.found; back = o.back }

abbrev pub swap_at : (xs ys : List ℕ) (i j : ℕ) → SwappedAt xs ys i j → Swap (λ k. get_or xs k 0) (λ k. get_or ys k 0) i j
swap_at xs ys i j s = (s.0 0, s.1 0, λ k. s.2 k 0)

-- one place more
pub placed_more : (es : List Edge) (n : ℕ) (o o' : Order) (p q : ℕ) → o.tasks ≡ n → Ends es n → Ordered es o.place p → Next es n o p q → Swapped o p q o' → Ordered es o'.place (p + 1)
placed_more es n o o' p q all ends h next s = record {
  forward = λ e em z l. swapped_forward o.tasks p q _ _ _ _ (inverse o) (omega (arith, next.since, next.within)) (omega (arith, next.within))
      (swap_at o.list o'.list p q s.list) (swap_at o.place o'.place _ _ s.place)
      next.since (edge_at es e).from (edge_at es e).to (omega (arith, ends.to e em)) (h.forward e em z) (λ t. next.clear.all e em t z) l;
}

-- two chains, one after the other
leads_join : (es : List Edge) (u v w : ℕ) → Leads es u v → Leads es v w → Leads es u w
leads_join es u v w (last _ _ e f) m = more u v w e f m
leads_join es u v w (more _ x _ e f l) m = more u x w e f (leads_join es x v w l m)

-- Each place from p to k has a chain that leads to it from such a place.
abbrev Fed : List Edge → (ℕ → ℕ) → ℕ → ℕ → Type 0
Fed es O p k = (q : ℕ) → p ≤ q → q < k → (r : ℕ) × (p ≤ r) × (r < k) × Leads es (O r) (O q)

-- So some place is on a ring: the last one is, or the others do without it.
fed_ring : (es : List Edge) (O : ℕ → ℕ) (p k : ℕ) → p < k → Fed es O p k → (q : ℕ) × (q < k) × OnRing es (O q)
fed_ring es O p zero h f = absurd (omega arith)
fed_ring es O p (suc k) h f =
    let z = f k (omega arith) (omega arith) in
    elim (cases_lt z.0 k) [
      | inr over ↦
          let e : z.0 ≡ k = omega (arith, z.2) in
          (k, omega arith, subst (λ (x : ℕ). Leads es (O x) (O k)) e z.3)
      | inl under ↦
          let rest : Fed es O p k = λ q pq qk.
          let y = f q pq (omega arith) in
          elim (cases_lt y.0 k) [
            | inl below ↦ (y.0, y.1, below, y.3)
            | inr over ↦
                let e : y.0 ≡ k = omega (arith, y.2) in
                (z.0, z.1, under, leads_join es (O z.0) (O k) (O q) z.3 (subst (λ (x : ℕ). Leads es (O x) (O q)) e y.3))
          ] in
          let r = fed_ring es O p k (omega (arith, z.1)) rest in
          (r.0, omega (arith, r.1), r.2)
    ]

-- where each task from p on waits for one from p on
pub none_clear : (es : List Edge) (n : ℕ) (o : Order) (p : ℕ) → o.tasks ≡ n → Ends es n → p < n → ((q : ℕ) → p ≤ q → q < n → Waits es o.place p (get_or o.list q 0)) → SomeRing es n
none_clear es n o p all ends pn waits =
    let r = fed_ring es (λ k. get_or o.list k 0) p n pn fed in
    (get_or o.list r.0 0, omega (arith, o.listed r.0 (omega (arith, r.1))), r.2)
  where
    fed : Fed es (λ k. get_or o.list k 0) p n
    fed q pq qn =
        let w = waits q pq qn in
        let e : ℕ = w.0 in
        let a : ℕ = (edge_at es e).from in
        let an : a < o.tasks = omega (arith, ends.from e w.1.there) in (
          get_or o.place a 0,
          w.1.later,
          omega (arith, o.placed a an),
          last (get_or o.list (get_or o.place a 0) 0) (get_or o.list q 0) e (record { there = w.1.there; from = sym (o.found a an); to = w.1.into; none = w.1.none }),
        )
