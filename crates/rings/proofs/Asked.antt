-- What the search says of a net at cycle over parts.
use Rattle.std.proofs.Common.{◌≡◌, ℕ, zero, suc, ◌*◌, ◌^◌, ◌<◌, ◌≤◌, ◌≢◌, ◌⊎◌, inl, inr, refl, sym, ap, subst, ◌∙◌, List, [], ◌∷◌, map, length, take, vec_len, vec_items, get_or, ℤ, pos, ◌+ℤ◌, ◌-ℤ◌, ◌≤ℤ◌, mul-zero, mul-add, mul-le-mul, unsigned_abs, arith}
use Rattle.std.proofs.lemmas.List.{length-map, get_or-map, length-take-le, get_or-take}
use Rattle.std.proofs.lemmas.Bool.{cases_lt}
use Rattle.std.proofs.lemmas.Int.{ints}
use Rattle.servers.specs.Service.{Service}
use Rattle.flow.specs.Nets.{Net, net_of}
use Rattle.flow.specs.Rings.{edge, into, lead_and_pace_of, weight, tokens_on, Chain, end, on, Ring, Enough, Starts}
use Rattle.walks.specs.ArcNet.{ArcNet, Each, Way, along, Apart, Round, Settled, Least, Improves}
use Rattle.walks.specs.Arcs.{net, arc_at, no_arc, Sound}
use Rattle.walks.specs.declared.arcs.Arc.{Arc}
use Rattle.walks.proofs.Each.{each_at}
use Rattle.graph.specs.declared.graph.Graph.{Graph}
use Rattle.graph.specs.Edges.{edge_at}
use Rattle.rings.specs.Spans.{Told, Spans, arc_of}
use Rattle.rings.specs.AtRatios.{Above}

-- The arcs and bases of a net's edges and tasks at c over p.
pub record Asked (n : Net) (service : ℕ → Service) (c p : ℕ) (es : List Arc) (base : List ℤ) : Type 0 where
  pub arcs : length es ≡ n.edges
  pub tasks : length base ≡ n.tasks
  pub arc : (e : ℕ) → e < n.edges → arc_at es e ≡ record { from = n.from e; to = n.to e; lag = pos (p * lead_and_pace_of n service (n.to e)) -ℤ pos (c * n.tokens e) }
  pub based : (v : ℕ) → v < n.tasks → get_or base v (pos 0) ≡ pos (p * lead_and_pace_of n service v)

module _ (n : Net) (service : ℕ → Service) (c p : ℕ) (es : List Arc) (base : List ℤ) (asked : Asked n service c p es base) where
  abbrev N : ArcNet
  N = net es base

  in_edges : (e : ℕ) → e < N.arcs → e < n.edges
  in_edges e h = omega (arith, asked.arcs)

  in_arcs : (e : ℕ) → e < n.edges → e < N.arcs
  in_arcs e h = omega (arith, asked.arcs)

  in_tasks : (v : ℕ) → v < N.tasks → v < n.tasks
  in_tasks v h = omega (arith, asked.tasks)

  to_tasks : (v : ℕ) → v < n.tasks → v < N.tasks
  to_tasks v h = omega (arith, asked.tasks)

  from_is : (e : ℕ) → e < n.edges → N.from e ≡ n.from e
  from_is e h = ap (λ (a : Arc). a.from) (asked.arc e h)

  to_is : (e : ℕ) → e < n.edges → N.to e ≡ n.to e
  to_is e h = ap (λ (a : Arc). a.to) (asked.arc e h)

  lag_is : (e : ℕ) → e < n.edges → (arc_at es e).lag ≡ pos (p * lead_and_pace_of n service (n.to e)) -ℤ pos (c * n.tokens e)
  lag_is e h = ap (λ (a : Arc). a.lag) (asked.arc e h)

  -- Settled values are start figures, and back.
  module _ (x : ℕ → ℤ) (s : Settled N x) where
    whole : (v : ℕ) → v < n.tasks → pos (unsigned_abs (x v)) ≡ x v
    whole v h =
        let b : get_or base v (pos 0) ≤ℤ x v = s.based v (to_tasks v h) in
        let e : get_or base v (pos 0) ≡ pos (p * lead_and_pace_of n service v) = asked.based v h in
        let low : pos 0 ≤ℤ x v = omega (arith, ints) in
        abs_of (x v) low
      where
        abs_of : (z : ℤ) → pos 0 ≤ℤ z → pos (unsigned_abs z) ≡ z
        abs_of z l = grind (arith, ints)

    is_enough : ((e : ℕ) → e < n.edges → (n.from e < n.tasks) × (n.to e < n.tasks)) → Enough n service c p (λ v. unsigned_abs (x v))
    is_enough ends = record {
      own = λ v h.
          let b : get_or base v (pos 0) ≤ℤ x v = s.based v (to_tasks v h) in
          let e : get_or base v (pos 0) ≡ pos (p * lead_and_pace_of n service v) = asked.based v h in
          let w = whole v h in
          omega (arith, ints);
      edges = λ e h.
          let k : (x (n.from e) +ℤ (pos (p * lead_and_pace_of n service (n.to e)) -ℤ pos (c * n.tokens e))) ≤ℤ x (n.to e) =
          subst (λ (a : Arc). (x a.from +ℤ a.lag) ≤ℤ x a.to) (asked.arc e h) (s.keeps e (in_arcs e h)) in
          let a = whole (n.from e) (ends e h).0 in
          let b = whole (n.to e) (ends e h).1 in
          omega (arith, ints);
    }

  is_settled : (y : ℕ → ℕ) → Enough n service c p y → Settled N (λ v. pos (y v))
  is_settled y en = record {
    based = λ v h.
        let o = en.own v (in_tasks v h) in
        let e : get_or base v (pos 0) ≡ pos (p * lead_and_pace_of n service v) = asked.based v (in_tasks v h) in
        omega (arith, ints);
    keeps = λ e h.
        let o = en.edges e (in_edges e h) in
        subst (λ (a : Arc). (pos (y a.from) +ℤ a.lag) ≤ℤ pos (y a.to)) (sym (asked.arc e (in_edges e h))) (omega (arith, ints));
  }

  pub starts : ((e : ℕ) → e < n.edges → (n.from e < n.tasks) × (n.to e < n.tasks)) → (x : ℕ → ℤ) → Least N x → Starts n service c p (λ v. unsigned_abs (x v))
  starts ends x l = record {
    enough = is_enough x l.settled ends;
    least = λ y en v h.
        let o : x v ≤ℤ pos (y v) = l.least (λ u. pos (y u)) (is_settled y en) v (to_tasks v h) in
        let w = whole x l.settled v h in
        omega (arith, ints);
  }

  -- A way of arcs is a chain of edges.
  chain_of : (e : ℕ) (ds : List ℕ) (v : ℕ) → Way N (N.from e) (e ∷ ds) v → Chain n (n.from e) (map edge (e ∷ ds)) v
  chain_of e [] v (h, f, q) =
      let l = in_edges e h in
      subst (λ (k : ℕ). Chain n (n.from e) (edge e ∷ []) k) (sym (to_is e l) ∙ q) (end (edge e) l)
  chain_of e (d ∷ ds) v (h, f, (h', f', w)) =
      let l = in_edges e h in
      let l' = in_edges d h' in
      let meets : n.from d ≡ n.to e = sym (from_is d l') ∙ f' ∙ to_is e l in
      on (edge e) l (subst (λ (k : ℕ). Chain n k (map edge (d ∷ ds)) v) meets (chain_of d ds v (h', refl, w)))

  way_edges : (u : ℕ) (ds : List ℕ) (v : ℕ) → Way N u ds v → Each (λ e. e < n.edges) ds
  way_edges u [] v q = tt
  way_edges u (e ∷ ds) v (h, f, w) = (in_edges e h, way_edges (N.to e) ds v w)

  -- The arc after an arc sets out where that one leads to; the last one leads to the end.
  next_is : (u : ℕ) (ds : List ℕ) (v : ℕ) → Way N u ds v → (i : ℕ) → suc i < length ds → N.to (get_or ds i 0) ≡ N.from (get_or ds (suc i) 0)
  next_is u [] v w i h = absurd (omega arith)
  next_is u (e ∷ []) v w i h = absurd (omega arith)
  next_is u (e ∷ d ∷ ds) v (h', f, (h'', f', w)) zero h = sym f'
  next_is u (e ∷ d ∷ ds) v (h', f, w) (suc i) h = next_is (N.to e) (d ∷ ds) v w i (omega arith)

  last_is : (u : ℕ) (ds : List ℕ) (v : ℕ) → Way N u ds v → (i : ℕ) → suc i ≡ length ds → N.to (get_or ds i 0) ≡ v
  last_is u [] v w i h = absurd (omega arith)
  last_is u (e ∷ []) v (h', f, q) zero h = q
  last_is u (e ∷ []) v w (suc i) h = absurd (omega arith)
  last_is u (e ∷ d ∷ ds) v w zero h = absurd (omega arith)
  last_is u (e ∷ d ∷ ds) v (h', f, w) (suc i) h = last_is (N.to e) (d ∷ ds) v w i (omega arith)

  first_is : (u : ℕ) (ds : List ℕ) (v : ℕ) → Way N u ds v → 0 < length ds → N.from (get_or ds 0 0) ≡ u
  first_is u [] v w h = absurd (omega arith)
  first_is u (e ∷ ds) v (h', f, w) h = f

  apart_at : (ds : List ℕ) → Apart N.from ds → (i j : ℕ) → i < j → j < length ds → N.from (get_or ds i 0) ≢ N.from (get_or ds j 0)
  apart_at [] a i j l h = absurd (omega arith)
  apart_at (e ∷ ds) a i zero l h = absurd (omega arith)
  apart_at (e ∷ ds) (a, b) zero (suc j) l h = λ q. each_at (λ y. N.from y ≢ N.from e) ds j 0 (omega arith) a (sym q)
  apart_at (e ∷ ds) (a, b) (suc i) (suc j) l h = apart_at ds b i j (omega arith) (omega arith)

  tos_apart : (v : ℕ) (ds : List ℕ) → Way N v ds v → Apart N.from ds → (i j : ℕ) → i < j → j < length ds → N.to (get_or ds i 0) ≢ N.to (get_or ds j 0)
  tos_apart v ds w a i j l h q = go (cases_lt (suc j) (length ds))
    where
      go : (suc j < length ds) ⊎ (length ds ≤ suc j) → ⊥
      go (inl m) = apart_at ds a (suc i) (suc j) (omega arith) m (sym (next_is v ds v w i (omega arith)) ∙ q ∙ next_is v ds v w j m)
      go (inr m) =
          let end : suc j ≡ length ds = omega arith in
          apart_at ds a 0 (suc i) (omega arith) (omega arith) (first_is v ds v w (omega arith) ∙ sym (last_is v ds v w j end) ∙ sym q ∙ next_is v ds v w i (omega arith))

  into_at : (ds : List ℕ) → Each (λ e. e < n.edges) ds → (i : ℕ) → i < length ds → get_or (map (into n) (map edge ds)) i 0 ≡ N.to (get_or ds i 0)
  into_at ds a i h =
      get_or-map (into n) (map edge ds) i (edge 0) 0 (omega (arith, length-map ds edge)) ∙ ap (into n) (get_or-map edge ds i 0 (edge 0) h)
      ∙ sym (to_is (get_or ds i 0) (each_at (λ e. e < n.edges) ds i 0 h a))

  closed : (v : ℕ) (ds : List ℕ) → Round N v ds → (u : ℕ) × Chain n u (map edge ds) u
  closed v [] r = absurd (omega (arith, r.some))
  closed v (e ∷ ds) r =
      let l = in_edges e r.way.0 in
      let same : v ≡ n.from e = sym r.way.1 ∙ from_is e l in
      (n.from e, subst (λ (k : ℕ). Chain n (n.from e) (map edge (e ∷ ds)) k) same (chain_of e ds v (r.way.0, refl, r.way.2)))

  pub is_ring : (v : ℕ) (ds : List ℕ) → Round N v ds → Ring n (map edge ds)
  is_ring v ds r =
      let a = way_edges v ds v r.way in
      let c = closed v ds r in
      let len : length (map (into n) (map edge ds)) ≡ length ds = length-map (map edge ds) (into n) ∙ length-map ds edge in
      record {
        at = c.0;
        closed = c.1;
        once = λ i j l h q.
            let hj : j < length ds = omega (arith, length-map ds edge) in
            tos_apart v ds r.way r.apart i j l hj (sym (into_at ds a i (omega arith)) ∙ q ∙ into_at ds a j hj);
      }

  -- What a way makes of a value: it gains parts for each tick of its weight, and loses cycle for each token.
  made_of : (u : ℕ) (ds : List ℕ) (v : ℕ) → Way N u ds v → (z : ℤ) → along N ds z +ℤ pos (c * tokens_on n (map edge ds)) ≡ z +ℤ pos (p * weight n service (map edge ds))
  made_of u [] v q z =
      let a : p * 0 ≡ 0 = mul-zero p in
      let b : c * 0 ≡ 0 = mul-zero c in
      omega (arith, ints)
  made_of u (e ∷ ds) v (h, f, w) z =
      let on : ℤ = z +ℤ (arc_at es e).lag in
      let rest : along N ds on +ℤ pos (c * tokens_on n (map edge ds)) ≡ on +ℤ pos (p * weight n service (map edge ds)) = made_of (N.to e) ds v w on in
      let lag = lag_is e (in_edges e h) in
      let a = mul-add p (lead_and_pace_of n service (n.to e)) (weight n service (map edge ds)) in
      let b = mul-add c (n.tokens e) (tokens_on n (map edge ds)) in
      omega (arith, ints)

  pub is_above : (v : ℕ) (ds : List ℕ) → Improves N v ds → Above n service c p ds
  is_above v ds r = record {
    ring = is_ring v ds r.round;
    above = strict (along N ds r.value) r.value _ _ (made_of v ds v r.round.way r.value) r.better;
  }
    where
      strict : (a z : ℤ) (m k : ℕ) → a +ℤ pos m ≡ z +ℤ pos k → (a ≤ℤ z → ⊥) → m < k
      strict a z m k e not_upto = go (cases_lt m k)
        where
          go : (m < k) ⊎ (k ≤ m) → m < k
          go (inl l) = l
          go (inr l) = absurd (not_upto (omega (arith, ints)))

-- A search may be asked so.
pub sound_of : (n : Net) (service : ℕ → Service) (c p : ℕ) (es : List Arc) (base : List ℤ) → Asked n service c p es base → n.tasks ≤ 16 →
    ((e : ℕ) → e < n.edges → (n.from e < n.tasks) × (n.to e < n.tasks)) → ((v : ℕ) → v < n.tasks → lead_and_pace_of n service v ≤ 1000000000000) → p ≤ 4080 → Sound es base
sound_of n service c p es base asked few ends told parts = record {
  tasks = omega (arith, asked.tasks);
  ends = λ e h.
      let l : e < n.edges = omega (arith, asked.arcs) in (
        subst (λ (a : Arc). a.from < length base) (sym (asked.arc e l)) (omega (arith, asked.tasks, (ends e l).0)),
        subst (λ (a : Arc). a.to < length base) (sym (asked.arc e l)) (omega (arith, asked.tasks, (ends e l).1)),
      );
  bases = λ v h.
      let l : v < n.tasks = omega (arith, asked.tasks) in
      let f : p * lead_and_pace_of n service v ≤ 4080 * 1000000000000 = mul-le-mul parts (told v l) in
      subst (λ (z : ℤ). (pos 0 ≤ℤ z) × (z ≤ℤ pos (2 ^ 52))) (sym (asked.based v l)) (omega (arith, ints), omega (arith, ints));
  lags = λ e h.
      let l : e < n.edges = omega (arith, asked.arcs) in
      let f : p * lead_and_pace_of n service (n.to e) ≤ 4080 * 1000000000000 = mul-le-mul parts (told (n.to e) (ends e l).1) in
      subst (λ (a : Arc). a.lag ≤ℤ pos (2 ^ 52)) (sym (asked.arc e l)) (omega (arith, ints));
}

-- A graph's arcs and bases, at the front of what has room for more.
pub asked_of : (g : Graph) (service : ℕ → Service) (spans : List ℕ) (c p : ℕ) (es : List Arc) (base : List ℤ) → Spans g service spans →
    length es ≡ 48 → length base ≡ 16 → ((e : ℕ) → e < vec_len g.edges → arc_at es e ≡ arc_of spans c p (edge_at (vec_items g.edges) e)) →
    ((v : ℕ) → v < vec_len g.tasks → get_or base v (pos 0) ≡ pos (p * get_or spans v 0)) → Asked (net_of g) service c p (take (vec_len g.edges) es) (take (vec_len g.tasks) base)
asked_of g service spans c p es base are all all' arcs bases = record {
  arcs = length-take-le (vec_len g.edges) es (omega (arith, g.counts.sparse, g.edges.ok.0));
  tasks = length-take-le (vec_len g.tasks) base (omega (arith, g.counts.few, g.tasks.ok.0));
  arc = λ e h.
      let to : (edge_at (vec_items g.edges) e).to < vec_len g.tasks = g.ends.to e (omega (arith, g.edges.ok.0)) in
      get_or-take (vec_len g.edges) es e no_arc h ∙ arcs e h ∙ ap (λ (s : ℕ). arc_with g c p e s) (are _ to);
  based = λ v h. get_or-take (vec_len g.tasks) base v (pos 0) h ∙ bases v h ∙ ap (λ (s : ℕ). pos (p * s)) (are v h);
}
  where
    arc_with : Graph → ℕ → ℕ → ℕ → ℕ → Arc
    arc_with g c p e s = record { from = (net_of g).from e; to = (net_of g).to e; lag = pos (p * s) -ℤ pos (c * (net_of g).tokens e) }

-- The ends of a graph's edges are tasks.
pub graph_ends : (g : Graph) (e : ℕ) → e < (net_of g).edges → ((net_of g).from e < (net_of g).tasks) × ((net_of g).to e < (net_of g).tasks)
graph_ends g e h = (g.ends.from e (omega (arith, g.edges.ok.0)), g.ends.to e (omega (arith, g.edges.ok.0)))

-- Some service with these spans: whether a search may be asked hangs on them alone.
abbrev pub by_spans : List ℕ → ℕ → Service
by_spans spans v = record { wait = λ n. 0; worst = λ n. 0; lead = get_or spans v 0; pace = λ n. 0 }

pub sound_by : (g : Graph) (spans : List ℕ) (c p : ℕ) (es : List Arc) (base : List ℤ) → Told g spans → p ≤ 4080 →
    length es ≡ 48 → length base ≡ 16 → ((e : ℕ) → e < vec_len g.edges → arc_at es e ≡ arc_of spans c p (edge_at (vec_items g.edges) e)) →
    ((v : ℕ) → v < vec_len g.tasks → get_or base v (pos 0) ≡ pos (p * get_or spans v 0)) → Sound (take (vec_len g.edges) es) (take (vec_len g.tasks) base)
sound_by g spans c p es base told parts all all' arcs bases =
    sound_of (net_of g) (by_spans spans) c p _ _ (asked_of g (by_spans spans) spans c p es base (λ v h. omega arith) all all' arcs bases)
    (omega (arith, g.counts.few, g.tasks.ok.0)) (graph_ends g) (λ v h. omega (arith, told v h)) parts

-- Start figures are told by their values at the tasks.
pub starts_like : (n : Net) (service : ℕ → Service) (c p : ℕ) → ((e : ℕ) → e < n.edges → (n.from e < n.tasks) × (n.to e < n.tasks)) → (x y : ℕ → ℕ) →
    ((v : ℕ) → v < n.tasks → y v ≡ x v) → Starts n service c p x → Starts n service c p y
starts_like n service c p ends x y same s = record {
  enough = record {
    own = λ v h. omega (arith, same v h, s.enough.own v h);
    edges = λ e h. omega (arith, same (n.from e) (ends e h).0, same (n.to e) (ends e h).1, s.enough.edges e h);
  };
  least = λ o en v h. omega (arith, same v h, s.least o en v h);
}
