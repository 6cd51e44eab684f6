-- Firings keep pace with the arrivals.
use Rattle.std.proofs.Common.{◌≡◌, ℕ, ◌+◌, ◌-◌, ◌*◌, ◌<◌, ◌≤◌, Bool, true, ◌⊎◌, [], ◌∷◌, sym, ap, ◌∙◌, subst, inl, inr, mul_assoc, mul_comm, add-mul, mul-le-mul_left, mul-add, arith}
use native.Mathlib.Nat.{le_of_mul-le-mul_left}
use Rattle.servers.specs.Service.{Service, Laws}
use Rattle.flow.specs.Nets.{Net, Sound, Arrivals}
use Rattle.flow.specs.Finish.{Feeds, Finish, finish, by_worst}
use Rattle.flow.proofs.Exists.{has_bound}
use Rattle.flow.proofs.FinishRule.{paces}
use Rattle.flow.proofs.RingFigures.{link_ring}
use Rattle.runs.specs.Runs.{clock_of, arrivals_of}
use Rattle.flow.specs.Rings.{link, pace_of, lead_and_pace_of, Cycle, Enough}
use Rattle.runs.specs.Claims.{Paced}
use Rattle.runs.proofs.Forget.{Shows, on_time, run_stays}

-- what a link is worth: parts * pace ≤ cycle
link_paced : (g : Net) (p : ℕ → Service) (cycle parts : ℕ) → Cycle g p cycle parts → (v : ℕ) → v < g.tasks → parts * pace_of g p v ≤ cycle
link_paced g p cycle parts figures v h =
    let w = figures.largest (link v ∷ []) (link_ring g v h) in
    omega (arith, mul-add parts (pace_of g p v) 0)

-- parts times the worst wait of n + 1 firings
worst_paced : (p : Service) → Laws p → (cycle parts t n : ℕ) → parts * p.pace t ≤ cycle → parts * p.worst ((n + 1) * t) ≤ parts * (p.lead + p.pace t) + n * cycle
worst_paced p l cycle parts t n h =
    let a : p.worst ((n + 1) * t) ≤ p.lead + (n + 1) * p.pace t = omega (arith, l.worst_most ((n + 1) * t), paces p l t (n + 1)) in
    let b : parts * p.worst ((n + 1) * t) ≤ parts * (p.lead + (n + 1) * p.pace t) = mul-le-mul_left parts a in
    let c : (p.lead + (n + 1) * p.pace t) ≡ (p.lead + p.pace t) + n * p.pace t = omega arith in
    let d : parts * (p.lead + (n + 1) * p.pace t) ≡ parts * (p.lead + p.pace t) + parts * (n * p.pace t) = ap (λ k. parts * k) c ∙ mul-add parts (p.lead + p.pace t) (n * p.pace t) in
    let e : parts * (n * p.pace t) ≡ n * (parts * p.pace t) = sym (mul_assoc parts n (p.pace t)) ∙ ap (λ k. k * p.pace t) (mul_comm parts n) ∙ mul_assoc n parts (p.pace t) in
    let f : n * (parts * p.pace t) ≤ n * cycle = mul-le-mul_left n h in
    omega arith

module _ (g : Net) (sound : Sound g) (p : ℕ → Service) (laws : (v : ℕ) → v < g.tasks → Laws (p v)) (cycle parts : ℕ) (start : ℕ → ℕ) (figures : Cycle g p cycle parts) (enough : Enough g p cycle parts start)
    (α : Arrivals) (i : ℕ) (came : (u k : ℕ) → u < g.tasks → g.inlet u ≡ true → k ≤ i → (k < α.count u) × (parts * α.stamp u k ≤ k * cycle)) where
  -- the bound keeps pace
  keeps : {v j t : ℕ} → Finish g α (by_worst g p) v j t → v < g.tasks → j ≤ i → parts * t ≤ start v + j * cycle
  keeps {v} {j} {t} (finish a f ds rs m) h ji =
      let k : ℕ = m.met.0 in
      let kj : k ≤ j = m.met.1 in
      let w = worst_paced (p v) (laws v h) cycle parts (g.time v) (j - k) (link_paced g p cycle parts figures v h) in
      let e : parts * t ≡ parts * a k + parts * (p v).worst ((j - k + 1) * g.time v) = ap (λ n. parts * n) m.met.2 ∙ mul-add parts (a k) ((p v).worst ((j - k + 1) * g.time v)) in
      let c : j * cycle ≡ k * cycle + (j - k) * cycle = ap (λ n. n * cycle) (let q : j ≡ k + (j - k) = omega arith in q) ∙ add-mul k (j - k) cycle in
      let r : parts * a k + parts * lead_and_pace_of g p v ≤ start v + k * cycle = ready k kj (rs k kj).met (λ e fe. keeps (ds k kj e fe) (sound.from_task e fe.edge) (omega arith)) in
      omega arith
    where
      ready : (k : ℕ) → k ≤ j → ((a k ≡ 0) ⊎ ((g.inlet v ≡ true) × (a k ≡ α.stamp v k)) ⊎ ((e : ℕ) × Feeds g v k e × (a k ≡ f k e))) → ((e : ℕ) → Feeds g v k e → parts * f k e ≤ start (g.from e) + (k - g.tokens e) * cycle) → parts * a k + parts * lead_and_pace_of g p v ≤ start v + k * cycle
      ready k kj (inl q) fed = omega (arith, ap (λ n. parts * n) q, enough.own v h)
      ready k kj (inr (inl (q, r))) fed = omega (arith, ap (λ n. parts * n) r, (came v k h q (omega arith)).1, enough.own v h)
      ready k kj (inr (inr (e, fe, r))) fed =
          let past : g.tokens e ≤ k = fe.past in
          let old : parts * f k e ≤ start (g.from e) + (k - g.tokens e) * cycle = fed e fe in
          let c : k * cycle ≡ g.tokens e * cycle + (k - g.tokens e) * cycle = ap (λ n. n * cycle) (let q : k ≡ g.tokens e + (k - g.tokens e) = omega arith in q) ∙ add-mul (g.tokens e) (k - g.tokens e) cycle in
          let d : start (g.from e) + parts * lead_and_pace_of g p v ≤ start v + cycle * g.tokens e = subst (λ (u : ℕ). start (g.from e) + parts * lead_and_pace_of g p u ≤ start u + cycle * g.tokens e) fe.into (enough.edges e fe.edge) in
          omega (arith, ap (λ n. parts * n) r, mul_comm cycle (g.tokens e))

  pub exists : (v : ℕ) → v < g.tasks → (t : ℕ) × Finish g α (by_worst g p) v i t × (parts * t ≤ start v + i * cycle)
  exists v h =
      let b = has_bound g sound α (by_worst g p) v i h (λ u hu q. (came u i hu q (omega arith)).0) in
      (b.0, b.1, keeps b.1 h (omega arith))

module _ {R : Type 0} (places : R → ℕ) (service : R → ℕ → Service) (steps : R → ℕ → Bool → Bool → R → Type 0) (shows : Shows places service steps) where
  pub paced : Paced places service steps
  paced g sound first fits slots said a x run cycle parts start figures starts v i h came late =
      let few : g.tasks ≤ places a = omega (arith, run_stays places service steps shows g first slots fits run) in
      let b = exists g sound (service a) (λ u hu. shows.keeps a u (omega arith)) cycle parts start figures starts.enough (arrivals_of said) i came v h in
      let now : parts * b.0 ≤ parts * clock_of said = omega (arith, b.2) in
      let done = on_time places service steps shows g sound first fits slots said a x run v i b.0 h b.1 (le_of_mul-le-mul_left now figures.some) in
      (done.0, done.1, omega (arith, mul-le-mul_left parts done.2, b.2), done.3)
