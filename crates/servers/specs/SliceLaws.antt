-- A fixed slice keeps the laws of a service, and a tick brings its grants sooner.
use Rattle.std.specs.Prelude.{◌≡◌, ℕ, ◌+◌, ◌-◌, ◌*◌, ◌<◌, ◌≤◌, Bool, true, false, cond, ◌⊎◌, ◌==◌, nat_lt, refl}
use Rattle.std.proofs.Common.{sym, ap, ◌∙◌, inl, inr, ⊎_elim, mul_comm, mul-add, add-mul, mul_assoc, mul-le-mul_left, mul-zero, zero-mul, mul-one, arith, ltb-true, ltb-false, lt-ltb, le-ltb}
use Rattle.std.proofs.lemmas.Bool.{cases_lt, cond-true, cond-false, ne_eqb}
use Rattle.servers.specs.Service.{Laws, Sooner, Ticks}
use Rattle.servers.specs.Slices.{up, fresh, wait_at, worst_of, pace_of}
use Rattle.servers.specs.FixedService.{slice_service, fixed_service, Moves}
use Rattle.servers.specs.declared.fixed.Fixed.{Fixed}
use Rattle.servers.specs.Rounding.{up_near, up_least, up_from, up_rises, up_adds, up_some, up_none, up_more}

module _ (p s at : ℕ) where
  pub wait_soon : (n : ℕ) → n ≤ s - at → wait_at p s at n ≡ n
  wait_soon n h =
      ⊎_elim
      (λ k.
      cond-false (n == 0) 0 (cond (nat_lt (s - at) n) ((p - at) + fresh p s (n - (s - at))) n) (ne_eqb n 0 (λ e. omega arith))
      ∙ cond-false (nat_lt (s - at) n) ((p - at) + fresh p s (n - (s - at))) n (le-ltb (s - at) n h))
      (λ k. let z : n ≡ 0 = omega arith in rw z refl)
      (cases_lt 0 n)

  pub wait_late : (n : ℕ) → s - at < n → wait_at p s at n ≡ (p - at) + fresh p s (n - (s - at))
  wait_late n h =
      cond-false (n == 0) 0 (cond (nat_lt (s - at) n) ((p - at) + fresh p s (n - (s - at))) n) (ne_eqb n 0 (λ e. omega arith))
      ∙ cond-true (nat_lt (s - at) n) ((p - at) + fresh p s (n - (s - at))) n (lt-ltb (s - at) n h)

module _ (p s : ℕ) (some : 0 < s) (fits : s ≤ p) where
  fresh_least : (n : ℕ) → n ≤ fresh p s n
  fresh_least n = omega arith

  fresh_rises : (m n : ℕ) → m ≤ n → fresh p s m ≤ fresh p s n
  fresh_rises m n h =
      let u = up_rises s some m n h in
      let q = mul-le-mul_left {m = up m s - 1} {n = up n s - 1} (p - s) (omega arith) in
      omega arith

  -- a period's gap, and the waits after it
  pub fresh_gap : (n : ℕ) → 0 < n → (p - s) + fresh p s n ≡ worst_of p s n
  fresh_gap n h =
      let u = up_some s some n h in
      let e : up n s ≡ 1 + (up n s - 1) = omega arith in
      let q : (p - s) * up n s ≡ (p - s) * 1 + (p - s) * (up n s - 1) = ap (λ k. (p - s) * k) e ∙ mul-add (p - s) 1 (up n s - 1) in
      omega (arith, mul-one (p - s))

  pub worst_rises : (m n : ℕ) → m ≤ n → worst_of p s m ≤ worst_of p s n
  worst_rises m n h =
      let q = mul-le-mul_left (p - s) (up_rises s some m n h) in
      omega arith

  module _ (at : ℕ) (passed : at < p) where
    pub wait_least : (n : ℕ) → n ≤ wait_at p s at n
    wait_least n =
        ⊎_elim
        (λ h. rw (wait_late p s at n h) (omega arith))
        (λ h. rw (wait_soon p s at n h) (omega arith))
        (cases_lt (s - at) n)

    pub wait_rises : (m n : ℕ) → m ≤ n → wait_at p s at m ≤ wait_at p s at n
    wait_rises m n h =
        ⊎_elim
        (λ k. omega (arith, wait_late p s at m k, wait_late p s at n (omega arith), fresh_rises (m - (s - at)) (n - (s - at)) (omega arith)))
        (λ k. rw (wait_soon p s at m k) (omega (arith, wait_least n)))
        (cases_lt (s - at) m)

    pub wait_most : (n : ℕ) → wait_at p s at n ≤ worst_of p s n
    wait_most n =
        ⊎_elim
        (λ h.
        let w = worst_rises (n - (s - at)) n (omega arith) in
        let g = fresh_gap (n - (s - at)) (omega arith) in
        let q = mul-le-mul_left (p - s) (up_rises s some (n - (s - at)) n (omega arith)) in
        omega (arith, wait_late p s at n h))
        (λ h. omega (arith, wait_soon p s at n h))
        (cases_lt (s - at) n)

  pub worst_none : worst_of p s 0 ≡ 0
  worst_none = omega (arith, ap (λ k. (p - s) * k) (up_none s some), mul-zero (p - s))

  gap_times : (n : ℕ) → n * p ≡ n * s + n * (p - s)
  gap_times n = ap (λ k. n * k) (let e : p ≡ s + (p - s) = omega arith in e) ∙ mul-add n s (p - s)

  pub pace_least : (n : ℕ) → n ≤ pace_of p s n
  pace_least n = up_from s some (n * p) n (omega (arith, mul_comm s n, gap_times n))

  pub pace_rises : (m n : ℕ) → m ≤ n → pace_of p s m ≤ pace_of p s n
  pace_rises m n h = up_rises s some (m * p) (n * p) (omega (arith, mul-le-mul_left p h, mul_comm m p, mul_comm n p))

  pub pace_adds : (m n : ℕ) → pace_of p s (m + n) ≤ pace_of p s m + pace_of p s n
  pace_adds m n = rw (add-mul m n p) (up_adds s some (m * p) (n * p))

  pub pace_none : pace_of p s 0 ≡ 0
  pace_none = let h = up_least s some (0 * p) 0 (omega arith) in omega arith

  -- fresh is at most the pace
  fresh_paced : (n : ℕ) → fresh p s n ≤ pace_of p s n
  fresh_paced n =
      let d : ℕ = p - s in
      let k : ℕ = up n s - 1 in
      let near : s * k ≤ n = ⊎_elim
      (λ h. omega (arith, up_near s some n, ap (λ j. s * j) (let z : up n s ≡ k + 1 = omega arith in z), mul-add s k 1, mul-one s))
      (λ h. omega (arith, ap (λ j. s * j) (let z : k ≡ 0 = omega arith in z), mul-zero s))
      (cases_lt 0 (up n s)) in
      let times : d * (s * k) ≤ d * n = mul-le-mul_left d near in
      let regroup : s * (d * k) ≡ d * (s * k) = sym (mul_assoc s d k) ∙ ap (λ j. j * k) (mul_comm s d) ∙ mul_assoc d s k in
      up_from s some (n * p) (n + d * k) (omega (arith, mul-add s n (d * k), mul_comm s n, gap_times n, mul_comm n d))

  pub worst_most : (n : ℕ) → worst_of p s n ≤ (p - s) + pace_of p s n
  worst_most n =
      ⊎_elim
      (λ h. omega (arith, fresh_gap n h, fresh_paced n))
      (λ h. omega (arith, worst_none, worst_rises n 0 h))
      (cases_lt 0 n)

  pub slice_laws : (at : ℕ) → at < p → Laws (slice_service p s at)
  slice_laws at passed = record {
    wait_none = refl;
    wait_least = wait_least at passed;
    wait_rises = wait_rises at passed;
    wait_most = wait_most at passed;
    worst_none = worst_none;
    worst_rises = worst_rises;
    worst_most = worst_most;
    pace_none = pace_none;
    pace_least = pace_least;
    pace_rises = pace_rises;
    pace_adds = pace_adds;
  }

  -- where the slice is the period, there is nothing to wait for
  pub wait_whole : s ≡ p → (at : ℕ) → at < p → (n : ℕ) → wait_at p s at n ≡ n
  wait_whole e at passed n =
      let d : p - s ≡ 0 = omega arith in
      let z : (p - s) * up n s ≡ 0 = ap (λ k. k * up n s) d ∙ zero-mul (up n s) in
      omega (arith, wait_least at passed n, wait_most at passed n)

  -- how a position moves on
  module _ (at next : ℕ) (passed : at < p) (moves : ((at + 1 < p) × (next ≡ at + 1)) ⊎ ((p ≤ at + 1) × (next ≡ 0))) where
    -- a granted tick takes just one grant and one tick off the wait
    pub granted_next : at < s → (n : ℕ) → wait_at p s at (n + 1) ≡ wait_at p s next n + 1
    granted_next within n =
        ⊎_elim
        (λ m.
        let e = ap (λ k. wait_at p s k n) m.1 in
        ⊎_elim
        (λ h.
        let i : n + 1 - (s - at) ≡ n - (s - (at + 1)) = omega arith in
        omega (arith, wait_late p s (at + 1) n h, wait_late p s at (n + 1) (omega arith), ap (fresh p s) i))
        (λ h. omega (arith, wait_soon p s (at + 1) n h, wait_soon p s at (n + 1) (omega arith)))
        (cases_lt (s - (at + 1)) n))
        (λ m.
        let e = ap (λ k. wait_at p s k n) m.1 in
        omega (arith, wait_whole (omega arith) 0 (omega arith) n, wait_whole (omega arith) at passed (n + 1)))
        moves

    -- another tick takes just one tick off it
    pub passed_next : s ≤ at → (n : ℕ) → 0 < n → wait_at p s at n ≡ wait_at p s next n + 1
    passed_next over n some_n =
        let old = wait_late p s at n (omega arith) in
        let i = ap (fresh p s) (let i : n - (s - at) ≡ n = omega arith in i) in
        ⊎_elim
        (λ m.
        let e = ap (λ k. wait_at p s k n) m.1 in
        let j = ap (fresh p s) (let j : n - (s - (at + 1)) ≡ n = omega arith in j) in
        omega (arith, wait_late p s (at + 1) n (omega arith)))
        (λ m.
        let e = ap (λ k. wait_at p s k n) m.1 in
        ⊎_elim
        (λ h.
        let j = ap (fresh p s) (let j : n - (s - 0) ≡ n - s = omega arith in j) in
        let more = ap (λ k. up k s) (let k : n ≡ n - s + s = omega arith in k) ∙ up_more s some (n - s) in
        let q : (p - s) * (up n s - 1) ≡ (p - s) * up (n - s) s = ap (λ k. (p - s) * k) (let k : up n s - 1 ≡ up (n - s) s = omega arith in k) in
        omega (arith, wait_late p s 0 n h, fresh_gap (n - s) (omega arith)))
        (λ h.
        let u = up_least s some n 1 (omega (arith, mul-one s)) in
        let z : (p - s) * (up n s - 1) ≡ 0 = ap (λ k. (p - s) * k) (let k : up n s - 1 ≡ 0 = omega arith in k) ∙ mul-zero (p - s) in
        omega (arith, wait_soon p s 0 n h))
        (cases_lt (s - 0) n))
        moves

    slice_sooner : (g : Bool) → nat_lt at s ≡ g → Sooner g (wait_at p s at) (wait_at p s next)
    slice_sooner true e = λ n. omega (arith, granted_next (ltb-true at s e) n)
    slice_sooner false e = λ n h. omega (arith, passed_next (ltb-false at s e) n h)

    pub slice_ticks : Ticks (slice_service p s at) (nat_lt at s) (slice_service p s next)
    slice_ticks = record { sooner = slice_sooner (nat_lt at s) refl; same_worst = λ n. refl; same_lead = refl; same_pace = λ n. refl }

pub fixed_laws : (f : Fixed) → Laws (fixed_service f)
fixed_laws f = slice_laws f.slice.period f.slice.ticks f.slice.some f.slice.within f.position f.passed

pub moved_on : (at p next : ℕ) → next ≡ cond (nat_lt (at + 1) p) (at + 1) 0 → ((at + 1 < p) × (next ≡ at + 1)) ⊎ ((p ≤ at + 1) × (next ≡ 0))
moved_on at p next e =
    ⊎_elim
    (λ h. inl (h, e ∙ ap (λ t. cond t (at + 1) 0) (lt-ltb (at + 1) p h)))
    (λ h. inr (h, e ∙ ap (λ t. cond t (at + 1) 0) (le-ltb (at + 1) p h)))
    (cases_lt (at + 1) p)

pub fixed_moves : (a b : Fixed) (c g : Bool) → Moves a c g b → Ticks (fixed_service a) g (fixed_service b)
fixed_moves a b c g m =
    rw (m.same_period, m.same_slice, m.says)
    (slice_ticks a.slice.period a.slice.ticks a.slice.some a.slice.within a.position b.position a.passed
    (moved_on a.position a.slice.period b.position m.goes))
