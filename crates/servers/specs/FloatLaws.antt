-- A floating slice keeps the laws of a service, and a tick brings its grants sooner.
use Rattle.std.specs.Prelude.{◌≡◌, ℕ, ◌+◌, ◌-◌, ◌*◌, ◌<◌, ◌≤◌, Bool, true, false, cond, not, ◌&&◌, ◌||◌, ◌⊎◌, ◌==◌, ◌≢◌, nat_lt, refl}
use Rattle.std.proofs.Common.{sym, ap, ◌∙◌, inl, inr, ⊎_elim, mul-add, mul-le-mul_left, mul-one, arith, lt-ltb, le-ltb, ltb-true, eq-eqb}
use Rattle.std.proofs.lemmas.Bool.{cases_lt, cond-true, cond-false, ne_eqb, false≢true}
use Rattle.servers.specs.Service.{Laws, Sooner, Ticks}
use Rattle.servers.specs.Slices.{up, worst_of, pace_of}
use Rattle.servers.specs.FloatService.{float_wait, float_worst, float_at, float_service, Floats}
use Rattle.servers.specs.declared.float.Float.{Float}
use Rattle.servers.specs.Rounding.{up_rises, up_some, up_more, up_least}
use Rattle.servers.specs.SliceLaws.{worst_rises, worst_none, worst_most, pace_none, pace_least, pace_rises, pace_adds}

module _ (p s t g : ℕ) where
  float_none : float_wait p s t g 0 ≡ 0
  float_none = refl

  float_soon : (n : ℕ) → 0 < n → n ≤ s - g → float_wait p s t g n ≡ ((p - t) - (s - g)) + n
  float_soon n some h =
      cond-false (n == 0) 0 (cond (nat_lt (s - g) n) ((p - t) + worst_of p s (n - (s - g))) (((p - t) - (s - g)) + n)) (ne_eqb n 0 (λ e. omega arith))
      ∙ cond-false (nat_lt (s - g) n) ((p - t) + worst_of p s (n - (s - g))) (((p - t) - (s - g)) + n) (le-ltb (s - g) n h)

  float_late : (n : ℕ) → s - g < n → float_wait p s t g n ≡ (p - t) + worst_of p s (n - (s - g))
  float_late n h =
      cond-false (n == 0) 0 (cond (nat_lt (s - g) n) ((p - t) + worst_of p s (n - (s - g))) (((p - t) - (s - g)) + n)) (ne_eqb n 0 (λ e. omega arith))
      ∙ cond-true (nat_lt (s - g) n) ((p - t) + worst_of p s (n - (s - g))) (((p - t) - (s - g)) + n) (lt-ltb (s - g) n h)

worst_some : (p s n : ℕ) → 0 < n → float_worst p s n ≡ worst_of p s n + (p - s)
worst_some p s n h = cond-false (n == 0) 0 (worst_of p s n + (p - s)) (ne_eqb n 0 (λ e. omega arith))

module _ (p s : ℕ) (some : 0 < s) (fits : s ≤ p) where
  float_worst_rises : (m n : ℕ) → m ≤ n → float_worst p s m ≤ float_worst p s n
  float_worst_rises m n h =
      ⊎_elim
      (λ k. omega (arith, worst_some p s m k, worst_some p s n (omega arith), worst_rises p s some fits m n h))
      (λ (k : m ≤ 0). let z : m ≡ 0 = omega arith in rw z (omega arith))
      (cases_lt 0 m)

  float_worst_most : (n : ℕ) → float_worst p s n ≤ 2 * (p - s) + pace_of p s n
  float_worst_most n =
      ⊎_elim
      (λ k. omega (arith, worst_some p s n k, worst_most p s some fits n))
      (λ (k : n ≤ 0). let z : n ≡ 0 = omega arith in rw z (omega arith))
      (cases_lt 0 n)

  worst_over : (n : ℕ) → n ≤ worst_of p s n
  worst_over n = omega arith

  module _ (t g : ℕ) (going : t < p) (most : g ≤ s) (each : g ≤ t) (room : s + t ≤ p + g) where
    float_least : (n : ℕ) → n ≤ float_wait p s t g n
    float_least n =
        ⊎_elim
        (λ h. omega (arith, float_late p s t g n h))
        (λ h. ⊎_elim
        (λ k. omega (arith, float_soon p s t g n k h))
        (λ z. omega arith)
        (cases_lt 0 n))
        (cases_lt (s - g) n)

    float_rises : (m n : ℕ) → m ≤ n → float_wait p s t g m ≤ float_wait p s t g n
    float_rises m n h =
        ⊎_elim
        (λ some_m.
        ⊎_elim
        (λ i. omega (arith, float_late p s t g m i, float_late p s t g n (omega arith), worst_rises p s some fits (m - (s - g)) (n - (s - g)) (omega arith)))
        (λ i. ⊎_elim
        (λ j. omega (arith, float_soon p s t g m some_m i, float_late p s t g n j))
        (λ j. omega (arith, float_soon p s t g m some_m i, float_soon p s t g n (omega arith) j))
        (cases_lt (s - g) n))
        (cases_lt (s - g) m))
        (λ (z : m ≤ 0). let e : m ≡ 0 = omega arith in rw e (omega arith))
        (cases_lt 0 m)

    float_most : (n : ℕ) → float_wait p s t g n ≤ float_worst p s n
    float_most n =
        ⊎_elim
        (λ k.
        let w = worst_some p s n k in
        ⊎_elim
        (λ h.
        let q = mul-le-mul_left (p - s) (up_rises s some (n - (s - g)) n (omega arith)) in
        omega (arith, float_late p s t g n h))
        (λ h. omega (arith, float_soon p s t g n k h))
        (cases_lt (s - g) n))
        (λ (z : n ≤ 0). let e : n ≡ 0 = omega arith in rw e (omega arith))
        (cases_lt 0 n)

    pub float_at_laws : Laws (float_at p s t g)
    float_at_laws = record {
      wait_none = refl;
      wait_least = float_least;
      wait_rises = float_rises;
      wait_most = float_most;
      worst_none = refl;
      worst_rises = float_worst_rises;
      worst_most = float_worst_most;
      pace_none = pace_none p s some fits;
      pace_least = pace_least p s some fits;
      pace_rises = pace_rises p s some fits;
      pace_adds = pace_adds p s some fits;
    }

  -- From a period's start the waits are the slice's worst.
  float_fresh : (n : ℕ) → float_wait p s 0 0 n ≡ worst_of p s n
  float_fresh n =
      ⊎_elim
      (λ k.
      ⊎_elim
      (λ h.
      let i = ap (λ u. worst_of p s u) (let i : n - (s - 0) ≡ n - s = omega arith in i) in
      let more = ap (λ u. up u s) (let i : n ≡ n - s + s = omega arith in i) ∙ up_more s some (n - s) in
      let q : (p - s) * up n s ≡ (p - s) * up (n - s) s + (p - s) * 1 = ap (λ u. (p - s) * u) more ∙ mul-add (p - s) (up (n - s) s) 1 in
      omega (arith, float_late p s 0 0 n h, mul-one (p - s)))
      (λ h.
      let lo = up_some s some n k in
      let hi = up_least s some n 1 (omega (arith, mul-one s)) in
      let q : (p - s) * up n s ≡ p - s = ap (λ u. (p - s) * u) (let u : up n s ≡ 1 = omega arith in u) ∙ mul-one (p - s) in
      omega (arith, float_soon p s 0 0 n k h))
      (cases_lt (s - 0) n))
      (λ (z : n ≤ 0). let e : n ≡ 0 = omega arith in rw e (sym (worst_none p s some fits)))
      (cases_lt 0 n)

  module _ (t g t' g' : ℕ) (going : t < p) (most : g ≤ s) (room : s + t ≤ p + g) where
    granted_sooner : g < s → ((t + 1 < p) × (t' ≡ t + 1) × (g' ≡ g + 1)) ⊎ ((p ≤ t + 1) × (t' ≡ 0) × (g' ≡ 0)) → (n : ℕ) → float_wait p s t' g' n + 1 ≤ float_wait p s t g (n + 1)
    granted_sooner owed moves n =
        ⊎_elim
        (λ m.
        let e = ap (λ x. float_wait p s x g' n) m.1 ∙ ap (λ x. float_wait p s (t + 1) x n) m.2 in
        ⊎_elim
        (λ k.
        ⊎_elim
        (λ h.
        let i = ap (worst_of p s) (let i : n + 1 - (s - g) ≡ n - (s - (g + 1)) = omega arith in i) in
        omega (arith, float_late p s (t + 1) (g + 1) n h, float_late p s t g (n + 1) (omega arith)))
        (λ h. omega (arith, float_soon p s (t + 1) (g + 1) n k h, float_soon p s t g (n + 1) (omega arith) (omega arith)))
        (cases_lt (s - (g + 1)) n))
        (λ z.
        let w = ap (float_wait p s (t + 1) (g + 1)) (let z : n ≡ 0 = omega arith in z) in
        ⊎_elim
        (λ h. omega (arith, float_late p s t g (n + 1) h))
        (λ h. omega (arith, float_soon p s t g (n + 1) (omega arith) h))
        (cases_lt (s - g) (n + 1)))
        (cases_lt 0 n))
        (λ m.
        let e = ap (λ x. float_wait p s x g' n) m.1 ∙ ap (λ x. float_wait p s 0 x n) m.2 in
        ⊎_elim
        (λ k.
        let i = ap (worst_of p s) (let i : n + 1 - (s - g) ≡ n = omega arith in i) in
        omega (arith, float_fresh n, float_late p s t g (n + 1) (omega arith)))
        (λ z.
        let w = ap (float_wait p s 0 0) (let z : n ≡ 0 = omega arith in z) in
        omega (arith, float_soon p s t g (n + 1) (omega arith) (omega arith)))
        (cases_lt 0 n))
        moves

    passed_sooner : (s ≤ g) ⊎ (s - g ≢ p - t) → ((t + 1 < p) × (t' ≡ t + 1) × (g' ≡ g)) ⊎ ((p ≤ t + 1) × (t' ≡ 0) × (g' ≡ 0)) → (n : ℕ) → 0 < n → float_wait p s t' g' n + 1 ≤ float_wait p s t g n
    passed_sooner waits moves n k =
        let slack : (s ≤ g) ⊎ (s - g < p - t) = ⊎_elim inl (λ ne. inr (omega arith)) waits in
        ⊎_elim
        (λ m.
        let e = ap (λ x. float_wait p s x g' n) m.1 ∙ ap (λ x. float_wait p s (t + 1) x n) m.2 in
        ⊎_elim
        (λ h. omega (arith, float_late p s (t + 1) g n h, float_late p s t g n h))
        (λ h.
        let room' : s - g < p - t = ⊎_elim (λ z. omega arith) (λ z. z) slack in
        omega (arith, float_soon p s (t + 1) g n k h, float_soon p s t g n k h))
        (cases_lt (s - g) n))
        (λ m.
        let e = ap (λ x. float_wait p s x g' n) m.1 ∙ ap (λ x. float_wait p s 0 x n) m.2 in
        let done : s ≤ g = ⊎_elim (λ z. z) (λ z. omega arith) slack in
        let i = ap (worst_of p s) (let i : n - (s - g) ≡ n = omega arith in i) in
        omega (arith, float_fresh n, float_late p s t g n (omega arith)))
        moves

pub says_granted : (g s : ℕ) (x : Bool) → true ≡ (nat_lt g s && x) → g < s
says_granted g s x e = ltb-true g s (both (nat_lt g s) e)
  where
    both : (b : Bool) → true ≡ (b && x) → b ≡ true
    both true f = refl
    both false f = sym f

pub says_waits : (g s p t : ℕ) (c : Bool) → false ≡ (nat_lt g s && (not c || s - g == p - t)) → (s ≤ g) ⊎ (s - g ≢ p - t)
says_waits g s p t c e =
    ⊎_elim
    (λ h. inr (λ q. false≢true (e ∙ ap (λ b. b && (not c || s - g == p - t)) (lt-ltb g s h) ∙ ap (λ b. not c || b) (eq-eqb (s - g) (p - t) q) ∙ either c)))
    (λ h. inl h)
    (cases_lt g s)
  where
    either : (b : Bool) → (not b || true) ≡ true
    either true = refl
    either false = refl

pub float_moved_on : (t p t' g' new : ℕ) → t' ≡ cond (nat_lt (t + 1) p) (t + 1) 0 → g' ≡ cond (nat_lt (t + 1) p) new 0 → ((t + 1 < p) × (t' ≡ t + 1) × (g' ≡ new)) ⊎ ((p ≤ t + 1) × (t' ≡ 0) × (g' ≡ 0))
float_moved_on t p t' g' new e f =
    ⊎_elim
    (λ h. inl (h, e ∙ ap (λ x. cond x (t + 1) 0) (lt-ltb (t + 1) p h), f ∙ ap (λ x. cond x new 0) (lt-ltb (t + 1) p h)))
    (λ h. inr (h, e ∙ ap (λ x. cond x (t + 1) 0) (le-ltb (t + 1) p h), f ∙ ap (λ x. cond x new 0) (le-ltb (t + 1) p h)))
    (cases_lt (t + 1) p)

float_sooner : (a b : Float) (c g : Bool) → Floats a c g b → Sooner g (float_wait a.slice.period a.slice.ticks a.passed a.given) (float_wait a.slice.period a.slice.ticks b.passed b.given)
float_sooner a b c true m =
    granted_sooner a.slice.period a.slice.ticks a.slice.some a.slice.within a.passed a.given b.passed b.given a.going a.most a.room
    (says_granted a.given a.slice.ticks _ m.says) (float_moved_on a.passed a.slice.period b.passed b.given (a.given + 1) m.passes m.gives)
float_sooner a b c false m =
    passed_sooner a.slice.period a.slice.ticks a.slice.some a.slice.within a.passed a.given b.passed b.given a.going a.most a.room
    (says_waits a.given a.slice.ticks a.slice.period a.passed c m.says) (float_moved_on a.passed a.slice.period b.passed b.given a.given m.passes m.gives)

pub float_moves : (a b : Float) (c g : Bool) → Floats a c g b → Ticks (float_service a) g (float_service b)
float_moves a b c g m =
    rw (m.same_period, m.same_slice) (record { sooner = float_sooner a b c g m; same_worst = λ n. refl; same_lead = refl; same_pace = λ n. refl })

pub float_laws : (f : Float) → Laws (float_service f)
float_laws f = float_at_laws f.slice.period f.slice.ticks f.slice.some f.slice.within f.passed f.given f.going f.most f.each f.room
