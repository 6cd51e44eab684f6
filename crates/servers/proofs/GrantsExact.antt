-- Exactly which ticks of a run a fixed slice and a float grant.
use Rattle.std.proofs.Common.{◌≡◌, ℕ, zero, suc, ◌+◌, ◌-◌, ◌<◌, ◌≤◌, Bool, true, false, cond, List, [], ◌∷◌, length, sym, refl, ap, ◌∙◌, ⊎_elim, arith, ltb-false, ltb-true}
use Rattle.std.proofs.lemmas.Bool.{cases_lt}
use Rattle.servers.specs.Runs.{Tick, Run, grants}
use Rattle.servers.specs.Exactly.{EndsGranted, Exactly, Starts, EachPeriod}
use Rattle.servers.specs.FixedService.{fixed_service, Moves}
use Rattle.servers.specs.FloatService.{Floats}
use Rattle.servers.specs.declared.fixed.Fixed.{Fixed}
use Rattle.servers.specs.declared.float.Float.{Float}
use Rattle.servers.specs.SliceLaws.{fixed_laws, moved_on, granted_next, passed_next}
use Rattle.servers.specs.FloatLaws.{says_granted, says_waits, float_moved_on}

-- A granted tick takes just one grant and one tick off the wait.
pub fixed_granted : (a b : Fixed) (c : Bool) → Moves a c true b → (n : ℕ) → (fixed_service a).wait (n + 1) ≡ (fixed_service b).wait n + 1
fixed_granted a b c m n =
    rw (m.same_period, m.same_slice)
    (granted_next a.slice.period a.slice.ticks a.slice.some a.slice.within a.position b.position a.passed
    (moved_on a.position a.slice.period b.position m.goes) (ltb-true a.position a.slice.ticks (sym m.says)) n)

-- Another tick takes just one tick off the wait.
pub fixed_passed : (a b : Fixed) (c : Bool) → Moves a c false b → (n : ℕ) → 0 < n → (fixed_service a).wait n ≡ (fixed_service b).wait n + 1
fixed_passed a b c m n h =
    rw (m.same_period, m.same_slice)
    (passed_next a.slice.period a.slice.ticks a.slice.some a.slice.within a.position b.position a.passed
    (moved_on a.position a.slice.period b.position m.goes) (ltb-false a.position a.slice.ticks (sym m.says)) n h)

-- what a tick adds to the grants
counts : (x g : Bool) → x ≡ g → cond x 1 0 ≡ cond g (suc zero) zero
counts x g e = ap (λ y. cond y 1 0) e

ends_one : (t : Tick) (us : List Tick) → t.granted ≡ true → length us ≡ 0 → (grants (t ∷ us) ≡ 1) × EndsGranted (t ∷ us)
ends_one t [] e z = (ap (λ g. cond g 1 0 + 0) e, ([], t, refl, e))
ends_one t (u ∷ us) e z = absurd (omega arith)

ends_more : (t : Tick) (us : List Tick) → EndsGranted us → EndsGranted (t ∷ us)
ends_more t us x = (t ∷ x.0, x.1, ap (λ l. t ∷ l) x.2, x.3)

-- What holds after the first tick holds with it.
abbrev ExactFrom : List Tick → Fixed → Type 0
ExactFrom ts a = (n : ℕ) → 0 < n → length ts ≡ (fixed_service a).wait n → (grants ts ≡ n) × EndsGranted ts

exact_step : (t : Tick) (us : List Tick) (a b : Fixed) (g : Bool) → t.granted ≡ g → Moves a t.claimed g b → ExactFrom us b → ExactFrom (t ∷ us) a
exact_step t us a b true e m later n h l =
    let k : n - 1 + 1 ≡ n = omega arith in
    let w : (fixed_service a).wait n ≡ (fixed_service b).wait (n - 1) + 1 = rw k at (fixed_granted a b t.claimed m (n - 1)) in
    let one = counts t.granted true e in
    ⊎_elim
    (λ z.
    let r = later (n - 1) z (omega arith) in
    (omega (arith, r.0), ends_more t us r.1))
    (λ z.
    let i : n - 1 ≡ 0 = omega arith in
    let none = ap (fixed_service b).wait i ∙ (fixed_laws b).wait_none in
    let r = ends_one t us e (omega arith) in
    (r.0 ∙ omega arith, r.1))
    (cases_lt 0 (n - 1))
exact_step t us a b false e m later n h l =
    let w = fixed_passed a b t.claimed m n h in
    let none = counts t.granted false e in
    let r = later n h (omega arith) in
    (omega (arith, r.0), ends_more t us r.1)

exact_run : (ts : List Tick) (a b : Fixed) → Run Moves a ts b → ExactFrom ts a
exact_run [] a b r n h l = absurd (omega (arith, (fixed_laws a).wait_least n))
exact_run (t ∷ us) a b r n h l = exact_step t us a r.0 t.granted refl r.1 (exact_run us r.0 b r.2) n h l

pub exactly : Exactly
exactly f g ts r = exact_run ts f g r

-- The grants that a period still owes come in what is left of it.
abbrev RestOf : List Tick → Float → Float → Type 0
RestOf ts a b = length ts + a.passed ≡ a.slice.period → (a.given + grants ts ≡ a.slice.ticks) × Starts b

last_tick : (t : Tick) (us : List Tick) (a b c : Float) (g : Bool) → t.granted ≡ g → Floats a t.claimed g b → Run Floats b us c → a.slice.period ≤ a.passed + 1 → Starts b → RestOf (t ∷ us) a c
last_tick t [] a b c true e m r over s l =
    let owed = says_granted a.given a.slice.ticks _ m.says in
    let room = a.room in
    let one = counts t.granted true e in
    (omega arith, (ap (λ x. x.passed) r ∙ s.0, ap (λ x. x.given) r ∙ s.1))
last_tick t [] a b c false e m r over s l =
    let room = a.room in
    let most = a.most in
    let going = a.going in
    let none = counts t.granted false e in
    let given : a.given ≡ a.slice.ticks = ⊎_elim (λ h. omega arith) (λ ne. ⊎_elim (λ h. absurd (ne (omega arith))) (λ h. omega arith) (cases_lt a.given a.slice.ticks)) (says_waits a.given a.slice.ticks a.slice.period a.passed t.claimed m.says) in
    (omega arith, (ap (λ x. x.passed) r ∙ s.0, ap (λ x. x.given) r ∙ s.1))
last_tick t (u ∷ us) a b c g e m r over s l = absurd (omega (arith, a.going))

rest_step : (t : Tick) (us : List Tick) (a b c : Float) (g : Bool) → t.granted ≡ g → Floats a t.claimed g b → Run Floats b us c → RestOf us b c → RestOf (t ∷ us) a c
rest_step t us a b c g e m r later l =
    ⊎_elim
    (λ h.
    let period = m.same_period in
    let ticks = m.same_slice in
    let x = later (omega arith) in
    let one = counts t.granted g e in
    (omega (arith, x.0, given_more g a.given), x.1))
    (λ h. last_tick t us a b c g e m r h.0 (h.1, h.2) l)
    (float_moved_on a.passed a.slice.period b.passed b.given _ m.passes m.gives)
  where
    given_more : (g : Bool) (n : ℕ) → cond g (n + 1) n ≡ n + cond g 1 0
    given_more true n = refl
    given_more false n = omega arith

rest_run : (ts : List Tick) (a b : Float) → Run Floats a ts b → RestOf ts a b
rest_run [] a b r l = absurd (omega (arith, a.going))
rest_run (t ∷ us) a b r l = rest_step t us a r.0 b t.granted refl r.1 r.2 (rest_run us r.0 b r.2) l

pub each_period : EachPeriod
each_period f g ts s r l = let x = rest_run ts f g r (omega (arith, s.0)) in (omega (arith, x.0, s.1), x.1)
