-- Runs of ticks: put one after another, and that every server grants in time.
use Rattle.std.proofs.Common.{◌≡◌, ℕ, ◌+◌, ◌-◌, ◌≤◌, Bool, true, false, cond, List, [], ◌∷◌, ◌++◌, length, refl, subst, ⊎_elim, arith}
use Rattle.std.proofs.lemmas.Bool.{cases_lt}
use Rattle.servers.specs.Service.{Model}
use Rattle.servers.specs.Runs.{Tick, Run, grants, InTime}

pub run_append : {S : Type 0} (steps : S → Bool → Bool → S → Type 0) (a b c : S) (ts us : List Tick) → Run steps a ts b → Run steps b us c → Run steps a (ts ++ us) c
run_append steps a b c [] us r q = subst (λ x. Run steps x us c) r q
run_append steps a b c (t ∷ ts) us r q = (r.0, r.1, run_append steps r.0 b c ts us r.2 q)

module _ {S : Type 0} (m : Model S) where
  in_time_step : (a b : S) (t : Tick) (us : List Tick) (g : Bool) → t.granted ≡ g → m.steps a t.claimed g b → ((n : ℕ) → (m.service b).wait n ≤ length us → n ≤ grants us) → (n : ℕ) → (m.service a).wait n ≤ length (t ∷ us) → n ≤ cond g 1 0 + grants us
  in_time_step a b t us true e s later n h =
      ⊎_elim
      (λ k.
      let one : n - 1 + 1 ≡ n = omega arith in
      let w = rw one at ((m.moves a b t.claimed true s).sooner (n - 1)) in
      omega (arith, later (n - 1) (omega arith)))
      (λ k. omega arith)
      (cases_lt 0 n)
  in_time_step a b t us false e s later n h =
      ⊎_elim
      (λ k. omega (arith, later n (omega (arith, (m.moves a b t.claimed false s).sooner n k))))
      (λ k. omega arith)
      (cases_lt 0 n)

  pub in_time : InTime m.service m.steps
  in_time a b [] r n h = omega (arith, (m.keeps a).wait_least n)
  in_time a b (t ∷ us) r n h = in_time_step a r.0 t us t.granted refl r.1 (in_time r.0 b us r.2) n h
