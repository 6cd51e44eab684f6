-- Counts of arrivals and firings that are kept up to 256.
use Rattle.std.proofs.Common.{◌≡◌, ◌≢◌, ℕ, suc, ◌+◌, ◌<◌, ◌≤◌, List, length, set, get_or, ap, refl, sym, subst, arith, get_or-set_same, get_or-set_other}
use Rattle.std.proofs.lemmas.Bool.Decides.{nat_tests}
use native.Mathlib.Decide.{ℕ_discrete}
use Rattle.flow.specs.Nets.{Net, Arrivals}
use Rattle.flow.specs.Finish.{Cost}
use Rattle.finish.proofs.Tells.{partly_less}
use Rattle.finish.specs.Filling.{more}
use Rattle.finish.specs.Ledgers.{first, Knows, TellsBound}
use Rattle.finish.specs.declared.ledger.Ledger.{Ledger}

-- one more at v
module _ (m : ℕ) (count count' : ℕ → ℕ) (v : ℕ) (there : count' v ≡ suc (count v)) (others : (u : ℕ) → (u ≡ v → ⊥) → count' u ≡ count u) where
  pub count_set : (xs : List ℕ) → v < length xs → get_or xs v 0 < 256 → ((u : ℕ) → u < m → get_or xs u 0 ≡ first (count u)) → (u : ℕ) → u < m → get_or (set xs v (get_or xs v 0 + 1)) u 0 ≡ first (count' u)
  count_set xs inside room old u um = go (ℕ_discrete u v)
    where
      go : Dec (u ≡ v) → get_or (set xs v (get_or xs v 0 + 1)) u 0 ≡ first (count' u)
      go (yes e) =
          let was : get_or xs v 0 ≡ first (count v) = subst (λ (w : ℕ). get_or xs w 0 ≡ first (count w)) e (old u um) in
          subst (λ (w : ℕ). get_or (set xs v (get_or xs v 0 + 1)) w 0 ≡ first (count' w)) (sym e) (omega (arith, get_or-set_same xs v (get_or xs v 0 + 1) 0 inside, there))
      go (no ne) = let ne' : u ≢ v = ne in omega (arith, get_or-set_other xs v u (get_or xs v 0 + 1) 0 ne', old u um, others u ne)

-- as many of them among the first 256
module _ (n : Net) (cost : Cost) (α : Arrivals) (fired : ℕ → ℕ) (l : Ledger) (h : Knows n cost α fired l) where
  knows_first : (fired' : ℕ → ℕ) → ((v : ℕ) → v < n.tasks → first (fired' v) ≡ first (fired v)) → Knows n cost α fired' l
  knows_first fired' same = record {
    few = h.few;
    waits = h.waits;
    arrivals = h.arrivals;
    arrived = h.arrived;
    ended = λ v vm. omega (arith, same v vm, h.ended v vm);
    bounds = partly_less n α cost 256 (λ v. first (fired v)) (λ v. first (fired' v)) l.ready l.bounds (λ v vm. omega (arith, same v vm)) h.bounds;
  }

  -- from firing 256 of v on
  module _ (v : ℕ) (vm : v < n.tasks) (many : 256 ≤ get_or l.fired v 0) where
    pub tells_late : TellsBound n cost α v (fired v) 0
    tells_late = record { early = λ m. absurd (omega (arith, h.ended v vm)); late = λ _. refl }

    pub knows_late : Knows n cost α (more fired v) l
    knows_late = knows_first (more fired v) (λ u um. same u um (ℕ_discrete u v))
      where
        same : (u : ℕ) → u < n.tasks → Dec (u ≡ v) → first (more fired v u) ≡ first (fired u)
        same u um (yes e) =
            let m : more fired v u ≡ suc (fired v) = grind (arith, nat_tests) in
            let f : fired u ≡ fired v = ap fired e in
            omega (arith, h.ended v vm)
        same u um (no ne) = let m : more fired v u ≡ fired u = grind (arith, nat_tests) in omega arith
