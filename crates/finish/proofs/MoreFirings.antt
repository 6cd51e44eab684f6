-- What a ledger keeps stays right with one firing more, and tells its bound.
use Rattle.std.proofs.Common.{◌≡◌, ◌≢◌, ℕ, suc, ◌+◌, ◌*◌, ◌<◌, ◌≤◌, cond, nat_le, List, length, set, get_or, sym, subst, arith, get_or-set_same}
use Rattle.std.proofs.lemmas.Bool.Decides.{nat_tests}
use native.Mathlib.Decide.{ℕ_discrete}
use Rattle.flow.specs.Nets.{Net, Arrivals}
use Rattle.flow.specs.Finish.{Cost, Feeds, Finish}
use Rattle.finish.proofs.Tells.{partly_less}
use Rattle.finish.proofs.Counts.{count_set}
use Rattle.finish.specs.Filling.{entry, capped, FinishTold, Partly, Came, Fed, more, Stepped}
use Rattle.finish.specs.Ledgers.{first, Knows, Due, TellsBound}
use Rattle.finish.specs.declared.ledger.Ledger.{Ledger}

-- the next firing of v, number i, of which the step told the bound x
module _ (n : Net) (cost : Cost) (α : Arrivals) (fired : ℕ → ℕ) (l : Ledger) (v i arrival x : ℕ) (ready bounds : List ℕ) (h : Knows n cost α fired l) (due : Due n α fired v) (vm : v < n.tasks) (at : get_or l.fired v 0 ≡ i) (im : i < 256) (a : arrival ≡ cond (n.inlet v) (entry l.arrivals 256 v i) 0) (s : Stepped n 256 v i arrival l.worst l.ready l.bounds ready bounds) where
  number : fired v ≡ i
  number = omega (arith, h.ended v vm)

  came : Came n α v i arrival
  came = record {
    inlet = λ q.
        let here : i < α.count v = omega (arith, due.came q, number) in
        let b : i < first (α.count v) = omega arith in
        (here, let k : arrival ≡ entry l.arrivals 256 v i = rw q at a in omega (arith, h.arrivals v i vm b));
    none = λ q. rw q at a;
  }

  fed : Fed n (λ u. first (fired u)) v i
  fed = record {
    by = λ e f.
        let f' : Feeds n v (fired v) e = record { edge = f.edge; into = f.into; past = omega (arith, f.past, number) } in
        omega (arith, due.fed.by e f', number);
  }

  stepped_bounds : Partly n α cost 256 (more (λ u. first (fired u)) v) ready bounds
  stepped_bounds = s.right α cost (λ u. first (fired u)) h.waits h.bounds (omega (arith, number)) came fed

  pub bounds_more : Partly n α cost 256 (λ u. first (more fired v u)) ready bounds
  bounds_more = partly_less n α cost 256 (more (λ u. first (fired u)) v) (λ u. first (more fired v u)) ready bounds (λ u um. less u (ℕ_discrete u v)) stepped_bounds
    where
      less : (u : ℕ) → Dec (u ≡ v) → first (more fired v u) ≤ more (λ u. first (fired u)) v u
      less u (yes e) =
          let m : more fired v u ≡ suc (fired v) = grind (arith, nat_tests) in
          let m' : more (λ u. first (fired u)) v u ≡ suc (first (fired v)) = grind (arith, nat_tests) in
          omega (arith, number)
      less u (no ne) =
          let m : more fired v u ≡ fired u = grind (arith, nat_tests) in
          let m' : more (λ u. first (fired u)) v u ≡ first (fired u) = grind (arith, nat_tests) in
          omega arith

  pub ended_more : v < length l.fired → (u : ℕ) → u < n.tasks → get_or (set l.fired v (get_or l.fired v 0 + 1)) u 0 ≡ first (more fired v u)
  ended_more inside = count_set n.tasks fired (more fired v) v (grind (arith, nat_tests)) (λ u ne. let ne' : u ≢ v = ne in grind (arith, nat_tests)) l.fired inside (omega arith) h.ended

  pub tells : bounds ≡ set l.bounds (v * 256 + i) x → v * 256 + i < length l.bounds → (y : ℕ) → y ≡ cond (nat_le x 1000000000000) x 0 → TellsBound n cost α v (fired v) y
  tells wrote inside y yq = record { early = λ _. (b.t, subst (λ (k : ℕ). Finish n α cost v k b.t) (sym number) b.is, told); late = λ m. absurd (omega (arith, number)) }
    where
      b : FinishTold n α cost v i (entry bounds 256 v i)
      b = let m : i < more (λ u. first (fired u)) v v = let q = number in grind (arith, nat_tests) in stepped_bounds.bounds v i vm m

      x_is : x ≡ capped b.t
      x_is =
          let q : entry bounds 256 v i ≡ x = subst (λ (t : List ℕ). entry t 256 v i ≡ x) (sym wrote) (get_or-set_same l.bounds (v * 256 + i) x 0 inside) in
          omega (arith, b.told)

      told : y ≡ cond (nat_le b.t 1000000000000) b.t 0
      told = let q = x_is in grind (arith, nat_tests)
