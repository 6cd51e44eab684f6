-- One service kept within another keeps the laws.
use Rattle.std.proofs.Common.{◌≡◌, ◌≤◌, ℕ, ◌+◌, ◌-◌, Bool, true, false, ap, ◌∙◌, arith}
use Rattle.servers.specs.Service.{Service, Laws, Sooner, Ticks}
use Rattle.servers.specs.FixedService.{fixed_service}
use Rattle.layers.specs.InnerService.{within, Layered, inner_service, InnerSteps}
use Rattle.layers.specs.declared.inner.Inner.{Inner}
use Rattle.servers.specs.declared.fixed.Fixed.{Fixed}
use Rattle.servers.specs.SliceLaws.{fixed_laws, fixed_moves}

module _ (b s : Service) (bl : Laws b) (sl : Laws s) where
  pub within_laws : Laws (within b s)
  within_laws = record {
    wait_none = ap b.wait sl.wait_none ∙ bl.wait_none;
    wait_least = λ n. omega (arith, sl.wait_least n, bl.wait_least (s.wait n));
    wait_rises = λ m n h. bl.wait_rises (s.wait m) (s.wait n) (sl.wait_rises m n h);
    wait_most = λ n. omega (arith, bl.wait_rises (s.wait n) (s.worst n) (sl.wait_most n), bl.wait_most (s.worst n));
    worst_none = ap b.worst sl.worst_none ∙ bl.worst_none;
    worst_rises = λ m n h. bl.worst_rises (s.worst m) (s.worst n) (sl.worst_rises m n h);
    worst_most = λ n. omega (arith, bl.worst_most (s.worst n), bl.pace_rises (s.worst n) (s.lead + s.pace n) (sl.worst_most n), bl.pace_adds s.lead (s.pace n));
    pace_none = ap b.pace sl.pace_none ∙ bl.pace_none;
    pace_least = λ n. omega (arith, sl.pace_least n, bl.pace_least (s.pace n));
    pace_rises = λ m n h. bl.pace_rises (s.pace m) (s.pace n) (sl.pace_rises m n h);
    pace_adds = λ m n. omega (arith, bl.pace_rises (s.pace (m + n)) (s.pace m + s.pace n) (sl.pace_adds m n), bl.pace_adds (s.pace m) (s.pace n));
  }

-- A tick that the service below does not grant leaves the inner where it was.
pub within_waits : (b b' s : Service) → Laws s → Ticks b false b' → Ticks (within b s) false (within b' s)
within_waits b b' s sl t = record {
  sooner = λ n h. t.sooner (s.wait n) (omega (arith, sl.wait_least n));
  same_worst = λ n. t.same_worst (s.worst n);
  same_lead = omega (arith, t.same_lead, t.same_pace s.lead);
  same_pace = λ n. t.same_pace (s.pace n);
}

within_sooner : (b b' s s' : Service) (g : Bool) → Laws b' → Laws s → Ticks b true b' → Sooner g s.wait s'.wait → Sooner g (within b s).wait (within b' s').wait
within_sooner b b' s s' true bl sl t u = λ n.
    let w = u n in
    let e : s.wait (n + 1) - 1 + 1 ≡ s.wait (n + 1) = omega arith in
    omega (arith, bl.wait_rises (s'.wait n) (s.wait (n + 1) - 1) (omega arith), rw e at (t.sooner (s.wait (n + 1) - 1)))
within_sooner b b' s s' false bl sl t u = λ n h.
    let w = u n h in
    let e : s.wait n - 1 + 1 ≡ s.wait n = omega arith in
    omega (arith, bl.wait_rises (s'.wait n) (s.wait n - 1) (omega arith), rw e at (t.sooner (s.wait n - 1)))

-- A tick that the service below grants is a tick of the inner.
pub within_ticks : (b b' s s' : Service) (g : Bool) → Laws b' → Laws s → Ticks b true b' → Ticks s g s' → Ticks (within b s) g (within b' s')
within_ticks b b' s s' g bl sl t u = record {
  sooner = within_sooner b b' s s' g bl sl t u.sooner;
  same_worst = λ n. t.same_worst (s'.worst n) ∙ ap b.worst (u.same_worst n);
  same_lead = omega (arith, t.same_lead, t.same_pace s'.lead, ap b.pace u.same_lead);
  same_pace = λ n. t.same_pace (s'.pace n) ∙ ap b.pace (u.same_pace n);
}

-- n grants never come before n ticks.
pub worst_least : (p : Service) → Laws p → (n : ℕ) → n ≤ p.worst n
worst_least p l n = omega (arith, l.wait_least n, l.wait_most n)

-- A slice layered over a service, on a tick that is granted below or not.
pub layered_ticks : (b b' : Service) (x y : Fixed) (low c g : Bool) → Laws b' → Ticks b low b' → Layered low x c g y → Ticks (within b (fixed_service x)) g (within b' (fixed_service y))
layered_ticks b b' x y true c g bl t m = within_ticks b b' (fixed_service x) (fixed_service y) g bl (fixed_laws x) t (fixed_moves x y c g m)
layered_ticks b b' x y false c g bl t m = rw (m.0, m.1) (within_waits b b' (fixed_service x) (fixed_laws x) t)

-- A layer over any server.
module _ {S : Type 0} {service : S → Service} (keeps : (s : S) → Laws (service s)) where
  pub inner_laws : (s : Inner S) → Laws (inner_service service s)
  inner_laws s = within_laws (service s.below) (fixed_service s.slice) (keeps s.below) (fixed_laws s.slice)

  pub inner_moves :
      {steps : S → Bool → Bool → S → Type 0} → ((a b : S) (c g : Bool) → steps a c g b → Ticks (service a) g (service b)) →
      (a b : Inner S) (c g : Bool) → InnerSteps steps a c g b → Ticks (inner_service service a) g (inner_service service b)
  inner_moves moves a b c g x =
      layered_ticks (service a.below) (service b.below) a.slice b.slice x.0 c g (keeps b.below) (moves a.below b.below c x.0 x.1) x.2
