-- Start figures, cycle and parts are the only ones, and one task alone has them.
use Prim.Native.Nat.{◌∣◌}
use Rattle.std.proofs.Common.{◌≡◌, ℕ, ◌+◌, ◌*◌, ◌<◌, ◌≤◌, ◌⊎◌, List, [], ◌∷◌, map, length, get_or, sym, ap, ◌∙◌, subst, inl, inr, mul_assoc, mul_comm, mul-le-mul_left, mul_right_comm, le_of_mul-le-mul_right, arith}
use Rattle.std.proofs.Math.Nat.{dvd-mul_right, eq-one_of_dvd-one}
use Rattle.servers.specs.Service.{Service}
use Rattle.flow.specs.Nets.{Net, Sound}
use Rattle.flow.specs.Rings.{Hop, edge, link, into, pace_of, lead_and_pace_of, weight, tokens_on, Chain, end, on, Ring, Cycle, Starts}
use Rattle.flow.specs.RingLaws.{OneStart, OneCycle, LoneFigures}
use Rattle.servers.specs.Rounding.{le_or_lt}
use Rattle.flow.proofs.LowestTerms.{one_form}

pub one_start : OneStart
one_start n service cycle parts start other s t v h = omega (arith, s.least other t.enough v h, t.least start s.enough v h)

-- along a chain without tokens the rank rises
climbs : (n : Net) (sound : Sound n) {u v : ℕ} {hops : List Hop} → Chain n u hops v → tokens_on n hops ≡ 0 → sound.rank u < sound.rank v
climbs n sound (end (edge e) h) z = sound.forward e h (omega arith)
climbs n sound (end (link u) h) z = absurd (omega arith)
climbs n sound (on (edge e) h c) z = omega (arith, sound.forward e h (omega arith), climbs n sound c (omega arith))
climbs n sound (on (link u) h c) z = absurd (omega arith)

pub tokened : (n : Net) → Sound n → (hops : List Hop) → Ring n hops → 1 ≤ tokens_on n hops
tokened n sound hops r = go (le_or_lt (tokens_on n hops) 0)
  where
    go : (tokens_on n hops ≤ 0) ⊎ (0 < tokens_on n hops) → 1 ≤ tokens_on n hops
    go (inl l) = absurd (omega (arith, climbs n sound r.closed (omega arith)))
    go (inr l) = omega arith

crossed : (w t c p c' p' : ℕ) → 1 ≤ t → p * w ≡ c * t → p' * w ≤ c' * t → c * p' ≤ c' * p
crossed w t c p c' p' h e l =
    let a : c * p' * t ≡ p * (p' * w) = mul_right_comm c p' t ∙ ap (λ x. x * p') (sym e) ∙ mul_right_comm p w p' ∙ mul_assoc p p' w in
    let b : p * (p' * w) ≤ p * (c' * t) = mul-le-mul_left p l in
    let d : p * (c' * t) ≡ c' * p * t = sym (mul_assoc p c' t) ∙ ap (λ x. x * t) (mul_comm p c') in
    let m : c * p' * t ≤ c' * p * t = omega arith in
    le_of_mul-le-mul_right m h

not_above : (n : Net) → Sound n → (service : ℕ → Service) (c p c' p' : ℕ) → Cycle n service c p → Cycle n service c' p' → c * p' ≤ c' * p
not_above n sound service c p c' p' x y =
    let hops : List Hop = x.met.0 in
    crossed (weight n service hops) (tokens_on n hops) c p c' p' (tokened n sound hops x.met.1) x.met.2 (y.largest hops x.met.1)

pub one_cycle : OneCycle
one_cycle n sound service c p c' p' x y =
    one_form (c + p) c p c' p' (omega arith) x.some y.some (omega (arith, not_above n sound service c p c' p' x y, not_above n sound service c' p' c p y x)) x.lowest y.lowest

pub link_ring : (n : Net) (v : ℕ) → v < n.tasks → Ring n (link v ∷ [])
link_ring n v h = record { at = v; closed = end (link v) h; once = λ i j a b e. omega arith }

-- a task alone has one ring
module _ (n : Net) (one : n.tasks ≡ 1) (none : n.edges ≡ 0) where
  abbrev Once : List Hop → Type 0
  Once hops = (i j : ℕ) → i < j → j < length hops → get_or (map (into n) hops) i 0 ≡ get_or (map (into n) hops) j 0 → ⊥

  shape : {u v : ℕ} {hops : List Hop} → Chain n u hops v → Once hops → hops ≡ (link 0 ∷ [])
  shape (end (edge e) h) once = absurd (omega arith)
  shape (end (link w) h) once = ap (λ (x : ℕ). link x ∷ []) (let z : w ≡ 0 = omega arith in z)
  shape (on (edge e) h c) once = absurd (omega arith)
  shape (on (link w) h (end (edge e) k)) once = absurd (omega arith)
  shape (on (link w) h (end (link z) k)) once = absurd (once 0 1 (omega arith) (omega arith) (let q : w ≡ z = omega arith in q))
  shape (on (link w) h (on (edge e) k c)) once = absurd (omega arith)
  shape (on (link w) h (on (link z) k c)) once = absurd (once 0 1 (omega arith) (omega arith) (let q : w ≡ z = omega arith in q))

pub lowest_one : (d k : ℕ) → 1 ≡ d * k → d ≡ 1
lowest_one d k e = eq-one_of_dvd-one (subst (λ (m : ℕ). d ∣ m) (sym e) (dvd-mul_right d k))

own_start : (n : Net) (service : ℕ → Service) (cycle : ℕ) → n.edges ≡ 0 → Starts n service cycle 1 (lead_and_pace_of n service)
own_start n service cycle none = record {
  enough = record { own = λ v h. omega arith; edges = λ e h. absurd (omega arith) };
  least = λ other en v h. omega (arith, en.own v h);
}

pub lone_figures : LoneFigures
lone_figures n service one none = record {
  cycle = record {
    some = omega arith;
    largest = λ hops r. subst (λ (hs : List Hop). 1 * weight n service hs ≤ pace_of n service 0 * tokens_on n hs) (sym (shape n one none r.closed r.once)) (omega arith);
    met = (link 0 ∷ [], link_ring n 0 (omega arith), omega arith);
    lowest = λ d m k a b. lowest_one d k b;
  };
  starts = own_start n service (pace_of n service 0) none;
}
