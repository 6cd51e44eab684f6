-- Numbers that meet the inequalities of the start figures bound every closed chain.
use Rattle.std.proofs.Common.{ℕ, ◌+◌, ◌*◌, ◌<◌, ◌≤◌, List, [], ◌∷◌, mul-zero, mul-one, mul-add, arith}
use Rattle.servers.specs.Service.{Service}
use Rattle.flow.specs.Nets.{Net}
use Rattle.flow.specs.Rings.{Hop, edge, link, pace_of, lead_and_pace_of, weight, tokens_on, Chain, end, on, Enough, NoneAbove}
use Rattle.flow.specs.RingLaws.{Potential}

module _ (n : Net) (service : ℕ → Service) (cycle parts : ℕ) (start : ℕ → ℕ) (enough : Enough n service cycle parts start) (links : (v : ℕ) → v < n.tasks → parts * pace_of n service v ≤ cycle) where
  -- the inequalities summed along hops from u to v
  abbrev Met : ℕ → List Hop → ℕ → Type 0
  Met u hops v = start u + parts * weight n service hops ≤ start v + cycle * tokens_on n hops

  over_edge : (e : ℕ) → e < n.edges → (hops : List Hop) (v : ℕ) → Met (n.to e) hops v → Met (n.from e) (edge e ∷ hops) v
  over_edge e h hops v rest =
      let here = enough.edges e h in
      let a = mul-add parts (lead_and_pace_of n service (n.to e)) (weight n service hops) in
      let b = mul-add cycle (n.tokens e) (tokens_on n hops) in
      omega arith

  over_link : (u : ℕ) → u < n.tasks → (hops : List Hop) (v : ℕ) → Met u hops v → Met u (link u ∷ hops) v
  over_link u h hops v rest =
      let here = links u h in
      let a = mul-add parts (pace_of n service u) (weight n service hops) in
      let b = mul-add cycle 1 (tokens_on n hops) in
      omega (arith, mul-one cycle)

  none : (v : ℕ) → Met v [] v
  none v = omega (arith, mul-zero parts, mul-zero cycle)

  along : {u v : ℕ} {hops : List Hop} → Chain n u hops v → Met u hops v
  along (end (edge e) h) = over_edge e h [] (n.to e) (none (n.to e))
  along (end (link u) h) = over_link u h [] u (none u)
  along (on {hops} {v} (edge e) h c) = over_edge e h hops v (along c)
  along (on {hops} {v} (link u) h c) = over_link u h hops v (along c)

  bounds : NoneAbove n service cycle parts
  bounds hops r = omega (arith, along r.closed)

pub potential : Potential
potential = bounds
