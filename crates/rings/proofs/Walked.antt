-- Weight and tokens along the edges of a walk, and the ratios of rings.
use Rattle.std.proofs.Common.{◌≡◌, ℕ, zero, suc, ◌+◌, ◌*◌, ◌<◌, ◌≤◌, ap, subst, ◌∙◌, List, [], ◌∷◌, ◌++◌, map, length, take, get_or, mul-zero, arith}
use Rattle.std.proofs.lemmas.List.{map_more, length-take-le, get_or-take}
use Rattle.servers.specs.Service.{Service}
use Rattle.graph.specs.declared.graph.Graph.{Graph}
use Rattle.flow.specs.Nets.{Net, net_of}
use Rattle.flow.specs.Rings.{Hop, edge, link, IsIn, pace_of, lead_and_pace_of, weight, tokens_on, Chain, end, on, Ring, Cycle, Starts}
use Rattle.flow.proofs.Potential.{potential}
use Rattle.flow.proofs.RingFigures.{tokened, link_ring}
use Rattle.flow.proofs.FinishRule.{graphs_sound}
use Rattle.walks.specs.ArcNet.{Each}
use Rattle.walks.specs.declared.found.Walk.{Walk}
use Rattle.walks.proofs.Each.{each_at}
use Rattle.rings.specs.AtRatios.{Above}
use Rattle.rings.specs.Cycles.{OnEdges, Reaches}

weight_last : (n : Net) (service : ℕ → Service) (hs : List Hop) (e : ℕ) → weight n service (hs ++ edge e ∷ []) ≡ weight n service hs + lead_and_pace_of n service (n.to e)
weight_last n service [] e = omega arith
weight_last n service (edge d ∷ hs) e = omega (arith, weight_last n service hs e)
weight_last n service (link v ∷ hs) e = omega (arith, weight_last n service hs e)

tokens_last : (n : Net) (hs : List Hop) (e : ℕ) → tokens_on n (hs ++ edge e ∷ []) ≡ tokens_on n hs + n.tokens e
tokens_last n [] e = omega arith
tokens_last n (edge d ∷ hs) e = omega (arith, tokens_last n hs e)
tokens_last n (link v ∷ hs) e = omega (arith, tokens_last n hs e)

pub weight_more : (n : Net) (service : ℕ → Service) (xs : List ℕ) (i : ℕ) → i < length xs → weight n service (map edge (take (i + 1) xs)) ≡ weight n service (map edge (take i xs)) + lead_and_pace_of n service (n.to (get_or xs i 0))
weight_more n service xs i h = ap (weight n service) (map_more edge xs i 0 h) ∙ weight_last n service (map edge (take i xs)) (get_or xs i 0)

pub tokens_more : (n : Net) (xs : List ℕ) (i : ℕ) → i < length xs → tokens_on n (map edge (take (i + 1) xs)) ≡ tokens_on n (map edge (take i xs)) + n.tokens (get_or xs i 0)
tokens_more n xs i h = ap (tokens_on n) (map_more edge xs i 0 h) ∙ tokens_last n (map edge (take i xs)) (get_or xs i 0)

chain_in : (n : Net) {u v : ℕ} {hs : List Hop} → Chain n u hs v → Each (IsIn n) hs
chain_in n (end h i) = (i, tt)
chain_in n (on h i c) = (i, chain_in n c)

edges_in : (n : Net) (ds : List ℕ) → Each (IsIn n) (map edge ds) → Each (λ e. e < n.edges) ds
edges_in n [] a = tt
edges_in n (d ∷ ds) (h, a) = (h, edges_in n ds a)

-- The arcs of a ring are edges.
pub on_edges : (g : Graph) (w : Walk) → w.count ≤ 16 → length w.arcs ≡ 16 → Ring (net_of g) (map edge (take w.count w.arcs)) → OnEdges g w
on_edges g w few room r i h =
    let len : length (take w.count w.arcs) ≡ w.count = length-take-le w.count w.arcs (omega arith) in
    let a = each_at (λ e. e < (net_of g).edges) (take w.count w.arcs) i 0 (omega arith) (edges_in (net_of g) (take w.count w.arcs) (chain_in (net_of g) r.closed)) in
    subst (λ (e : ℕ). e < (net_of g).edges) (get_or-take w.count w.arcs i 0 h) a

pub some_weight : (n : Net) (service : ℕ → Service) (c p : ℕ) (ds : List ℕ) → Above n service c p ds → 1 ≤ weight n service (map edge ds)
some_weight n service c p ds a = go (weight n service (map edge ds)) a.above
  where
    go : (w : ℕ) → c * tokens_on n (map edge ds) < p * w → 1 ≤ w
    go zero h = absurd (omega (arith, mul-zero p))
    go (suc w) h = omega arith

pub some_tokens : (g : Graph) (ds : List ℕ) → Ring (net_of g) (map edge ds) → 1 ≤ tokens_on (net_of g) (map edge ds)
some_tokens g ds r = tokened (net_of g) (graphs_sound g) (map edge ds) r

-- The slowest link is a ring.
pub link_reaches : (n : Net) (service : ℕ → Service) (v c p : ℕ) → v < n.tasks → p * pace_of n service v ≡ c * 1 → Reaches n service c p (link v ∷ [])
link_reaches n service v c p h e = record {
  ring = link_ring n v h;
  meets =
      let w : pace_of n service v + 0 ≡ pace_of n service v = omega arith in
      ap (λ x. p * x) w ∙ e;
}

-- Start figures, a ring and no link above make the cycle.
pub cycle_of : (n : Net) (service : ℕ → Service) (c p : ℕ) (hs : List Hop) (start : ℕ → ℕ) → 1 ≤ p → ((d m k : ℕ) → c ≡ d * m → p ≡ d * k → d ≡ 1) →
    ((v : ℕ) → v < n.tasks → p * pace_of n service v ≤ c) → Reaches n service c p hs → Starts n service c p start → Cycle n service c p
cycle_of n service c p hs start some low links r s = record {
  some = some;
  largest = potential n service c p start s.enough links;
  met = (hs, r.ring, r.meets);
  lowest = low;
}
