-- The tasks of a critical ring are tasks of the graph.
use Rattle.std.proofs.Common.{ℕ, zero, suc, ◌<◌, List, map, length, get_or, vec_len, sym, ap, subst, arith}
use Rattle.std.proofs.lemmas.List.{length-map}
use Rattle.servers.specs.Service.{Service}
use Rattle.graph.specs.declared.graph.Graph.{Graph}
use Rattle.flow.specs.Nets.{Net, net_of}
use Rattle.flow.specs.Rings.{Hop, edge, link, IsIn, out_of, Chain, end, on}
use Rattle.rings.proofs.Asked.{graph_ends}
use Rattle.figures.specs.Critical.{CriticalOf}

module _ (n : Net) (from_task : (e : ℕ) → e < n.edges → n.from e < n.tasks) where
  source_in : (h : Hop) → IsIn n h → out_of n h < n.tasks
  source_in (edge e) i = from_task e i
  source_in (link v) i = i

  sources_in : {u v : ℕ} {hops : List Hop} → Chain n u hops v → (k : ℕ) → k < length hops → get_or (map (out_of n) hops) k 0 < n.tasks
  sources_in (end h i) zero l = source_in h i
  sources_in (end h i) (suc k) l = absurd (omega arith)
  sources_in (on h i c) zero l = source_in h i
  sources_in (on h i c) (suc k) l = sources_in c k (omega arith)

pub critical_member : (g : Graph) (service : ℕ → Service) (c p : ℕ) (tasks : List ℕ) → CriticalOf (net_of g) service c p tasks → (k : ℕ) → k < length tasks → get_or tasks k 0 < vec_len g.tasks
critical_member g service c p tasks r k l =
    let n = net_of g in
    let within : k < length r.hops = omega (arith, ap length r.out, length-map r.hops (out_of n)) in
    subst (λ (xs : List ℕ). get_or xs k 0 < vec_len g.tasks) (sym r.out) (sources_in n (λ e h. (graph_ends g e h).0) r.reaches.ring.closed k within)
