-- A task lies on a ring exactly where an edge comes back to it from one that it leads to.
use Rattle.std.proofs.Common.{ℕ, refl, arith, below_more}
use Rattle.graph.specs.Edges.{edge_at, OnRing}
use Rattle.graph.proofs.Marks.{ring_by, ring_back}
use Rattle.graph.proofs.edges.Edges.first_on_ring.Goals as goal

pub search-preserved : goal.search-preserved
search-preserved c =
    let es = c.args.self.now.list.now in
    let v : ℕ = c.search.task in (
      c.loop-edge.invariant.0,
      below_more (λ (u : ℕ). OnRing es u → ⊥) v c.search.invariant.1
          (λ on. let b = ring_back es v c.reach_from-marked.result c.reach_from-marked.ensures on in c.loop-edge.invariant.1 b.1 b.0 (omega (arith, b.3.there)) b.3 b.2),
    )

pub returns-then-marked-edge : goal.returns-then-marked-edge
returns-then-marked-edge c =
    let es = c.args.self.now.list.now in
    let v : ℕ = c.search.task in
    let k : ℕ = c.loop-edge.edge-index in
    record {
      there = c.search-test.true;
      on = ring_by es v (edge_at es k).from k c.reach_from-marked.result c.reach_from-marked.ensures c.if-marked-edge.true
          (record { there = c.loop-edge-test.true; from = refl; to = c.if-edge-task.true; none = c.if-edge-eq0.true });
      first = c.search.invariant.1;
    }
