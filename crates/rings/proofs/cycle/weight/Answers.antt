-- One edge more.
use Rattle.std.proofs.Common.{◌≡◌, ℕ, ◌<◌, length, get_or, vec_len, vec_items, ap, rules, arith}
use Rattle.std.proofs.lemmas.List.{get_or_read}
use Rattle.graph.specs.Edges.{edge_at, no_edge}
use Rattle.flow.specs.Nets.{net_of}
use Rattle.rings.proofs.Walked.{weight_more}
use Rattle.rings.proofs.cycle.weight.Goals as goal

pub loop-i-preserved : goal.loop-i-preserved
loop-i-preserved c =
    let g = c.args.graph.now in
    let w = c.args.walk.now in
    let i : ℕ = c.loop-i.i in
    let k : ℕ = get_or w.arcs i 0 in
    let room : length w.arcs ≡ 16 = search rules in
    let h : k < vec_len g.edges = c.requires.edges i c.loop-i-test.true in
    let is : c.index.result.now ≡ edge_at (vec_items g.edges) k = get_or_read (vec_items g.edges) k c.index.result.now (omega (arith, g.edges.ok.0)) c.index.ensures no_edge in
    let same = ap (λ e. get_or c.args.spans.now e.to 0) is in
    let to : (edge_at (vec_items g.edges) k).to < vec_len g.tasks = g.ends.to k (omega (arith, g.edges.ok.0)) in
    let most = c.requires.told (edge_at (vec_items g.edges) k).to to in
    let below : i < length w.arcs = omega (arith, c.requires.few, c.loop-i-test.true) in (
      omega (arith, c.loop-i.invariant.0),
      λ service are.
          let more = weight_more (net_of g) service w.arcs i below in
          omega (arith, c.loop-i.invariant.1 service are, are (edge_at (vec_items g.edges) k).to to),
    )
