-- One edge more.
use Rattle.std.proofs.Common.{◌≡◌, ℕ, ◌<◌, ◌≤◌, length, get_or, vec_len, vec_items, ap, rules, arith}
use Rattle.std.proofs.lemmas.List.{get_or_read}
use Rattle.graph.specs.Edges.{edge_at, no_edge}
use Rattle.flow.specs.Nets.{net_of}
use Rattle.rings.proofs.Walked.{tokens_more}
use Rattle.rings.proofs.cycle.tokens.Goals as goal

pub loop-i-preserved : goal.loop-i-preserved
loop-i-preserved c =
    let g = c.args.graph.now in
    let w = c.args.walk.now in
    let i : ℕ = c.loop-i.i in
    let k : ℕ = get_or w.arcs i 0 in
    let room : length w.arcs ≡ 16 = search rules in
    let h : k < vec_len g.edges = c.requires.edges i c.loop-i-test.true in
    let is : c.index.result.now ≡ edge_at (vec_items g.edges) k = get_or_read (vec_items g.edges) k c.index.result.now (omega (arith, g.edges.ok.0)) c.index.ensures no_edge in
    let same = ap (λ e. e.tokens) is in
    let most : (edge_at (vec_items g.edges) k).tokens ≤ 255 = g.ranges.tokens k (omega (arith, g.edges.ok.0)) in
    let below : i < length w.arcs = omega (arith, c.requires.few, c.loop-i-test.true) in
    let more = tokens_more (net_of g) w.arcs i below in
    (omega (arith, c.loop-i.invariant.0), omega (arith, c.loop-i.invariant.1))
