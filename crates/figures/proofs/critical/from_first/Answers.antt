-- The tasks from the least on, and then those before it.
use Rattle.std.proofs.Common.{◌≡◌, ℕ, ◌∙◌, List, map, take, length, rules, arith}
use Rattle.std.proofs.lemmas.List.{take_at, length-take-le}
use Rattle.flow.specs.Nets.{net_of}
use Rattle.flow.specs.Rings.{edge}
use Rattle.walks.specs.Arcs.{arcs_of}
use Rattle.rings.proofs.Walked.{on_edges}
use Rattle.figures.proofs.Turned.{critical_of}
use Rattle.figures.proofs.critical.from_first.Goals as goal

pub sources-tasks-requires-clause-edges : goal.sources-tasks-requires-clause-edges
sources-tasks-requires-clause-edges c =
    let room : length c.args.walk.now.arcs ≡ 16 = search rules in
    on_edges c.args.graph.now c.args.walk.now c.requires.few room c.requires.ring

pub returns : goal.returns
returns c = λ service cycle parts r.
    let w = c.args.walk.now in
    let outs : List ℕ = take w.count c.sources-tasks.result in
    let k : ℕ = c.place_of_least-first.result in
    let room : length c.sources-tasks.result ≡ 16 = search rules in
    let len : length c.rotate_left.new.self ≡ w.count = omega (arith, c.rotate_left.ensures.len, length-take-le w.count c.sources-tasks.result) in
    critical_of (net_of c.args.graph.now) service cycle parts (map edge (arcs_of w)) outs k _ r c.sources-tasks.ensures c.place_of_least-first.ensures.place c.place_of_least-first.ensures.least
    (take_at c.rotate_left.new.self _ w.count len ∙ c.rotate_left.ensures.after)
