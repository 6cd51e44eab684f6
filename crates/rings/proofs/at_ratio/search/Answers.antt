-- What was asked is what the net says.
use Rattle.std.proofs.Common.{◌≡◌, ℕ, ◌≤◌, List, ℤ, pos, take, get_or, sym, subst, vec_len, unsigned_abs, rules, arith}
use Rattle.flow.specs.Nets.{net_of}
use Rattle.walks.specs.Arcs.{Sound}
use Rattle.walks.specs.declared.arcs.Arc.{Arc}
use Rattle.rings.proofs.Asked.{Asked, asked_of, sound_by, graph_ends, starts, starts_like, is_above}
use Rattle.rings.proofs.at_ratio.search.Goals as goal

pub unwrap-all-requires : goal.unwrap-all-requires
unwrap-all-requires c =
    let g = c.args.graph.now in
    let s : Sound (take (vec_len g.edges) c.arcs-arcs.result) (take (vec_len g.tasks) c.bases-bases.result) =
    sound_by g c.args.spans.now c.args.ratio.cycle c.args.ratio.parts c.arcs-arcs.result c.bases-bases.result c.requires c.args.ratio.parts_most c.arcs-arcs.ensures.long c.bases-bases.ensures.long c.arcs-arcs.ensures.arcs c.bases-bases.ensures.bases in
    search rules

pub returns-in-Still : goal.returns-in-Still
returns-in-Still c = λ service are.
    let g = c.args.graph.now in
    let cy : ℕ = c.args.ratio.cycle in
    let pa : ℕ = c.args.ratio.parts in
    let r = c.unwrap-all.result in
    let l : r.list.now ≡ take (vec_len g.edges) c.arcs-arcs.result = search rules in
    let b : r.bases.now ≡ take (vec_len g.tasks) c.bases-bases.result = search rules in
    let one = asked_of g service c.args.spans.now cy pa c.arcs-arcs.result c.bases-bases.result are c.arcs-arcs.ensures.long c.bases-bases.ensures.long c.arcs-arcs.ensures.arcs c.bases-bases.ensures.bases in
    let two : Asked (net_of g) service cy pa r.list.now (take (vec_len g.tasks) c.bases-bases.result) = subst (λ (es : List Arc). Asked (net_of g) service cy pa es (take (vec_len g.tasks) c.bases-bases.result)) (sym l) one in
    let asked : Asked (net_of g) service cy pa r.list.now r.bases.now = subst (λ (base : List ℤ). Asked (net_of g) service cy pa r.list.now base) (sym b) two in
    let few : vec_len g.tasks ≤ 16 = omega (arith, g.counts.few, g.tasks.ok.0) in
    let values : List ℤ = c.in-Still.values in
    starts_like (net_of g) service cy pa (graph_ends g) (λ v. unsigned_abs (get_or values v (pos 0))) _ (λ v h. c.whole.ensures v (omega arith))
    (starts (net_of g) service cy pa r.list.now r.bases.now asked (graph_ends g) (λ v. get_or values v (pos 0)) c.in-Still.ensures)

pub returns-in-Ring : goal.returns-in-Ring
returns-in-Ring c = λ service are.
    let g = c.args.graph.now in
    let cy : ℕ = c.args.ratio.cycle in
    let pa : ℕ = c.args.ratio.parts in
    let r = c.unwrap-all.result in
    let l : r.list.now ≡ take (vec_len g.edges) c.arcs-arcs.result = search rules in
    let b : r.bases.now ≡ take (vec_len g.tasks) c.bases-bases.result = search rules in
    let one = asked_of g service c.args.spans.now cy pa c.arcs-arcs.result c.bases-bases.result are c.arcs-arcs.ensures.long c.bases-bases.ensures.long c.arcs-arcs.ensures.arcs c.bases-bases.ensures.bases in
    let two : Asked (net_of g) service cy pa r.list.now (take (vec_len g.tasks) c.bases-bases.result) = subst (λ (es : List Arc). Asked (net_of g) service cy pa es (take (vec_len g.tasks) c.bases-bases.result)) (sym l) one in
    let asked : Asked (net_of g) service cy pa r.list.now r.bases.now = subst (λ (base : List ℤ). Asked (net_of g) service cy pa r.list.now base) (sym b) two in
    let told = c.in-Ring.ensures in
    (told.0, is_above (net_of g) service cy pa r.list.now r.bases.now asked told.1.0 _ told.1.1)
