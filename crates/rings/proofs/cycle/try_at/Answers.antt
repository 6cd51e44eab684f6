-- What the search found at cycle over parts; a ring has the ratio of its own weight and tokens.
use Rattle.std.proofs.Common.{◌≡◌, ℕ, ◌*◌, map, length, sym, ap, ◌∙◌, subst, rules, arith}
use Rattle.flow.specs.Nets.{net_of}
use Rattle.flow.specs.Rings.{weight, edge}
use Rattle.walks.specs.Arcs.{arcs_of}
use Rattle.ratios.specs.Ratios.{OfRing, Is}
use Rattle.rings.specs.declared.at_ratio.AtRatio.TheVariants.{Slower}
use Rattle.rings.specs.AtRatios.{Finds}
use Rattle.rings.proofs.Asked.{by_spans}
use Rattle.rings.proofs.Growing.{greater}
use Rattle.rings.proofs.Walked.{on_edges, some_weight, some_tokens}
use Rattle.rings.proofs.cycle.try_at.Goals as goal

pub returns-in-Starts : goal.returns-in-Starts
returns-in-Starts c = λ service are. subst (λ f. Finds (net_of c.args.graph.now) service c.args.ratio.cycle c.args.ratio.parts f) c.in-Starts.is (c.search.ensures service are)

pub weight-requires-clause-few : goal.weight-requires-clause-few
weight-requires-clause-few c =
    let n = net_of c.args.graph.now in
    let s = by_spans c.args.weights.now.spans in
    (subst (λ f. Finds n s c.args.ratio.cycle c.args.ratio.parts f) c.in-Slower.is (c.search.ensures s (λ v h. omega arith))).0

pub weight-requires-clause-edges : goal.weight-requires-clause-edges
weight-requires-clause-edges c =
    let n = net_of c.args.graph.now in
    let s = by_spans c.args.weights.now.spans in
    let told : Finds n s c.args.ratio.cycle c.args.ratio.parts (Slower c.in-Slower.walk) = subst (λ f. Finds n s c.args.ratio.cycle c.args.ratio.parts f) c.in-Slower.is (c.search.ensures s (λ v h. omega arith)) in
    let room : length c.in-Slower.walk.arcs ≡ 16 = search rules in
    on_edges c.args.graph.now c.in-Slower.walk told.0 room told.1.ring

pub tokens-requires-clause-few : goal.tokens-requires-clause-few
tokens-requires-clause-few c =
    let n = net_of c.args.graph.now in
    let s = by_spans c.args.weights.now.spans in
    (subst (λ f. Finds n s c.args.ratio.cycle c.args.ratio.parts f) c.in-Slower.is (c.search.ensures s (λ v h. omega arith))).0

pub tokens-requires-clause-edges : goal.tokens-requires-clause-edges
tokens-requires-clause-edges c =
    let n = net_of c.args.graph.now in
    let s = by_spans c.args.weights.now.spans in
    let told : Finds n s c.args.ratio.cycle c.args.ratio.parts (Slower c.in-Slower.walk) = subst (λ f. Finds n s c.args.ratio.cycle c.args.ratio.parts f) c.in-Slower.is (c.search.ensures s (λ v h. omega arith)) in
    let room : length c.in-Slower.walk.arcs ≡ 16 = search rules in
    on_edges c.args.graph.now c.in-Slower.walk told.0 room told.1.ring

pub unwrap-requires : goal.unwrap-requires
unwrap-requires c =
    let g = c.args.graph.now in
    let r = c.args.ratio in
    let n = net_of g in
    let s = by_spans c.args.weights.now.spans in
    let told : Finds n s r.cycle r.parts (Slower c.in-Slower.walk) = subst (λ f. Finds n s r.cycle r.parts f) c.in-Slower.is (c.search.ensures s (λ v h. omega arith)) in
    let w_is : c.weight.result ≡ weight n s (map edge (arcs_of c.in-Slower.walk)) = c.weight.ensures.value s (λ v h. omega arith) in
    let w = some_weight n s r.cycle r.parts (arcs_of c.in-Slower.walk) told.1 in
    let t = some_tokens g (arcs_of c.in-Slower.walk) told.1.ring in
    let of : OfRing c.weight.result c.tokens.result = record {
      weighs = omega arith;
      light = omega (arith, c.weight.ensures.bound, told.0);
      holds = omega (arith, c.tokens.ensures.value);
      few = omega (arith, c.tokens.ensures.bound, told.0);
    } in
    search rules

pub returns-in-Slower : goal.returns-in-Slower
returns-in-Slower c = λ service are.
    let r = c.args.ratio in
    let r' = c.unwrap.result in
    let n = net_of c.args.graph.now in
    let told : Finds n service r.cycle r.parts (Slower c.in-Slower.walk) = subst (λ f. Finds n service r.cycle r.parts f) c.in-Slower.is (c.search.ensures service are) in
    let is : Is r' c.weight.result c.tokens.result = search rules in (
      record {
        ring = told.1.ring;
        meets = ap (λ (x : ℕ). r'.parts * x) (sym (c.weight.ensures.value service are)) ∙ is.same ∙ ap (λ (x : ℕ). r'.cycle * x) c.tokens.ensures.value;
      },
      told.0,
      greater r.cycle r.parts c.weight.result c.tokens.result r'.cycle r'.parts _ _ (c.weight.ensures.value service are) c.tokens.ensures.value told.1.above is.same r'.parts_some,
    )
