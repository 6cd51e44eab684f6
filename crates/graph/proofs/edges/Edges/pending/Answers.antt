-- The closure may be called at each edge, since its ends are tasks.
use Rattle.std.proofs.Common.{◌<◌, ap, ◌∙◌, rules, arith}
use Rattle.std.proofs.lemmas.Iterator.{YieldsList-from_slice}
use Rattle.std.proofs.lemmas.Iterator.Adapters.{serves_from_places}
use Rattle.std.proofs.lemmas.List.{get_or_default}
use Rattle.graph.specs.Edges.{no_edge}
use Rattle.graph.proofs.edges.Edges.pending.Goals as goal

pub any-requires-clause-callable : goal.any-requires-clause-callable
any-requires-clause-callable c =
    let es = c.args.self.now in
    serves_from_places (YieldsList-from_slice es.list.now cc) (λ x q r. search rules)
    (λ x k h e. let from : x.now.from < 16 = omega (arith, es.few, es.ends.from k h, ap (λ y. y.from) (e ∙ get_or_default es.list.now k x.now no_edge h)) in search rules)
