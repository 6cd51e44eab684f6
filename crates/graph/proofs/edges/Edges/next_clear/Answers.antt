-- The first place that is found is clear, and each one before it waits.
use Rattle.std.proofs.Common.{get_or, rules, tests}
use Rattle.std.proofs.lemmas.Iterator.{first_from_Range}
use Rattle.graph.specs.Ordered.{Waits, Clear}
use Rattle.graph.proofs.edges.Edges.next_clear.Goals as goal

pub returns : goal.returns
returns c =
    let es = c.args.self.now in
    let o = c.args.order.now in
    let p = c.args.p in
    let found = first_from_Range (record { start = p; end = es.tasks }) _ _ c.find.result (λ q. Clear es.list.now o.place p (get_or o.list q 0)) (λ q. Waits es.list.now o.place p (get_or o.list q 0)) c.find.ensures.ran (λ x q r. search (rules, tests)) (λ x q r. search (rules, tests)) in
    search rules
