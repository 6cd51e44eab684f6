-- One task more is placed, or some ring holds no token.
use Rattle.std.proofs.Common.{◌∙◌}
use Rattle.graph.proofs.Swaps.{placed_more, none_clear}
use Rattle.graph.proofs.edges.Edges.order.Goals as goal

pub returns-in_err-q : goal.returns-in_err-q
returns-in_err-q c =
    let es = c.args.self.now in
    rw c.from_residual.ensures (none_clear es.list.now es.tasks c.loop-p.order c.loop-p.p c.loop-p.invariant.0 es.ends c.loop-p-test.true c.in_err-q.ensures)

pub loop-p-preserved : goal.loop-p-preserved
loop-p-preserved c =
    let es = c.args.self.now in (
      c.swap.ensures.tasks ∙ c.loop-p.invariant.0,
      placed_more es.list.now es.tasks c.loop-p.order c.swap.new.self c.loop-p.p c.in_ok-q.q c.loop-p.invariant.0 es.ends c.loop-p.invariant.1 c.in_ok-q.ensures c.swap.ensures,
    )
