-- The mark tells of the edges, and the arrival decides.
use Rattle.std.proofs.Common.{rules}
use Rattle.runner.proofs.Ticks.{by_arrival, by_edges}
use Rattle.runner.proofs.board.Board.is_supplied.Goals as goal

pub returns-then-self-v : goal.returns-then-self-v
returns-then-self-v c = by_arrival c.args.graph.now c.args.self.now c.args.v c.is_awaited.result ((c.requires.marked c.args.v (search rules)).0 (search rules)) c.is_awaited.ensures

pub returns-else-self-v : goal.returns-else-self-v
returns-else-self-v c = by_edges c.args.graph.now c.args.self.now c.args.v _ (c.requires.marked c.args.v (search rules)) c.if-self-v.false
