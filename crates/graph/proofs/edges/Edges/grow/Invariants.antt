-- A round of marking so far.
use Rattle.graph.proofs.Marks.{Growing}
use Rattle.graph.proofs.edges.Edges.grow.Given as goal

abbrev pub invariant-loop-edge : goal.invariant-loop-edge
invariant-loop-edge l = Growing l.self.list.now l.initial.marked l.edge-index l.more l.marked
