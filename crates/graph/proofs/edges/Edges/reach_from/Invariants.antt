-- The task is marked, and nothing wrongly; each round marks one more at least.
use Rattle.graph.specs.Reached.{Marked, MarksReached, unmarked}
use Rattle.graph.proofs.edges.Edges.reach_from.Given as goal

abbrev pub invariant-loop : goal.invariant-loop
invariant-loop l = Marked l.marked l.task × MarksReached l.self.list.now l.task l.marked

abbrev pub decreases-loop : goal.decreases-loop
decreases-loop l = unmarked l.marked
