-- The first k times do not fall.
use Rattle.finish.specs.Table.{Rises}
use Rattle.finish.proofs.checks.row_rises.Given as goal

abbrev pub invariant-loop-k : goal.invariant-loop-k
invariant-loop-k l = Rises l.times l.n l.r l.k
