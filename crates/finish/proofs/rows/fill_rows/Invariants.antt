-- The firings below i of every task are filled in.
use Rattle.flow.specs.Nets.{net_of}
use Rattle.finish.specs.Table.{arrivals}
use Rattle.finish.specs.Filling.{Advances}
use Rattle.finish.proofs.rows.fill_rows.Given as goal

abbrev pub invariant-loop-i : goal.invariant-loop-i
invariant-loop-i l = Advances (net_of l.waits.graph.now) (arrivals l.waits.graph.now l.waits.n l.times) l.waits.n l.waits.worst.now (λ _. 0) l.fn.ready l.fn.table (λ _. l.i) l.ready l.table
