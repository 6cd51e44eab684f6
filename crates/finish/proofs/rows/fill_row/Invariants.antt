-- Firing i of the first p tasks in the order is filled in.
use Rattle.flow.specs.Nets.{net_of}
use Rattle.finish.specs.Table.{arrivals}
use Rattle.finish.specs.Filling.{Advances, done_at}
use Rattle.finish.proofs.rows.fill_row.Given as goal

abbrev pub invariant-loop-p : goal.invariant-loop-p
invariant-loop-p l = Advances (net_of l.waits.graph.now) (arrivals l.waits.graph.now l.waits.n l.times) l.waits.n l.waits.worst.now (λ _. l.i) l.fn.ready l.fn.table (done_at l.waits.graph.now.order.place l.i l.p) l.ready l.table
