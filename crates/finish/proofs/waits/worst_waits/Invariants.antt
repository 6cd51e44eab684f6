-- The waits told so far.
use Rattle.flow.specs.Nets.{net_of}
use Rattle.flow.specs.Finish.{by_worst}
use Rattle.finish.specs.Filling.{Waiting, done_in}
use Rattle.finish.proofs.waits.worst_waits.Given as goal

abbrev pub invariant-loop-v : goal.invariant-loop-v
invariant-loop-v g l = Waiting (net_of l.graph) (by_worst (net_of l.graph) (g.R.Rack.service l.rack)) l.n (done_in l.n l.v 0) l.worst

abbrev pub invariant-loop-j : goal.invariant-loop-j
invariant-loop-j g l = Waiting (net_of l.graph) (by_worst (net_of l.graph) (g.R.Rack.service l.rack)) l.n (done_in l.n l.v l.j) l.worst
