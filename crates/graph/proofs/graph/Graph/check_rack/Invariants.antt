-- The figures of the tasks so far are told.
use Rattle.std.proofs.Common.{ℕ, ◌<◌}
use Rattle.graph.specs.Racked.{TaskTold}
use Rattle.graph.proofs.graph.Graph.check_rack.Given as goal

abbrev pub invariant-loop-v : goal.invariant-loop-v
invariant-loop-v g l = (u : ℕ) → u < l.v → TaskTold l.self (g.R.Rack.service l.rack) u
