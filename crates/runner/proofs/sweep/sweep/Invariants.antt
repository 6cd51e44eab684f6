-- The first v places are ticked.
use Rattle.std.proofs.Common.{◌≡◌, ◌≤◌, length}
use Rattle.runs.specs.Runs.{Sweep}
use Rattle.runner.specs.Serves.{marked}
use Rattle.runner.proofs.sweep.sweep.Given as goal

abbrev pub invariant-loop-v : goal.invariant-loop-v
invariant-loop-v g l =
    (length l.grants ≡ 16)
    × (length l.claims ≤ g.R.Rack.places l.initial.rack → (g.R.Rack.places l.rack ≡ g.R.Rack.places l.initial.rack) × Sweep g.R.Rack.steps l.claims (marked l.grants) l.initial.rack l.v l.rack)
