-- Finish records, as the model sees them.
use Rattle.std.specs.Prelude.{ℕ, zero, suc, ◌-◌, Bool, cond, List, [], ◌∷◌, ◌++◌, map}
use Rattle.runs.specs.States.{State, Finished}
use Rattle.runner.specs.declared.record.Record.{Record}

abbrev pub told : Record → Finished
told r = record { task = r.task; firing = r.firing; clock = r.clock }

abbrev pub lying : List Record → List Finished
lying rs = map told rs

-- The records of the first n tasks, of the firings that ended at the tick that led to this state: the last firing of each.
abbrev pub ended : State → (ℕ → Bool) → ℕ → List Finished
ended s ends zero = []
ended s ends (suc v) = ended s ends v ++ cond (ends v) (record { task = v; firing = s.fired v - 1; clock = s.clock } ∷ []) []
