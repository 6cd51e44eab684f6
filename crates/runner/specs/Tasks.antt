-- The record of a task, and what a firing of it still needs.
use Rattle.std.specs.Prelude.{ℕ, ◌+◌, List, slice_index_or}
use Rattle.runner.specs.declared.task.Stage.{Stage}
use Rattle.runner.specs.declared.task.Stage.TheVariants.{Idle, UnderWay}
use Rattle.runner.specs.declared.task.TaskRecord.{TaskRecord}

-- The granted ticks that a task's firing still needs, 0 where none is under way.
abbrev pub to_go_at : Stage → ℕ
to_go_at Idle = 0
to_go_at (UnderWay after) = after + 1

-- A task that is not there.
abbrev pub no_record : TaskRecord
no_record = record { stage = Idle; waiting = 0; need = 0; fired = 0 }

abbrev pub task_in : List TaskRecord → ℕ → TaskRecord
task_in ts v = slice_index_or ts v no_record
