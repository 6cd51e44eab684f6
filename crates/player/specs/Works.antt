-- The call that a line makes, and what is left of the line.
use Rattle.std.specs.Prelude.{ℕ, ◌-◌, true, false, cond, List, replicate, Option, Some, None, Ok, Err, Result}
use Rattle.faults.specs.declared.fault.Fault.{Fault}
use Rattle.runs.specs.Runs.{Call, arrive, need, tick}
use Rattle.names.specs.Names.{name_bytes}
use Rattle.sheets.specs.Checks.{taken, index_of}
use Rattle.calls.specs.declared.call_line.CallLine.{CallLine}
use Rattle.calls.specs.declared.call_line.CallLine.TheVariants as line
use Rattle.player.specs.declared.work.Ask.{Ask}
use Rattle.player.specs.declared.work.Ask.TheVariants.{Arrive, Need, Tick}
use Rattle.player.specs.declared.work.Work.{Work}

-- Room for what one call prints.
abbrev pub call_room : ℕ
call_room = 1216

-- So many calls of a line are made at once.
abbrev pub calls_at_once : ℕ
calls_at_once = 65536

-- Of so many tasks: in a tick each of their places has the same claim.
abbrev pub call_of : ℕ → Ask → Call
call_of tasks (Arrive v) = arrive v
call_of tasks (Need v ticks) = need v ticks
call_of tasks (Tick claimed) = tick (replicate tasks claimed)

-- One call fewer is left, or after a refusal none.
abbrev pub left_after : Result Unit Fault → Work → Work
left_after (Ok _) w = record { ask = w.ask; left = w.left - 1 }
left_after (Err _) w = record { ask = w.ask; left = 0 }

-- What a line asks for, among tasks of these names; none where no task has its name.
abbrev pub work_in : List (List ℕ) → CallLine → Option Work
work_in ns (line.Arrive task times) = cond (taken ns (name_bytes task)) (Some (record { ask = Arrive (index_of ns (name_bytes task)); left = times })) None
work_in ns (line.Need task ticks) = cond (taken ns (name_bytes task)) (Some (record { ask = Need (index_of ns (name_bytes task)) ticks; left = 1 })) None
work_in ns (line.Quiet ticks) = Some (record { ask = Tick false; left = ticks })
work_in ns (line.Busy ticks) = Some (record { ask = Tick true; left = ticks })
