-- The lines so far stand behind what the buffer held.
use Rattle.std.proofs.Common.{take}
use Rattle.std.specs.List.{flat_map, range_with_len}
use Rattle.std.proofs.Common.{vec_len}
use Rattle.sheets.specs.Reads.{page}
use Rattle.texts.specs.Puts.{Added}
use Rattle.report.specs.Texts.{task_line}
use Rattle.report.proofs.tables.put_tasks.Given as goal

abbrev pub invariant-loop-place : goal.invariant-loop-place
invariant-loop-place l = Added l.initial.out (flat_map (task_line (page l.sheet) l.figures) (take l.place (range_with_len 0 (vec_len l.sheet.tasks)))) l.out
