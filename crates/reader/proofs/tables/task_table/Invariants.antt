-- The lines so far are in the lists, and what is left decides as the whole does.
use Rattle.std.proofs.Common.{◌≡◌, ◌+◌, ◌≤◌, length, drop}
use Rattle.reader.specs.Numbered.{left}
use Rattle.reader.proofs.LinesMore.{Entering}
use Rattle.reader.proofs.tables.task_table.Given as goal

abbrev pub invariant-loop-line : goal.invariant-loop-line
invariant-loop-line l = record { entering : Entering l.fn.entries (drop 1 (left l.fn.lines)) l.entries (left l.lines); number : l.lines.number ≡ 5 + length l.entries; few : length l.entries ≤ 16 }

abbrev pub decreases-loop-line : goal.decreases-loop-line
decreases-loop-line l = length (left l.lines)
