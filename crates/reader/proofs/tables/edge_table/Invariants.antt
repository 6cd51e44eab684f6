-- The lines so far are in the list, and what is left decides as the whole does.
use Rattle.std.proofs.Common.{◌≡◌, ◌+◌, ◌≤◌, length, drop}
use Rattle.sheets.specs.Pages.{names}
use Rattle.reader.specs.Numbered.{left}
use Rattle.reader.proofs.LinesMore.{Linking}
use Rattle.reader.proofs.tables.edge_table.Given as goal

abbrev pub invariant-loop-line : goal.invariant-loop-line
invariant-loop-line l = record { linking : Linking (names l.entries) l.fn.edges (drop 1 (left l.fn.lines)) l.edges (left l.line-iterator); number : l.line-iterator.number ≡ 7 + (length (names l.entries) + length l.edges); few : length l.edges ≤ 48 }
