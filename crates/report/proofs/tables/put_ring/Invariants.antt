-- The lines so far stand behind what the buffer held.
use Rattle.std.proofs.Common.{take}
use Rattle.std.specs.List.{flat_map}
use Rattle.sheets.specs.Reads.{page}
use Rattle.texts.specs.Puts.{Added}
use Rattle.report.specs.Texts.{ring_line}
use Rattle.report.proofs.tables.put_ring.Given as goal

abbrev pub invariant-loop-place : goal.invariant-loop-place
invariant-loop-place l = Added l.initial.out (flat_map (ring_line (page l.sheet)) (take l.place-index l.places)) l.out
