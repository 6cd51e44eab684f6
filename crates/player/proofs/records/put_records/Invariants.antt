-- The lines so far, and the records that still lie on the belt.
use Rattle.std.proofs.Common.{length, map}
use Rattle.belt.specs.Belts.{contents}
use Rattle.flow.specs.Nets.{net_of}
use Rattle.sheets.specs.Pages.{names}
use Rattle.sheets.specs.Reads.{entry}
use Rattle.player.proofs.Telling.{SoFar}
use Rattle.player.proofs.records.put_records.Given as goal

abbrev pub invariant-loop-record : goal.invariant-loop-record
invariant-loop-record l =
    SoFar (net_of l.graph) (names (map entry l.tasks)) l.initial.ledger l.initial.belt l.initial.out l.ledger l.belt l.out

abbrev pub decreases-loop-record : goal.decreases-loop-record
decreases-loop-record l = length (contents l.belt)
