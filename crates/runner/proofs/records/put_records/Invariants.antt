-- The records of the first v tasks are put.
use Rattle.std.proofs.Common.{◌≡◌, ◌+◌, ◌≤◌, ◌++◌, length}
use Rattle.belt.specs.Belts.{contents, room}
use Rattle.runner.specs.Boards.{shown}
use Rattle.runner.specs.Records.{lying, ended}
use Rattle.runner.specs.Serves.{marked}
use Rattle.runner.proofs.records.put_records.Given as goal

abbrev pub invariant-loop-v : goal.invariant-loop-v
invariant-loop-v l =
    (room l.belt ≡ room l.initial.belt)
    × (length (contents l.initial.belt) + l.n ≤ room l.initial.belt →
    (lying (contents l.belt) ≡ lying (contents l.initial.belt) ++ ended (shown l.board) (marked l.ends) l.v) × (length (contents l.belt) ≤ length (contents l.initial.belt) + l.v))
