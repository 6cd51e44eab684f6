-- The table in the order of the numbers has each refusal at its own.
use Rattle.std.proofs.Common.{◌≡◌, arith}
use Rattle.faults.specs.declared.reason.Reason.{Reason}
use Rattle.faults.specs.Numbers.{number_of, reason_by}
use Rattle.faults.proofs.reason.Reason.number.Goals as goal

at_its_number : (r : Reason) → reason_by (number_of r) ≡ r
at_its_number r = grind arith

pub returns-clause-known : goal.returns-clause-known
returns-clause-known c = rw c.from.ensures (at_its_number c.args.self)
