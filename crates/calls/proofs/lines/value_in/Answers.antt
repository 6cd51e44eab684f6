-- A number in its range, as it is written.
use Rattle.calls.proofs.Read.{value_written}
use Rattle.calls.proofs.lines.value_in.Goals as goal

pub returns : goal.returns
returns c = value_written c.args.t.line c.args.t.field c.args.t.part.now c.number_in.result c.number_in.ensures
