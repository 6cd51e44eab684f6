-- A stack over a server that was made.
use Rattle.sheets.specs.Reads.{entry}
use Rattle.sheet_lines.proofs.Servers.{server_meets}
use Rattle.sheet_lines.proofs.entry.server_in.Goals as goal

pub returns : goal.returns
returns c =
    let k = c.in_ok-below.ensures in
    server_meets (entry c.args.task.now) c.in_ok-below.below c.args.line c.new-2.result k.0 k.1 c.new-2.ensures
