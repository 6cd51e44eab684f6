-- Reading is the inverse of writing, as `sheets` proves.
use Rattle.std.proofs.Common.{Result, refl}
use Rattle.faults.specs.declared.fault.Fault.{Fault}
use Rattle.sheets.specs.declared.sheet.Sheet.{Sheet}
use Rattle.sheets.specs.Legal.{Legal}
use Rattle.sheets.specs.Pages.{write}
use Rattle.sheets.specs.Reads.{page, Says, Gives}
use Rattle.sheets.proofs.Decides.{reads_is}
use Rattle.writer.proofs.write.Goals as goal

back : (s : Sheet) (r : Result Sheet Fault) → Legal (page s) → Says (write (page s)) r → Gives (page s) r
back s r h says = (reads_is _ r says).back (page s) (record { is = refl; legal = h })

pub returns-clause-reads_back : goal.returns-clause-reads_back
returns-clause-reads_back c = back c.args.sheet.now
