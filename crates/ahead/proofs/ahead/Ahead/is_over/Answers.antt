-- Below a refused line nothing is read.
use Rattle.std.proofs.Common.{true}
use Rattle.ahead.proofs.Told.{whole_over}
use Rattle.ahead.proofs.ahead.Ahead.is_over.Goals as goal

pub returns-clause-whole : goal.returns-clause-whole
returns-clause-whole c = λ is t more gs r. (true, whole_over c.args.self.now t more gs is r)
