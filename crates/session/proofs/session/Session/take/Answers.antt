-- What is read is carried on.
use Rattle.std.proofs.Common.{refl}
use Rattle.session.proofs.Playing.{reads_some}
use Rattle.session.proofs.session.Session.take.Goals as goal

pub returns-clause-reads : goal.returns-clause-reads
returns-clause-reads g c = reads_some g.R.Rack.places g.R.Rack.service g.R.Rack.steps c.args.self.now c.args.bytes.now _ c.take.result refl c.take.ensures.carried
