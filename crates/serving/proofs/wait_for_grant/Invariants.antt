-- So far no tick was granted; the wait for one falls.
use Rattle.servers.specs.Service.{Model}
use Rattle.serving.proofs.Waiting.{Missed}
use Rattle.serving.proofs.wait_for_grant.Given as goal

abbrev pub model : (g : goal.Over) → Model g.row.S.Denot
model g = record { service = g.S.Server.service; steps = g.S.Server.steps; keeps = g.met.S.Server.keeps; moves = g.met.S.Server.moves }

abbrev pub invariant-loop-missed : goal.invariant-loop-missed
invariant-loop-missed g l = Missed (model g) l.initial.server l.claimed l.missed l.server

abbrev pub decreases-loop-missed : goal.decreases-loop-missed
decreases-loop-missed g l = (g.S.Server.service l.server).wait 1
