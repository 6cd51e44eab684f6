-- The slots so far hold when the job's first ticks were granted; the worst wait for all is told.
use Rattle.std.proofs.Common.{take}
use Rattle.servers.specs.Service.{Model}
use Rattle.serving.proofs.Waiting.{Part}
use Rattle.serving.proofs.serve.Given as goal

abbrev pub model : (g : goal.Over) → Model g.row.S.Denot
model g = record { service = g.S.Server.service; steps = g.S.Server.steps; keeps = g.met.S.Server.keeps; moves = g.met.S.Server.moves }

abbrev pub invariant-loop-time : goal.invariant-loop-time
invariant-loop-time g l = Part (model g) l.initial.server l.claimed l.clock (take l.time-index l.times) l.server
