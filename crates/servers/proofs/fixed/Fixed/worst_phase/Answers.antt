-- Just after the slice the waits are the worst, and a wait is exact in every phase.
use Rattle.std.proofs.Common.{arith}
use Rattle.servers.proofs.GrantsExact.{exactly}
use Rattle.servers.proofs.WorstPhase.{worst_after, worst_whole}
use Rattle.servers.proofs.fixed.Fixed.worst_phase.Goals as goal

pub returns-then-self-clause-attains : goal.returns-then-self-clause-attains
returns-then-self-clause-attains c = let z = c.args.self.now.slice in worst_after z.period z.ticks z.some z.within c.if-self.true

pub returns-then-self-clause-exact : goal.returns-then-self-clause-exact
returns-then-self-clause-exact c = exactly

pub returns-else-self-clause-attains : goal.returns-else-self-clause-attains
returns-else-self-clause-attains c = let z = c.args.self.now.slice in worst_whole z.period z.ticks z.some z.within (omega arith)

pub returns-else-self-clause-exact : goal.returns-else-self-clause-exact
returns-else-self-clause-exact c = exactly
