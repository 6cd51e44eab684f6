-- The entries written are right.
use Rattle.std.proofs.Common.{arith}
use Rattle.flow.specs.Nets.{net_of}
use Rattle.finish.proofs.Tells.{stepped}
use Rattle.finish.proofs.step.Waits.step.Goals as goal

pub returns-clause-stepped : goal.returns-clause-stepped
returns-clause-stepped c =
    stepped (net_of c.args.self.now.graph.now) c.args.self.now.n c.args.v c.args.i c.args.arrival c.args.self.now.worst.now c.args.ready.now c.args.table.now c.ready_at.result c.min-bound.result c.latest.result
    (λ e h. c.args.self.now.graph.now.ends.from e (omega (arith, c.args.self.now.graph.now.edges.ok.0))) c.requires.task c.requires.firing c.requires.kept c.requires.shaped c.ready_at.ensures c.latest.ensures c.min-bound.ensures
