-- One task more is served.
use Rattle.std.proofs.Common.{arith}
use Rattle.runner.proofs.Serving.{served_more}
use Rattle.runner.proofs.board.serve_all.Goals as goal

pub loop-v-preserved : goal.loop-v-preserved
loop-v-preserved c =
    let l = c.loop-v in
    let i = l.invariant in
    served_more c.args.tasks.now l.tasks c.args.ready.now c.args.grants.now l.starts l.ends l.v _ _ _ i.0 i.1 i.2 (omega (arith, c.loop-v-test.true, c.requires.few)) i.3 c.serve-started.ensures
