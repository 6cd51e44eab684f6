-- One place more is ticked.
use Rattle.std.proofs.Common.{arith, refl, ◌∙◌, length-set}
use Rattle.runs.specs.Runs.{none}
use Rattle.runner.proofs.Sweeps.{sweep_more}
use Rattle.runner.proofs.sweep.sweep.Goals as goal
use Rattle.runner.proofs.sweep.sweep.Goals.{in-Ok, in-Err}

pub loop-v-init : goal.loop-v-init
loop-v-init g c = (refl, λ h. (refl, none))

pub loop-v-preserved : goal.loop-v-preserved
loop-v-preserved g c =
    let i = c.loop-v.invariant in
    elim c.match-tick.branch [
      | in-Ok w ↦
          rw w.grants-is (
            length-set c.loop-v.grants c.loop-v.v w.in-Ok.granted ∙ i.0,
            λ h.
                let old = i.1 h in
                let k = w.in-Ok.ensures in (
                  g.met.R.Rack.stays _ _ _ _ _ k.1 ∙ old.0,
                  sweep_more g.R.Rack.steps c.args.claims.now c.loop-v.grants c.args.rack.now c.loop-v.rack c.tick.new.self c.loop-v.v w.in-Ok.granted (omega (arith, i.0, c.loop-v-test.true, c.requires)) old.1 k.1,
                ),
          )
      | in-Err w ↦
          let k = w.in-Err.ensures in
          rw w.grants-is (i.0, λ h. absurd (omega (arith, k.1, (i.1 h).0, c.loop-v-test.true)))
    ]
