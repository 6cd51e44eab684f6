-- A record more where a firing ended, and else none.
use Rattle.std.proofs.Common.{ℕ, ◌<◌, refl, sym, ap, ◌∙◌, arith, append-nil, length}
use Rattle.runs.specs.States.{Finished}
use Rattle.belt.specs.Belts.{contents, room}
use Rattle.runner.specs.Boards.{shown}
use Rattle.runner.specs.Records.{lying}
use Rattle.runner.specs.Serves.{marked}
use Rattle.runner.proofs.Putting.{put_room, put_there, put_length, put_on, put_off}
use Rattle.runner.proofs.records.put_records.Goals as goal
use Rattle.runner.proofs.records.put_records.Goals.{then-ends-v, else-ends-v}

abbrev finished : ℕ × ℕ × ℕ → Finished
finished q = record { task = q.0; firing = q.1; clock = q.2 }

pub loop-v-init : goal.loop-v-init
loop-v-init c = (refl, λ h. (sym (append-nil _), omega arith))

pub loop-v-preserved : goal.loop-v-preserved
loop-v-preserved c =
    let l = c.loop-v in
    let i = l.invariant in
    let s = shown c.args.board.now in
    let m = marked c.args.ends.now in
    elim c.if-ends-v.branch [
      | then-ends-v w ↦
          rw w.belt-is (
            put_room _ _ _ _ w.put.ensures ∙ i.0,
            λ h.
                let old = i.1 h in
                let fits : length (contents l.belt) < room l.belt = omega (arith, old.1, i.0, h, c.loop-v-test.true) in
                let there = put_there _ _ _ _ w.put.ensures fits in (
                  put_on s m (lying (contents c.args.belt.now)) l.v (contents l.belt) _ _ there w.if-ends-v.true
                      (ap finished w.finish-task.ensures) old.0,
                  omega (arith, put_length (contents l.belt) _ _ there, old.1),
                ),
          )
      | else-ends-v w ↦
          rw w.belt-is (
            i.0,
            λ h.
                let old = i.1 h in
                (put_off s m (lying (contents c.args.belt.now)) l.v (contents l.belt) w.if-ends-v.false old.0, omega (arith, old.1)),
          )
    ]
