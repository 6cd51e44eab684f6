-- The first v tasks are served.
use Rattle.std.proofs.Common.{◌≡◌, length}
use Rattle.runner.specs.Serves.{AllServed}
use Rattle.runner.proofs.board.serve_all.Given as goal

abbrev pub invariant-loop-v : goal.invariant-loop-v
invariant-loop-v l =
    (length l.tasks ≡ 16) × (length l.starts ≡ 16) × (length l.ends ≡ 16)
    × AllServed l.initial.tasks l.ready l.grants l.v (l.starts, l.ends) l.tasks
