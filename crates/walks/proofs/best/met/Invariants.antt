-- The walk so far does not meet the task.
use Rattle.std.proofs.Common.{◌≡◌, ℕ, ◌<◌, get_or}
use Rattle.walks.specs.Arcs.{arc_at}
use Rattle.walks.proofs.best.met.Given as goal

abbrev pub invariant-loop-i : goal.invariant-loop-i
invariant-loop-i l = (j : ℕ) → j < l.i → (arc_at l.arcs (get_or l.best.walk j 0)).from ≡ l.task → ⊥
