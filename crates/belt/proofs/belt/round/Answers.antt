-- A place below twice the room wraps once at most.
use Rattle.std.proofs.Common.{◌∙◌, sym, mod-eq_of_lt, arith}
use Rattle.std.proofs.Math.Nat.{mod-eq-sub-mod}
use Rattle.belt.proofs.belt.round.Goals as goal

pub returns-then-place-room : goal.returns-then-place-room
returns-then-place-room c = sym (mod-eq_of_lt (omega (arith, c.if-place-room.true)))

pub returns-else-place-room : goal.returns-else-place-room
returns-else-place-room c = sym (mod-eq-sub-mod (omega (arith, c.if-place-room.false)) ∙ mod-eq_of_lt (omega (arith, c.if-place-room.false)))
