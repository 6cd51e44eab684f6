-- The parts so far were read, and the others are left.
use Rattle.std.proofs.Common.{◌≡◌, drop}
use Rattle.lexer.specs.Text.{lines}
use Rattle.ahead.specs.Steps.{Carried}
use Rattle.ahead.proofs.ahead.Ahead.take.Given as goal

abbrev pub invariant-loop-part : goal.invariant-loop-part
invariant-loop-part l = record { carried : Carried l.fn.self l.fn.belt l.fn.bytes l.taken l.self l.belt; left : l.part-iterator ≡ lines (drop l.taken l.fn.bytes) }
