-- What is left decides, with the fields counted so far.
use Rattle.std.proofs.Common.{◌≡◌, ◌+◌, ◌≤◌, ◌&&◌, eqb, length}
use Rattle.cells.specs.Bytes.{filled, parted}
use Rattle.cells.proofs.line.is_parted.Given as goal

abbrev pub invariant-loop-part : goal.invariant-loop-part
invariant-loop-part l = (l.count ≤ l.n) × (parted l.n l.text ≡ (filled l.part-iterator && eqb (l.count + length l.part-iterator) l.n))
