-- Three fields, where there are so many.
use Rattle.std.proofs.Common.{◌≡◌, true, refl, sym, ◌∙◌}
use Rattle.cells.specs.Bytes.{parted}
use Rattle.calls.proofs.Three.{three}
use Rattle.calls.proofs.fields.CallFields.new.Goals as goal

pub returns : goal.returns
returns c =
    let whole : parted 3 c.args.line.text.now ≡ true = sym c.is_parted.ensures ∙ c.in_ok-must.ensures.1 in
    (rw whole refl, three _ c.args.line.text.now c.new-fields.result c.next.new.self c.next-2.new.self c.next-3.new.self c.next.result c.next-2.result c.next-3.result whole c.new-fields.ensures.left c.new-fields.ensures.line c.new-fields.ensures.field c.next.ensures c.next-2.ensures c.next-3.ensures)
