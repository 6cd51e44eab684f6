-- The last byte tells.
use Rattle.std.proofs.Common.{◌-◌, length, arith}
use Rattle.std.proofs.lemmas.Bool.Decides.{nat_tests}
use Rattle.ahead.proofs.Cuts.{last_tells}
use Rattle.ahead.proofs.reading.is_ended.Goals as goal

pub returns-in-10 : goal.returns-in-10
returns-in-10 c =
    let is = last_tells c.args.part.now (length c.args.part.now - 1) (omega arith) c.requires in
    grind (arith, nat_tests)

pub returns-in_default-2 : goal.returns-in_default-2
returns-in_default-2 c =
    let is = last_tells c.args.part.now (length c.args.part.now - 1) (omega arith) c.requires in
    grind (arith, nat_tests)
