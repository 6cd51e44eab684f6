-- Of nothing, nothing was given.
use Rattle.std.proofs.Common.{[], sym, ap, rules}
use Rattle.ahead.specs.Givens.{none}
use Rattle.ahead.specs.Texts.{unended}
use Rattle.ahead.proofs.Alike.{one_given}
use Rattle.ahead.proofs.ahead.Ahead.new.Goals as goal

pub returns-clause-reads : goal.returns-clause-reads
returns-clause-reads c =
    let empty = c.in_ok-with_capacity.ensures.items in
    record { told = []; text = sym empty; each = tt; behind = ap unended empty; number = search rules; give = none }

pub returns-clause-one : goal.returns-clause-one
returns-clause-one c = one_given

pub returns-in_err-with_capacity-clause-one : goal.returns-in_err-with_capacity-clause-one
returns-in_err-with_capacity-clause-one c = one_given
