-- Where there is no room for the line.
use Rattle.std.proofs.Common.{arith}
use Rattle.ahead.proofs.Carries.{where_err}
use Rattle.ahead.proofs.ahead.Ahead.end_line.Goals as goal

pub returns-in_err-extend_from_slice-clause-long : goal.returns-in_err-extend_from_slice-clause-long
returns-in_err-extend_from_slice-clause-long c = where_err c.from_residual.result (omega (arith, c.in_err-extend_from_slice.ensures.full, c.in_err-extend_from_slice.ensures.len))
