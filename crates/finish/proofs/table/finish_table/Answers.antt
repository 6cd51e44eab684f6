-- The rack is refused as the graph refuses it.
use Rattle.std.proofs.Common.{refl}
use Rattle.std.proofs.lemmas.Result.{err_from_is_err_and}
use Rattle.finish.specs.Table.{rack}
use Rattle.finish.proofs.table.finish_table.Goals as goal

pub returns-in_err-check_rack : goal.returns-in_err-check_rack
returns-in_err-check_rack g c =
    let r = err_from_is_err_and c.from_residual.result c.from_residual.ensures.1 in
    rack r.0 r.1 (rw r.2 c.in_err-check_rack.ensures) refl
