-- The first task with a figure above the ceiling is refused at its line.
use Rattle.std.proofs.Common.{◌≡◌, ap, ◌∙◌, rules}
use Rattle.std.proofs.lemmas.Result.{err_from_is_err_and}
use Rattle.faults.specs.Faults.{fault}
use Rattle.faults.specs.declared.layer.Layer.TheVariants.{Graph}
use Rattle.graph.specs.Racked.{above}
use Rattle.graph.proofs.graph.Graph.check_rack.Goals as goal

pub returns-in_err-map_err : goal.returns-in_err-map_err
returns-in_err-map_err g c =
    let r = err_from_is_err_and c.from_residual.result c.from_residual.ensures.1 in
    let told : c.in_err-map_err.field-0.0 ≡ c.refuses-above.result = search rules in
    rw r.1 (above c.loop-v.v (r.2 ∙ told ∙ c.refuses-above.ensures ∙ ap (λ l. fault 12 Graph l 0) c.line.ensures) (search rules) (search rules) c.loop-v.invariant (search rules))
