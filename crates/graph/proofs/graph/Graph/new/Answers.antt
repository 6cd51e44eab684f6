-- A ring is refused at the line of its topmost task.
use Rattle.std.proofs.Common.{ap, ◌∙◌, rules}
use Rattle.faults.specs.Faults.{fault}
use Rattle.faults.specs.declared.layer.Layer.TheVariants.{Graph}
use Rattle.graph.specs.Graphs.{ring}
use Rattle.graph.proofs.graph.Graph.new.Goals as goal

pub returns-in-Some : goal.returns-in-Some
returns-in-Some c =
    ring _ (c.refuses-in-Some.ensures ∙ ap (λ l. fault 11 Graph l 0) c.line.ensures) (search rules) (search rules) (search rules) (search rules)
