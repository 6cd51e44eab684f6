-- The line of a sheet on which a task stands.
use Rattle.std.specs.Prelude.{ℕ, ◌+◌}
use Rattle.graph.specs.declared.origin.Origin.{Origin}
use Rattle.graph.specs.declared.origin.Origin.TheVariants.{Built, Sheet}

abbrev pub line_of : Origin → ℕ → ℕ
line_of Built v = 0
line_of Sheet v = 5 + v
