-- The checks of a task's server.
use Rattle.std.specs.Prelude.{ℕ, not, List, [], ◌∷◌}
use Rattle.faults.specs.Faults.{fault}
use Rattle.faults.specs.declared.layer.Layer.TheVariants.{Server}
use Rattle.cells.specs.Checks.{Check}
use Rattle.sheets.specs.Checks.{legal_server}
use Rattle.sheets.specs.Pages.{Entry}

abbrev pub server_checks : ℕ → Entry → List Check
server_checks line e = record { broken = not (legal_server e); told = fault 10 Server line 0 } ∷ []
