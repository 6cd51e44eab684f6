-- What the lines of a sheet are read into.
use Rattle.std.specs.Prelude.{◌≡◌}
use Rattle.sheets.specs.Pages.{Page}
use Rattle.reader.specs.declared.lists.Lists.{Lists}

pub record ListsSay (p : Page) (x : Lists) : Type 0 where
  pub goal : x.goal ≡ p.goal
  pub tasks : x.entries ≡ p.tasks
  pub edges : x.edges ≡ p.edges
