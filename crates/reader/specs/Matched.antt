-- What is kept of the tasks of a sheet.
use Rattle.std.specs.Prelude.{◌≡◌, List, map}
use Rattle.kinds.specs.declared.any_kind.AnyKind.{AnyKind}
use Rattle.layers.specs.declared.stack.Stack.{Stack}
use Rattle.graph.specs.declared.parts.Task.{Task}
use Rattle.sheets.specs.declared.sheet.SheetTask.{SheetTask}
use Rattle.sheets.specs.Pages.{task_of}
use Rattle.sheets.specs.Offers.{AllMade}
use Rattle.sheets.specs.Reads.{entry}

-- Graph tasks and servers are those of the tasks.
pub record Matched (ts : List SheetTask) (ps : List Task) (ss : List (Stack AnyKind)) : Type 0 where
  pub parts : ps ≡ map task_of (map entry ts)
  pub made : AllMade (map entry ts) ss
