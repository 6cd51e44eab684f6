-- What a sheet's value says, and what a reader of sheets answers.
use Rattle.std.specs.Prelude.{◌≡◌, ℕ, List, map, Ok, Err, vec_items, vec_len, Result}
use Rattle.faults.specs.declared.fault.Fault.{Fault}
use Rattle.kinds.specs.AnyKinds.{any_service}
use Rattle.layers.specs.Stacks.{stack_service}
use Rattle.names.specs.Names.{name_bytes}
use Rattle.rows.specs.Rows.{row_service}
use Rattle.graph.specs.Racked.{Racked}
use Rattle.graph.specs.declared.origin.Origin.TheVariants as origin
use Rattle.sheets.specs.declared.sheet.SheetTask.{SheetTask}
use Rattle.sheets.specs.declared.sheet.Sheet.{Sheet}
use Rattle.sheets.specs.Pages.{Entry, Page, task_of}
use Rattle.sheets.specs.Offers.{AllMade}
use Rattle.sheets.specs.Laws.{Written, Refused}

-- What a sheet's value says of a task, and all that it says.
abbrev pub entry : SheetTask → Entry
entry t = record { name = name_bytes t.name; time = t.time; kind = t.kind; slice = t.slice; layer = t.layer; inlet = t.inlet }

abbrev pub entries : Sheet → List Entry
entries s = map entry (vec_items s.tasks)

abbrev pub page : Sheet → Page
page s = record { goal = s.graph.goal; tasks = entries s; edges = vec_items s.graph.edges }

-- Graph and rack are those of the sheet's tasks, and fit each other.
pub record Planned (s : Sheet) : Type 0 where
  pub tasks_are : vec_items s.graph.tasks ≡ map task_of (entries s)
  pub origin_is : s.graph.origin ≡ origin.Sheet
  pub made : AllMade (entries s) (vec_items s.rack.servers)
  pub fits : Racked s.graph (vec_len s.rack.servers) (row_service (stack_service any_service) (vec_items s.rack.servers))

-- The text is the written form of what the sheet says, and graph and rack are the sheet's.
pub record Accepted (t : List ℕ) (s : Sheet) : Type 0 where
  pub written : Written t (page s)
  pub planned : Planned s

-- A text is answered by the sheet that it is the written form of, or by its fault.
abbrev pub Says : List ℕ → Result Sheet Fault → Type 0
Says t (Ok s) = Accepted t s
Says t (Err f) = Refused t f

-- The answer is a sheet that says p.
abbrev pub Gives : Page → Result Sheet Fault → Type 0
Gives p (Ok s) = page s ≡ p
Gives p (Err f) = ⊥

-- What a reader answers of a text. Reading is the inverse of writing: a text that it takes is the written form of what it answers, and of the written form of a legal sheet it answers that sheet; and the one fault of any other text.
pub record Reads (t : List ℕ) (r : Result Sheet Fault) : Type 0 where
  pub says : Says t r
  pub back : (p : Page) → Written t p → Gives p r
  pub tells : (f : Fault) → Refused t f → r ≡ Err f
