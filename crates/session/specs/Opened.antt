-- How a session begins: a sheet's text, and what is printed of it.
use Rattle.std.specs.Prelude.{◌≡◌, ℕ, ◌+◌, ◌<◌, Bool, List, [], ◌∷◌, ◌++◌, codes, Option, Some, None, Ok, Err, Result, Vec, vec_items, vec_len, vec_capacity}
use Rattle.std.specs.declared.alloc.AllocError.{AllocError}
use Rattle.faults.specs.Faults.{fault_line}
use Rattle.faults.specs.declared.fault.Fault.{Fault}
use Rattle.servers.specs.Service.{Service}
use Rattle.belt.specs.Belts.{room}
use Rattle.ahead.specs.Texts.{Reads as IsRead}
use Rattle.ahead.specs.declared.ahead.Ahead.{Ahead}
use Rattle.kinds.specs.AnyKinds.{any_service, AnySteps}
use Rattle.kinds.specs.declared.any_kind.AnyKind.{AnyKind}
use Rattle.layers.specs.Stacks.{stack_service, StackSteps}
use Rattle.layers.specs.declared.stack.Stack.{Stack}
use Rattle.rows.specs.Rows.{row_service, RowSteps}
use Rattle.rows.specs.declared.Row.{Row}
use Rattle.lexer.specs.Text.{end, line_of}
use Rattle.sheets.specs.declared.sheet.Sheet.{Sheet}
use Rattle.sheets.specs.Laws.{Refused}
use Rattle.sheets.specs.Reads.{Accepted}
use Rattle.texts.specs.Puts.{Added}
use Rattle.player.specs.Openings.{Starts}
use Rattle.player.specs.Works.{call_room}
use Rattle.session.specs.Sessions.{Plays}
use Rattle.session.specs.declared.session.Session.{Session}

-- The line above all finish records.
abbrev pub heading : List ℕ
heading = line_of (codes "task" ∷ codes "firing" ∷ codes "finish" ∷ codes "bound" ∷ [])

-- The rack of a sheet: a row of servers of any kind, each with a layer or without.
abbrev pub SheetRack : Type 0
SheetRack = Row (Stack AnyKind)

-- How many places it has.
abbrev pub sheet_places : SheetRack → ℕ
sheet_places a = vec_len a.servers

-- What the server at a place of it offers.
abbrev pub sheet_service : SheetRack → ℕ → Service
sheet_service a = row_service (stack_service any_service) (vec_items a.servers)

-- A tick at a place of it is one of the server there.
abbrev pub sheet_steps : SheetRack → ℕ → Bool → Bool → SheetRack → Type 0
sheet_steps a k claimed granted b = RowSteps (StackSteps AnySteps) (vec_items a.servers) k claimed granted (vec_items b.servers)

-- The text is a sheet's, and the session plays its tasks from the start on the slots that were lent. With nothing read ahead, nothing is read and nothing printed.
pub record OpensWith (t : List ℕ) (a : Ahead) (slots given_slots : ℕ) (s : Session SheetRack) : Type 0 where
  pub sheet : Sheet
  pub accepted : Accepted t sheet
  pub starts : Starts sheet_places sheet_service sheet_steps (vec_items sheet.tasks) sheet.graph sheet.rack slots s.player
  pub given : room s.given ≡ given_slots
  pub ahead : s.ahead ≡ a
  pub plays : IsRead [] [] a → Plays sheet_places sheet_service sheet_steps s.player [] [] 0 s

-- A sheet's session and the heading, or no session and the refusal of the text; or memory lacks, which a buffer with room for one call never wants, and its contents are as they were.
abbrev pub Opens : {Z : Type 0} → List ℕ → Ahead → ℕ → ℕ → Vec ℕ Z → Result (Option (Session SheetRack)) AllocError → Vec ℕ Z → Type 0
Opens t a slots given_slots v (Ok (Some s)) w = OpensWith t a slots given_slots s × Added v heading w
Opens t a slots given_slots v (Ok None) w = (f : Fault) × Refused t f × Added v (fault_line f ++ end) w
Opens t a slots given_slots v (Err _) w = (vec_items w ≡ vec_items v) × (vec_capacity v < vec_len v + call_room)
