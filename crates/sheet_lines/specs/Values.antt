-- The values that are left of a line, and the checks of each where it stands.
use Rattle.std.specs.Prelude.{◌≡◌, ℕ, ◌+◌, ◌≤◌, true, cond, List, [], ◌∷◌, ◌++◌, length, drop, nat_lt, slice_index_or}
use Rattle.lexer.specs.declared.fields.Fields.{Fields}
use Rattle.lexer.specs.declared.token.Token.{Token}
use Rattle.lexer.specs.Left.{counted, fields_left}
use Rattle.lexer.specs.Text.{fields}
use Rattle.cells.specs.Bytes.{parted}
use Rattle.cells.specs.Checks.{Check}
use Rattle.servers.specs.declared.settings.Settings.{Settings}
use Rattle.headings.specs.declared.column.Column.{Column}
use Rattle.sheets.specs.Checks.{column_checks, settings_of}

-- Nothing was read of a line that has n fields and this number.
pub record Begins (n : ℕ) (text : List ℕ) (number : ℕ) (f : Fields) : Type 0 where
  pub whole : parted n text ≡ true
  pub left : fields_left f ≡ fields text
  pub line : f.line ≡ number
  pub field : f.field ≡ 0

-- n fields on, in the same line.
pub record Passed (n : ℕ) (f g : Fields) : Type 0 where
  pub left : fields_left g ≡ drop n (fields_left f)
  pub field : n ≤ length (fields_left f) → g.field ≡ counted (f.field + n)
  pub line : g.line ≡ f.line

-- What stands in the k-th field that is left; nothing where there is none.
abbrev pub part : ℕ → Fields → List ℕ
part k f = slice_index_or (fields_left f) k []

-- The number of that field in its line, and 0 where there is none.
abbrev pub place : ℕ → Fields → ℕ
place k f = cond (nat_lt k (length (fields_left f))) (counted (f.field + (k + 1))) 0

-- What is checked of a field, by its line, its number and what it holds.
abbrev pub FieldChecks : Type 0
FieldChecks = ℕ → ℕ → List ℕ → List Check

-- The checks of the k-th field that is left.
abbrev pub here : FieldChecks → ℕ → Fields → List Check
here a k f = a f.line (place k f) (part k f)

-- Those of fields by their columns, from the k-th that is left on; ns are the names of the tasks.
abbrev pub all_here : List (List ℕ) → List Column → ℕ → Fields → List Check
all_here ns [] k f = []
all_here ns (c ∷ cs) k f = here (column_checks ns c) k f ++ all_here ns cs (k + 1) f

-- The token is the next field, at its place; the end of the line where none is left.
pub record Reads (f : Fields) (t : Token) (g : Fields) : Type 0 where
  pub line : t.line ≡ f.line
  pub field : t.field ≡ place 0 f
  pub holds : t.part.now ≡ part 0 f
  pub passed : Passed 1 f g

-- A server's settings, in three fields.
abbrev pub settings_from : Fields → Settings
settings_from f = settings_of (part 0 f) (part 1 f) (part 2 f)
