-- The tables of a sheet: their columns, and the headings that name them.
use Rattle.std.specs.Prelude.{ℕ, List, [], ◌∷◌, map}
use Rattle.lexer.specs.Text.{line_of}
use Rattle.headings.specs.declared.column.Column as column
use Rattle.headings.specs.declared.column.Column.TheVariants.{Time, Kind, Period, Slice, Phase, Inner, Inslice, Inphase, Inlet, From, To, Tokens}
use Rattle.headings.specs.declared.table.Table.{Table}
use Rattle.headings.specs.declared.table.Table.TheVariants as table
use Rattle.headings.specs.Columns.{column_word}

abbrev pub table_columns : Table → List column.Column
table_columns table.Goal = column.TheVariants.Goal ∷ []
table_columns table.Tasks = column.TheVariants.Task ∷ Time ∷ Kind ∷ Period ∷ Slice ∷ Phase ∷ Inner ∷ Inslice ∷ Inphase ∷ Inlet ∷ []
table_columns table.Edges = From ∷ To ∷ Tokens ∷ []

-- The line of names above a table's values.
abbrev pub heading : Table → List ℕ
heading t = line_of (map column_word (table_columns t))
