-- What is checked of a text, in order, each check with the fault that it tells; and what a text says, read without a check.
use Rattle.std.specs.Prelude.{ℕ, ◌+◌, Bool, true, false, cond, not, ◌&&◌, ◌||◌, List, [], ◌∷◌, ◌++◌, map, length, drop, ◌==◌, nat_le, nat_lt, slice_index_or}
use Rattle.std.specs.Str.{bytes_eq}
use Rattle.faults.specs.Faults.{fault}
use Rattle.faults.specs.declared.layer.Layer.TheVariants as layer
use Rattle.lexer.specs.Text.{lines, fields, end}
use Rattle.cells.specs.Bytes.{well, parted, field}
use Rattle.cells.specs.Values.{named, value, kind_of}
use Rattle.cells.specs.Checks.{Check, bad, number_checks, name_checks, kind_checks}
use Rattle.servers.specs.declared.settings.Settings.{Settings}
use Rattle.kinds.specs.declared.kind.Kind as kind
use Rattle.graph.specs.declared.parts.Edge.{Edge}
use Rattle.headings.specs.declared.column.Column.{Column}
use Rattle.headings.specs.declared.column.Column.TheVariants.{Goal, Task, Time, Kind, Period, Slice, Phase, Inner, Inslice, Inphase, Inlet, From, To, Tokens}
use Rattle.headings.specs.declared.table.Table.{Table}
use Rattle.headings.specs.declared.table.Table.TheVariants as table
use Rattle.headings.specs.Tables.{table_columns, heading}
use Rattle.sheets.specs.Pages.{Entry, Page}
use Rattle.sheets.specs.Offers.{no_layer}

-- Names: which are taken, and the place of one.

-- n is one of the names.
abbrev pub taken : List (List ℕ) → List ℕ → Bool
taken [] n = false
taken (m ∷ ms) n = bytes_eq m n || taken ms n

-- The place of the first that is n.
abbrev pub index_of : List (List ℕ) → List ℕ → ℕ
index_of [] n = 0
index_of (m ∷ ms) n = cond (bytes_eq m n) 0 (index_of ms n + 1)

-- Field f has to be the name of one of the tasks, whose names are ns.
abbrev pub task_checks : List (List ℕ) → ℕ → ℕ → List ℕ → List Check
task_checks ns line on f = bad (not (named f)) 6 line on ∷ bad (not (taken ns f)) 8 line on ∷ []

-- What each column holds; ns are the names of the tasks.
abbrev pub column_checks : List (List ℕ) → Column → ℕ → ℕ → List ℕ → List Check
column_checks ns Goal = number_checks 1 999999999
column_checks ns Task = name_checks
column_checks ns Time = number_checks 1 65535
column_checks ns Kind = kind_checks
column_checks ns Period = number_checks 1 65535
column_checks ns Slice = number_checks 1 65535
column_checks ns Phase = number_checks 0 65534
column_checks ns Inner = number_checks 0 65535
column_checks ns Inslice = number_checks 0 65535
column_checks ns Inphase = number_checks 0 65534
column_checks ns Inlet = number_checks 0 1
column_checks ns From = task_checks ns
column_checks ns To = task_checks ns
column_checks ns Tokens = number_checks 0 255

-- Fields fs by their columns, from left to right, from the k-th on; `before` fields stand before fs.
abbrev pub cell_checks : List (List ℕ) → List Column → ℕ → ℕ → ℕ → List (List ℕ) → List Check
cell_checks ns [] line before k fs = []
cell_checks ns (c ∷ cs) line before k fs = column_checks ns c line (before + (k + 1)) (slice_index_or fs k []) ++ cell_checks ns cs line before (k + 1) fs

-- A value line of a table: how many fields, and then each.
abbrev pub value_checks : List (List ℕ) → Table → ℕ → List ℕ → List Check
value_checks ns t line l = bad (not (parted (length (table_columns t)) l)) 4 line 0 ∷ cell_checks ns (table_columns t) line 0 0 (fields l)

-- The server's settings of a task. As Bools, since a list of checks computes; servers Settings says the same as facts.

abbrev pub legal_fixed : Settings → Bool
legal_fixed s = nat_le 1 s.slice && (nat_le s.slice s.period && (nat_le s.period 65535 && nat_lt s.phase s.period))

abbrev pub legal_kind : kind.Kind → Settings → Bool
legal_kind kind.TheVariants.Own s = s.period == 1 && (s.slice == 1 && s.phase == 0)
legal_kind kind.TheVariants.Fixed s = legal_fixed s
legal_kind kind.TheVariants.Float s = legal_fixed s && s.phase == 0

abbrev pub legal_server : Entry → Bool
legal_server e = legal_kind e.kind e.slice && (no_layer e.layer || legal_fixed e.layer)

-- What a value line says.

abbrev pub settings_of : List ℕ → List ℕ → List ℕ → Settings
settings_of period slice phase = record { period = value period; slice = value slice; phase = value phase }

abbrev pub entry_of : List ℕ → Entry
entry_of l = record { name = field 0 l; time = value (field 1 l); kind = kind_of (field 2 l); slice = settings_of (field 3 l) (field 4 l) (field 5 l); layer = settings_of (field 6 l) (field 7 l) (field 8 l); inlet = (value (field 9 l) == 1) }

abbrev pub edge_of : List (List ℕ) → List ℕ → Edge
edge_of ns l = record { from = index_of ns (field 0 l); to = index_of ns (field 1 l); tokens = value (field 2 l) }

-- Whole lines. One that is not there, since the text ends before it, is [].

abbrev pub missing : List ℕ → Bool
missing l = length l == 0

abbrev pub empty : List ℕ → Bool
empty l = bytes_eq l end

-- A line that is there, with bytes of the format and an end.
abbrev pub whole_checks : ℕ → List ℕ → List Check
whole_checks line l = bad (missing l) 3 line 0 ∷ bad (not (well l)) 2 line 0 ∷ []

-- A line that has to be just so.
abbrev pub exact_checks : List ℕ → ℕ → List ℕ → List Check
exact_checks wanted line l = whole_checks line l ++ (bad (not (bytes_eq l wanted)) 3 line 0 ∷ [])

-- The goal's line, on whichever line it stands.
abbrev pub goal_line_checks : ℕ → List ℕ → List Check
goal_line_checks line l = whole_checks line l ++ (bad (empty l) 3 line 0 ∷ value_checks [] table.Goal line l)

-- In a sheet it stands on line 2.
abbrev pub goal_checks : List ℕ → List Check
goal_checks l = goal_line_checks 2 l

-- A task's line, below those of the tasks whose names are ns.
abbrev pub entry_checks : List (List ℕ) → ℕ → List ℕ → List Check
entry_checks ns line l =
    bad (not (well l)) 2 line 0
    ∷ bad (nat_le 16 (length ns)) 9 line 0
    ∷ (value_checks ns table.Tasks line l
    ++ (bad (taken ns (field 0 l)) 7 line 1
    ∷ record { broken = not (legal_server (entry_of l)); told = fault 10 layer.Server line 0 }
    ∷ []))

-- The lines below the task heading, up to the empty line that ends the table.
abbrev pub entries_checks : List (List ℕ) → List (List ℕ) → List Check
entries_checks ns [] = bad true 3 (5 + length ns) 0 ∷ []
entries_checks ns (l ∷ ls) = cond (empty l) (bad (length ns == 0) 9 (5 + length ns) 0 ∷ []) (entry_checks ns (5 + length ns) l ++ entries_checks (ns ++ field 0 l ∷ []) ls)

-- An edge's line, below k others; the tasks' names are ns.
abbrev pub edge_checks : List (List ℕ) → ℕ → ℕ → List ℕ → List Check
edge_checks ns k line l =
    bad (not (well l)) 2 line 0
    ∷ bad (empty l) 3 line 0
    ∷ bad (nat_le 48 k) 9 line 0
    ∷ value_checks ns table.Edges line l

-- The lines below the edges' heading, from the k-th on.
abbrev pub edges_checks : List (List ℕ) → ℕ → List (List ℕ) → List Check
edges_checks ns k [] = []
edges_checks ns k (l ∷ ls) = edge_checks ns k (7 + (length ns + k)) l ++ edges_checks ns (k + 1) ls

-- The lines of a text: those of tasks go up to the first empty line below the task heading, and the edges' table stands behind it.

abbrev pub up_to_empty : List (List ℕ) → List (List ℕ)
up_to_empty [] = []
up_to_empty (l ∷ ls) = cond (empty l) [] (l ∷ up_to_empty ls)

abbrev pub past_empty : List (List ℕ) → List (List ℕ)
past_empty [] = []
past_empty (l ∷ ls) = cond (empty l) ls (past_empty ls)

abbrev pub entry_lines : List (List ℕ) → List (List ℕ)
entry_lines ls = up_to_empty (drop 4 ls)

-- the lines from the edges' heading on
abbrev pub edge_table : List (List ℕ) → List (List ℕ)
edge_table ls = past_empty (drop 4 ls)

-- the first fields of the tasks' lines
abbrev pub names_in : List (List ℕ) → List (List ℕ)
names_in ls = map (field 0) (entry_lines ls)

-- The checks of a text of this size and these lines.
abbrev pub text_checks : ℕ → List (List ℕ) → List Check
text_checks size ls =
    bad (size == 0 || nat_le 8193 size) 1 0 0
    ∷ (exact_checks (heading table.Goal) 1 (slice_index_or ls 0 [])
    ++ (goal_checks (slice_index_or ls 1 [])
    ++ (exact_checks end 3 (slice_index_or ls 2 [])
    ++ (exact_checks (heading table.Tasks) 4 (slice_index_or ls 3 [])
    ++ (entries_checks [] (drop 4 ls)
    ++ (exact_checks (heading table.Edges) (6 + length (names_in ls)) (slice_index_or (edge_table ls) 0 [])
    ++ edges_checks (names_in ls) 0 (drop 1 (edge_table ls))))))))

abbrev pub checks : List ℕ → List Check
checks t = text_checks (length t) (lines t)

-- What the lines of a text say, where no check fails.
abbrev pub page_of : List (List ℕ) → Page
page_of ls = record { goal = value (field 0 (slice_index_or ls 1 [])); tasks = map entry_of (entry_lines ls); edges = map (edge_of (names_in ls)) (drop 1 (edge_table ls)) }

abbrev pub meaning : List ℕ → Page
meaning t = page_of (lines t)
