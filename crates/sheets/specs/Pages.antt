-- What a sheet says: its goal, its tasks and its edges, and how it is written.
use Rattle.std.specs.Prelude.{ℕ, Bool, cond, List, [], ◌∷◌, ◌++◌, map, decimal, slice_index_or}
use Rattle.std.specs.List.{flat_map}
use Rattle.lexer.specs.Text.{end, line_of}
use Rattle.kinds.specs.declared.kind.Kind.{Kind}
use Rattle.kinds.specs.Words.{kind_word}
use Rattle.servers.specs.declared.settings.Settings.{Settings}
use Rattle.graph.specs.declared.parts.Edge.{Edge}
use Rattle.graph.specs.declared.parts.Task.{Task}
use Rattle.headings.specs.declared.table.Table.TheVariants as table
use Rattle.headings.specs.Tables.{heading}

-- A task: its name and time, its server's kind and settings, those of the layer over it (0 0 0: none), and whether it has an inlet.
pub record Entry : Type 0 where
  pub name : List ℕ
  pub time : ℕ
  pub kind : Kind
  pub slice : Settings
  pub layer : Settings
  pub inlet : Bool

-- Edges name tasks by their places in the list of tasks.
pub record Page : Type 0 where
  pub goal : ℕ
  pub tasks : List Entry
  pub edges : List Edge

abbrev pub names : List Entry → List (List ℕ)
names ts = map (λ t. t.name) ts

-- what a graph keeps of a task
abbrev pub task_of : Entry → Task
task_of e = record { time = e.time; inlet = e.inlet }

-- The fields of a value line, from left to right.
abbrev pub goal_cells : ℕ → List (List ℕ)
goal_cells goal = decimal goal ∷ []

abbrev pub settings_cells : Settings → List (List ℕ)
settings_cells s = decimal s.period ∷ decimal s.slice ∷ decimal s.phase ∷ []

abbrev pub entry_cells : Entry → List (List ℕ)
entry_cells e = e.name ∷ decimal e.time ∷ kind_word e.kind ∷ (settings_cells e.slice ++ (settings_cells e.layer ++ (decimal (cond e.inlet 1 0) ∷ [])))

-- ns: the names of the tasks
abbrev pub edge_cells : List (List ℕ) → Edge → List (List ℕ)
edge_cells ns e = slice_index_or ns e.from [] ∷ slice_index_or ns e.to [] ∷ decimal e.tokens ∷ []

abbrev pub entry_line : Entry → List ℕ
entry_line e = line_of (entry_cells e)

abbrev pub edge_line : List (List ℕ) → Edge → List ℕ
edge_line ns e = line_of (edge_cells ns e)

-- The lines of a sheet: three tables, each a heading and lines of values, with an empty line between them.
abbrev pub page_lines : Page → List (List ℕ)
page_lines p =
    heading table.Goal ∷ line_of (goal_cells p.goal) ∷ end
    ∷ heading table.Tasks ∷ (map entry_line p.tasks
    ++ (end ∷ heading table.Edges ∷ map (edge_line (names p.tasks)) p.edges))

-- the lines one after another
abbrev pub all_of : List (List ℕ) → List ℕ
all_of ls = flat_map (λ (l : List ℕ). l) ls

-- A sheet's bytes.
abbrev pub write : Page → List ℕ
write p = all_of (page_lines p)
