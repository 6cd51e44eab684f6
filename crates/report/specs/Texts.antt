-- How the figures of a sheet are printed.
use Rattle.std.specs.Prelude.{ℕ, List, [], ◌∷◌, ◌++◌, map, length, codes, decimal, slice_index}
use Rattle.std.specs.List.{range_with_len}
use Rattle.std.specs.Fmt.{signed_decimal}
use Rattle.lexer.specs.Text.{end, line_of}
use Rattle.sheets.specs.Pages.{Entry, Page, all_of}
use Rattle.sheets.specs.Offers.{offered}
use Rattle.sheets.specs.Legal.{entry_at}
use Rattle.ratios.specs.Words.{word_of}
use Rattle.figures.specs.declared.figures.Figures.{Figures}
use Rattle.figures.specs.Critical.{ring_tasks}

-- The words over the values of the goal,
abbrev pub goal_heading : List ℕ
goal_heading = codes "goal cycle parts margin verdict\n"

-- over those of the tasks,
abbrev pub tasks_heading : List ℕ
tasks_heading = codes "task lead pace alone start load\n"

-- and over the critical ring.
abbrev pub critical_heading : List ℕ
critical_heading = codes "critical\n"

-- The goal, cycle over parts, what is left of the goal, and whether the rows keep up.
abbrev pub goal_line : ℕ → Figures → List ℕ
goal_line goal f = line_of (decimal goal ∷ decimal f.ratio.cycle ∷ decimal f.ratio.parts ∷ signed_decimal f.margin ∷ word_of f.verdict ∷ [])

-- A task's name, its server's lead, its pace for the task's time, its worst wait for it, which is the task's alone, and the task's start figure and load.
abbrev pub task_cells : Entry → ℕ → ℕ → List (List ℕ)
task_cells e start load = e.name ∷ decimal (offered e).lead ∷ decimal ((offered e).pace e.time) ∷ decimal ((offered e).worst e.time) ∷ decimal start ∷ decimal load ∷ []

-- The line of task v.
abbrev pub task_line : Page → Figures → ℕ → List ℕ
task_line p f v = line_of (task_cells (entry_at p.tasks v) (slice_index f.starts v) (slice_index f.loads v))

-- A task of the critical ring, by its name.
abbrev pub ring_line : Page → ℕ → List ℕ
ring_line p v = line_of ((entry_at p.tasks v).name ∷ [])

-- The tables of the goal and of the tasks, with an empty line between them.
abbrev pub figures_lines : Page → Figures → List (List ℕ)
figures_lines p f =
    goal_heading ∷ goal_line p.goal f ∷ end
    ∷ tasks_heading ∷ map (task_line p f) (range_with_len 0 (length p.tasks))

-- The table of the critical ring.
abbrev pub ring_lines : Page → Figures → List (List ℕ)
ring_lines p f = critical_heading ∷ map (ring_line p) (ring_tasks f.critical)

-- A report's bytes: the three tables, with an empty line before the last.
abbrev pub report_text : Page → Figures → List ℕ
report_text p f = all_of (figures_lines p f ++ (end ∷ ring_lines p f))
