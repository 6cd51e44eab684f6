-- The checks of each table, over the lines from its heading on.
use Rattle.std.specs.Prelude.{ℕ, ◌+◌, List, [], ◌++◌, length, drop, slice_index_or}
use Rattle.lexer.specs.Text.{end}
use Rattle.cells.specs.Checks.{Check}
use Rattle.headings.specs.declared.table.Table.TheVariants as table
use Rattle.headings.specs.Tables.{heading}
use Rattle.sheets.specs.Checks.{exact_checks, goal_checks, entries_checks, edges_checks}

-- the empty line behind the table too
abbrev pub goal_table : List (List ℕ) → List Check
goal_table ls = exact_checks (heading table.Goal) 1 (slice_index_or ls 0 []) ++ (goal_checks (slice_index_or ls 1 []) ++ exact_checks end 3 (slice_index_or ls 2 []))

-- ns: the names of the tasks so far
abbrev pub task_table : List (List ℕ) → List (List ℕ) → List Check
task_table ns ls = exact_checks (heading table.Tasks) 4 (slice_index_or ls 0 []) ++ entries_checks ns (drop 1 ls)

-- ns: the names of the tasks; k edges stand there already
abbrev pub edge_table : List (List ℕ) → ℕ → List (List ℕ) → List Check
edge_table ns k ls = exact_checks (heading table.Edges) (6 + length ns) (slice_index_or ls 0 []) ++ edges_checks ns k (drop 1 ls)
