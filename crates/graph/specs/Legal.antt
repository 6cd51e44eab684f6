-- Which tasks and edges make a graph.
use Rattle.std.specs.Prelude.{ℕ, ◌<◌, ◌≤◌, false, List, length, slice_index_or}
use Rattle.graph.specs.declared.parts.Task.{Task}
use Rattle.graph.specs.declared.parts.Edge.{Edge}
use Rattle.graph.specs.Edges.{edge_at}

abbrev pub no_task : Task
no_task = record { time = 0; inlet = false }

abbrev pub task_at : List Task → ℕ → Task
task_at ts v = slice_index_or ts v no_task

abbrev pub Times : List Task → Type 0
Times ts = (v : ℕ) → v < length ts → (1 ≤ (task_at ts v).time) × ((task_at ts v).time ≤ 65535)

abbrev pub Tokens : List Edge → Type 0
Tokens es = (e : ℕ) → e < length es → (edge_at es e).tokens ≤ 255

pub record Counts (ts : List Task) (es : List Edge) : Type 0 where
  pub some : 0 < length ts
  pub few : length ts ≤ 16
  pub sparse : length es ≤ 48

pub record Ranges (goal : ℕ) (ts : List Task) (es : List Edge) : Type 0 where
  pub least : 1 ≤ goal
  pub most : goal ≤ 999999999
  pub times : Times ts
  pub tokens : Tokens es
