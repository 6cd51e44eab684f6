-- One tick of a task.
use Rattle.std.specs.Prelude.{◌≡◌, ℕ, ◌+◌, ◌-◌, ◌<◌, ◌≤◌, Bool, true, false, cond, Decides, ◌==◌, List, length, slice_index, slice_index_or}
use Rattle.graph.specs.declared.parts.Edge.{Edge}
use Rattle.graph.specs.Edges.{edge_at}
use Rattle.flow.specs.Nets.{Net}
use Rattle.runs.specs.States.{State, one}
use Rattle.runner.specs.declared.task.Stage.{Stage}
use Rattle.runner.specs.declared.task.Stage.TheVariants.{Idle, UnderWay}
use Rattle.runner.specs.declared.task.TaskRecord.{TaskRecord}
use Rattle.runner.specs.Tasks.{to_go_at, task_in}

abbrev pub stage_with : ℕ → Stage
stage_with left = cond (left == 0) Idle (UnderWay (left - 1))

-- A firing starts where none is under way and the task is ready, at a granted tick.
abbrev pub starts_with : ℕ → Bool → Bool → Bool
starts_with to_go ready granted = cond granted (cond (to_go == 0) ready false) false

-- One ends where this was its last tick.
abbrev pub ends_with : ℕ → ℕ → Bool → Bool → Bool
ends_with to_go need ready granted = cond granted (cond (to_go == 0) (cond ready (need == 1) false) (to_go == 1)) false

-- What it has to go then.
abbrev pub left_with : ℕ → ℕ → Bool → Bool → ℕ
left_with to_go need ready granted = cond granted (cond (to_go == 0) (cond ready (need - 1) 0) (to_go - 1)) to_go

-- The task before and after, and whether a firing started and one ended.
pub record Served (t : TaskRecord) (ready granted : Bool) (result : Bool × Bool) (u : TaskRecord) : Type 0 where
  pub starts : result.0 ≡ starts_with (to_go_at t.stage) ready granted
  pub ends : result.1 ≡ ends_with (to_go_at t.stage) t.need ready granted
  pub to_go : to_go_at u.stage ≡ left_with (to_go_at t.stage) t.need ready granted
  pub waiting : u.waiting ≡ t.waiting - one (starts_with (to_go_at t.stage) ready granted)
  pub fired : u.fired ≡ t.fired + one (ends_with (to_go_at t.stage) t.need ready granted)
  pub need : u.need ≡ t.need

abbrev pub marked : List Bool → ℕ → Bool
marked marks v = slice_index_or marks v false

-- The same of the first n tasks; the others are as they were.
pub record AllServed (ts : List TaskRecord) (ready grants : List Bool) (n : ℕ) (result : List Bool × List Bool) (us : List TaskRecord) : Type 0 where
  pub served : (v : ℕ) → v < n → Served (task_in ts v) (marked ready v) (marked grants v) (marked result.0 v, marked result.1 v) (task_in us v)
  pub rest : (v : ℕ) → n ≤ v → task_in us v ≡ task_in ts v

-- What each edge holds after a tick.
abbrev pub carried_at : List Edge → List Bool → List Bool → ℕ → ℕ → ℕ
carried_at es starts ends e before = before - one (marked starts (edge_at es e).to) + one (marked ends (edge_at es e).from)

pub record Carried (es : List Edge) (starts ends : List Bool) (before after : List ℕ) : Type 0 where
  pub carried : (e : ℕ) → e < length es → slice_index after e ≡ carried_at es starts ends e (slice_index before e)
  pub rest : (e : ℕ) → length es ≤ e → slice_index after e ≡ slice_index before e

-- Each edge into v holds a token.
abbrev pub Holding : List Edge → List ℕ → ℕ → Type 0
Holding es held v = (e : ℕ) → e < length es → (edge_at es e).to ≡ v → 1 ≤ slice_index held e

-- The marks tell which tasks have a token on each edge in.
abbrev pub Fed : List Edge → List ℕ → List Bool → Type 0
Fed es held fed = (v : ℕ) → v < 16 → Decides (marked fed v) (Holding es held v)

-- An arrival waits at the inlet of v, if it has one.
abbrev pub Awaited : Net → State → ℕ → Type 0
Awaited n s v = n.inlet v ≡ true → 1 ≤ s.waiting v
