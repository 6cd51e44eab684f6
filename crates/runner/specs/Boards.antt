-- What a board shows: a state of the model, without the history of arrivals and records.
use Rattle.std.specs.Prelude.{◌≡◌, ℕ, ◌<◌, List, [], slice_index}
use Rattle.flow.specs.Nets.{Net}
use Rattle.runs.specs.States.{State, no_arrivals}
use Rattle.runner.specs.Tasks.{to_go_at, task_in}
use Rattle.runner.specs.declared.board.Board.{Board}
use Rattle.runner.specs.declared.task.TaskRecord.{TaskRecord}

abbrev pub shown_of : ℕ → List TaskRecord → List ℕ → State
shown_of clock ts held = record {
  clock = clock;
  held = λ e. slice_index held e;
  waiting = λ v. (task_in ts v).waiting;
  to_go = λ v. to_go_at (task_in ts v).stage;
  fired = λ v. (task_in ts v).fired;
  need = λ v. (task_in ts v).need;
  arrivals = no_arrivals;
  records = [];
}

abbrev pub shown : Board → State
shown b = shown_of b.clock b.tasks b.held

-- Two states are the same but for their history.
pub record Same (s t : State) : Type 0 where
  pub clock : s.clock ≡ t.clock
  pub held : (e : ℕ) → s.held e ≡ t.held e
  pub waiting : (v : ℕ) → s.waiting v ≡ t.waiting v
  pub to_go : (v : ℕ) → s.to_go v ≡ t.to_go v
  pub fired : (v : ℕ) → s.fired v ≡ t.fired v
  pub need : (v : ℕ) → s.need v ≡ t.need v

-- So they are at the tasks and edges of a net.
pub record Alike (n : Net) (s t : State) : Type 0 where
  pub clock : s.clock ≡ t.clock
  pub held : (e : ℕ) → e < n.edges → s.held e ≡ t.held e
  pub waiting : (v : ℕ) → v < n.tasks → s.waiting v ≡ t.waiting v
  pub to_go : (v : ℕ) → v < n.tasks → s.to_go v ≡ t.to_go v
  pub fired : (v : ℕ) → v < n.tasks → s.fired v ≡ t.fired v
  pub need : (v : ℕ) → v < n.tasks → s.need v ≡ t.need v
