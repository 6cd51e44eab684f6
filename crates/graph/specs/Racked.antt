-- A graph against a rack: one place for each task, and no figure above the ceiling.
use Rattle.std.specs.Prelude.{◌≡◌, ℕ, ◌+◌, ◌<◌, ◌≤◌, vec_items, vec_len, Result, MatchResult, ◌≢◌}
use Rattle.faults.specs.Faults.{fault}
use Rattle.faults.specs.declared.fault.Fault.{Fault}
use Rattle.faults.specs.declared.layer.Layer.TheVariants as layer
use Rattle.servers.specs.Service.{Service}
use Rattle.racks.specs.Places.{missing_place}
use Rattle.servers.specs.Figures.{ceiling}
use Rattle.graph.specs.declared.graph.Graph.{Graph}
use Rattle.graph.specs.Legal.{task_at}
use Rattle.graph.specs.Lines.{line_of}

-- The figures of a task of this time on a server of this service.
pub record Told (s : Service) (time : ℕ) : Type 0 where
  pub alone : s.worst time ≤ ceiling
  pub lead : s.lead ≤ ceiling
  pub pace : s.pace time ≤ ceiling
  pub both : s.lead + s.pace time ≤ ceiling

-- The same of a graph's task v, whose server is at place v.
abbrev pub TaskTold : Graph → (ℕ → Service) → ℕ → Type 0
TaskTold g service v = Told (service v) (task_at (vec_items g.tasks) v).time

abbrev pub Racked : Graph → ℕ → (ℕ → Service) → Type 0
Racked g places service = (places ≡ vec_len g.tasks) × ((v : ℕ) → v < vec_len g.tasks → TaskTold g service v)

-- The first check that fails: 13 where the places are not just one per task, else 12 at the line of the first task with a figure above the ceiling.
pub data RefusesRack (g : Graph) (places : ℕ) (service : ℕ → Service) (e : Fault) : Type 0 where
  misfit : e ≡ missing_place → (places ≢ vec_len g.tasks) → RefusesRack g places service e
  above : (v : ℕ) → e ≡ fault 12 layer.Graph (line_of g.origin v) 0 → places ≡ vec_len g.tasks → v < vec_len g.tasks → ((u : ℕ) → u < v → TaskTold g service u) → (TaskTold g service v → ⊥) → RefusesRack g places service e

abbrev pub ChecksRack : {U : Type 0} → Graph → ℕ → (ℕ → Service) → Result U Fault → Type 0
ChecksRack g places service r = MatchResult r (λ _. Racked g places service) (RefusesRack g places service)
