-- The figures of a task on its server, and when they are told.
use Rattle.std.specs.Prelude.{◌≡◌, ℕ, ◌<◌, ◌≤◌, Err, Result, MatchResult}
use Rattle.faults.specs.Faults.{fault}
use Rattle.faults.specs.declared.fault.Fault.{Fault}
use Rattle.faults.specs.declared.layer.Layer.TheVariants as layer
use Rattle.servers.specs.Service.{Service}
use Rattle.racks.specs.Places.{missing_place}
use Rattle.graph.specs.declared.figures.Figures.{Figures}
use Rattle.graph.specs.Racked.{Told}

-- The figures of a task of this time on a server of this service.
pub record Are (s : Service) (time : ℕ) (f : Figures) : Type 0 where
  pub lead : f.lead ≡ s.lead
  pub pace : f.pace ≡ s.pace time
  pub alone : f.alone ≡ s.worst time

-- They are told where none is above the ceiling, and else refused by 12.
abbrev pub TellsAll : Service → ℕ → Result Figures Fault → Type 0
TellsAll s time r = MatchResult r (λ f. Are s time f × Told s time) (λ e. (e ≡ fault 12 layer.Server 0 0) × (Told s time → ⊥))

-- The same of the server at place k: a missing place is refused by 13.
pub record FiguresTold (places : ℕ) (service : ℕ → Service) (k time : ℕ) (r : Result Figures Fault) : Type 0 where
  pub missing : places ≤ k → r ≡ Err missing_place
  pub there : k < places → TellsAll (service k) time r
