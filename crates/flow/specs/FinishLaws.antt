-- What holds of the finish rule.
use Rattle.std.specs.Prelude.{◌≡◌, ℕ, ◌<◌, ◌≤◌}
use Rattle.servers.specs.Service.{Service, Laws}
use Rattle.graph.specs.declared.graph.Graph.{Graph}
use Rattle.flow.specs.Nets.{Net, Sound, Arrivals, net_of}
use Rattle.flow.specs.Finish.{Cost, Finish, Needs, by_worst, by_lead_and_pace}

-- The net of every accepted graph is sound.
abbrev pub GraphsSound : Type 0
GraphsSound = (g : Graph) → Sound (net_of g)

-- A firing has at most one finish bound.
abbrev pub OneBound : Type 0
OneBound = (n : Net) (α : Arrivals) (cost : Cost) (v i s t : ℕ) → Finish n α cost v i s → Finish n α cost v i t → s ≡ t

-- The arrivals that firing i of v needs were accepted.
abbrev pub Supplied : Net → Arrivals → ℕ → ℕ → Type 0
Supplied n α v i = (u m : ℕ) → Needs n v i u m → m < α.count u

-- It has one exactly once the arrivals that it needs were accepted.
pub record BoundExists : Type 0 where
  pub once : (n : Net) → Sound n → (α : Arrivals) (cost : Cost) (v i : ℕ) → v < n.tasks → Supplied n α v i → (t : ℕ) × Finish n α cost v i t
  pub only : (n : Net) (α : Arrivals) (cost : Cost) (v i t : ℕ) → Finish n α cost v i t → Supplied n α v i

-- It never falls with the firing's number, on a server that keeps its laws.
abbrev pub BoundRises : Type 0
BoundRises =
    (n : Net) (α : Arrivals) (service : ℕ → Service) (v : ℕ) → Laws (service v) →
    (i j s t : ℕ) → i ≤ j → Finish n α (by_worst n service) v i s → Finish n α (by_worst n service) v j t → s ≤ t

-- It is never later than the same rule with lead and pace in place of the worst wait.
abbrev pub LeadAndPaceLater : Type 0
LeadAndPaceLater =
    (n : Net) → Sound n → (α : Arrivals) (service : ℕ → Service) → ((v : ℕ) → v < n.tasks → Laws (service v)) →
    (v i s t : ℕ) → v < n.tasks → Finish n α (by_worst n service) v i s → Finish n α (by_lead_and_pace n service) v i t → s ≤ t
