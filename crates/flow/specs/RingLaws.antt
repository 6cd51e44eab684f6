-- What holds of rings, of cycle over parts and of the start figures.
use Rattle.std.specs.Prelude.{◌≡◌, ℕ, ◌*◌, ◌<◌, ◌≤◌}
use Rattle.servers.specs.Service.{Service}
use Rattle.flow.specs.Nets.{Net, Sound}
use Rattle.flow.specs.Rings.{pace_of, lead_and_pace_of, NoneAbove, Cycle, Enough, Starts}

-- Numbers that meet the inequalities of the start figures show that no ring is above cycle over parts, where no task's link is.
abbrev pub Potential : Type 0
Potential =
    (n : Net) (service : ℕ → Service) (cycle parts : ℕ) (start : ℕ → ℕ) →
    Enough n service cycle parts start → ((v : ℕ) → v < n.tasks → parts * pace_of n service v ≤ cycle) → NoneAbove n service cycle parts

-- The start figures are the only ones.
abbrev pub OneStart : Type 0
OneStart =
    (n : Net) (service : ℕ → Service) (cycle parts : ℕ) (start other : ℕ → ℕ) →
    Starts n service cycle parts start → Starts n service cycle parts other → (v : ℕ) → v < n.tasks → start v ≡ other v

-- Cycle and parts are the only ones.
abbrev pub OneCycle : Type 0
OneCycle =
    (n : Net) → Sound n → (service : ℕ → Service) (cycle parts cycle' parts' : ℕ) →
    Cycle n service cycle parts → Cycle n service cycle' parts' → (cycle ≡ cycle') × (parts ≡ parts')

-- One task without edges has its pace over 1 for cycle over parts, and lead and pace for its start figure.
pub record Alone (n : Net) (service : ℕ → Service) : Type 0 where
  pub cycle : Cycle n service (pace_of n service 0) 1
  pub starts : Starts n service (pace_of n service 0) 1 (lead_and_pace_of n service)

-- Every such task has them.
abbrev pub LoneFigures : Type 0
LoneFigures = (n : Net) (service : ℕ → Service) → n.tasks ≡ 1 → n.edges ≡ 0 → Alone n service
