-- What a call by place says.
use Rattle.std.specs.Prelude.{◌≡◌, ℕ, ◌<◌, ◌≤◌, Bool, Err, Result, MatchResult}
use Rattle.faults.specs.Faults.{fault}
use Rattle.faults.specs.declared.fault.Fault.{Fault}
use Rattle.faults.specs.declared.layer.Layer.TheVariants.{Runner}
use Rattle.servers.specs.Figures.{Tells}

-- the refusal of a place that a rack lacks
abbrev pub missing_place : Fault
missing_place = fault 13 Runner 0 0

-- A tick at place k: of one that is there it is a step; a missing one is refused by 13, and nothing changes.
abbrev pub Ticked : {S : Type 0} → (S → ℕ) → (S → ℕ → Bool → Bool → S → Type 0) → S → ℕ → Bool → Result Bool Fault → S → Type 0
Ticked places steps a k claimed r b =
    MatchResult r (λ granted. (k < places a) × steps a k claimed granted b) (λ e. (e ≡ missing_place) × (places a ≤ k) × (b ≡ a))

-- The figure x at place k: a missing place is refused by 13, and else the figure is told as a server tells it.
pub record Asked (places k x : ℕ) (r : Result ℕ Fault) : Type 0 where
  pub missing : places ≤ k → r ≡ Err missing_place
  pub there : k < places → Tells x r
