-- A job served tick by tick.
use Rattle.std.specs.Prelude.{◌≡◌, ℕ, ◌+◌, ◌<◌, ◌≤◌, Bool, true, false, cond, List, [], ◌∷◌, ◌++◌, length, replicate, Result, MatchResult, slice_index}
use Rattle.std.specs.List.{All}
use Rattle.faults.specs.Faults.{fault}
use Rattle.faults.specs.declared.fault.Fault.{Fault}
use Rattle.faults.specs.declared.layer.Layer.TheVariants.{Server}
use Rattle.servers.specs.Figures.{ceiling}
use Rattle.servers.specs.Service.{Service}
use Rattle.servers.specs.Runs.{Tick, Run}

-- When the grants came: the clock after each granted tick of a run that begins at a clock.
abbrev pub grant_times : ℕ → List Tick → List ℕ
grant_times clock [] = []
grant_times clock (t ∷ ts) = cond t.granted ((clock + 1) ∷ grant_times (clock + 1) ts) (grant_times (clock + 1) ts)

-- The last of some times, 0 where there is none.
abbrev pub latest : ℕ → List ℕ → ℕ
latest t [] = t
latest _ (t ∷ ts) = latest t ts

-- From state a to state b a job of so many ticks was served: a run in which others claimed every tick or none, whose grants came at these times and which ended with the last of them.
-- None came later than the wait in state a says.
pub record Served {S : Type 0} (service : S → Service) (steps : S → Bool → Bool → S → Type 0) (a : S) (claimed : Bool) (work : ℕ) (times : List ℕ) (b : S) : Type 0 where
  pub ticks : List Tick
  pub went : Run steps a ticks b
  pub all : All (λ t. t.claimed ≡ claimed) ticks
  pub when : grant_times 0 ticks ≡ times
  pub whole : length times ≡ work
  pub ends : length ticks ≡ latest 0 times
  pub soon : (i : ℕ) → i < work → slice_index times i ≤ (service a).wait (i + 1)

-- The answer to a job of as many ticks as there are slots: it is served and the slots hold the times, exactly where its worst wait is at most the ceiling.
-- Else it is refused by 12, and neither the server nor a slot changes.
abbrev pub Serves : {S U : Type 0} → (S → Service) → (S → Bool → Bool → S → Type 0) → S → Bool → List ℕ → Result U Fault → S → List ℕ → Type 0
Serves service steps a claimed slots r b times =
    MatchResult r (λ _. ((service a).worst (length slots) ≤ ceiling) × Served service steps a claimed (length slots) times b)
    (λ e. (e ≡ fault 12 Server 0 0) × (ceiling < (service a).worst (length slots)) × (b ≡ a) × (times ≡ slots))

abbrev pub tick : Bool → Bool → Tick
tick c g = record { claimed = c; granted = g }

-- From state a to state b: so many ticks that were not granted, and then one that was; all waits are shorter by them.
pub record Waited {S : Type 0} (service : S → Service) (steps : S → Bool → Bool → S → Type 0) (a : S) (claimed : Bool) (missed : ℕ) (b : S) : Type 0 where
  pub went : Run steps a (replicate missed (tick claimed false) ++ (tick claimed true ∷ [])) b
  pub sooner : (n : ℕ) → missed + 1 + (service b).wait n ≤ (service a).wait (n + 1)
