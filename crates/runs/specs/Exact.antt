-- One task with an inlet on one fixed slice: there the bound is met to the tick, so no smaller one is true.
use Rattle.std.specs.Prelude.{◌≡◌, ℕ, ◌*◌, ◌<◌, ◌≤◌, Bool, List, [], ◌∷◌, length, slice_index}
use Rattle.servers.specs.Service.{Service}
use Rattle.servers.specs.Slices.{worst_of}
use Rattle.servers.specs.FixedService.{fixed_service, Moves}
use Rattle.servers.specs.declared.fixed.Fixed.{Fixed}
use Rattle.racks.specs.declared.one.One.{One}
use Rattle.flow.specs.Lone.{lone, at_times}
use Rattle.flow.specs.Finish.{Finish}
use Rattle.runs.specs.States.{State}
use Rattle.runs.specs.Runs.{arrive, need, tick, Said, done, refused, clock_of, arrivals_of, Whole, Run}
use Rattle.runs.specs.Claims.{Ended}

-- The service of the rack of one fixed slice.
abbrev pub slice_at : One Fixed → ℕ → Service
slice_at a v = fixed_service a.server

-- A tick is one of the slice, at place 0.
abbrev pub slice_steps : One Fixed → ℕ → Bool → Bool → One Fixed → Type 0
slice_steps a k claimed granted b = (k ≡ 0) × Moves a.server claimed granted b.server

-- Each need that was set is the full time.
abbrev pub Full : ℕ → List Said → Type 0
Full time [] = Unit {0}
Full time (done (arrive v) ∷ said) = Full time said
Full time (done (need v x) ∷ said) = (x ≡ time) × Full time said
Full time (done (tick claims) ∷ said) = Full time said
Full time (refused call reason ∷ said) = Full time said

-- Arrivals 0 to i came at those times, each need was the full time, and the clock is at t or past it.
pub record Meets (time : ℕ) (times : List ℕ) (i t : ℕ) (said : List Said) : Type 0 where
  pub full : Full time said
  pub came : i < (arrivals_of said).count 0
  pub on_times : (k : ℕ) → k ≤ i → (arrivals_of said).stamp 0 k ≡ slice_index times k
  pub reached : t ≤ clock_of said

-- A run on the slice f that meets this.
pub record SomeRun (time : ℕ) (f : Fixed) (slots : ℕ) (times : List ℕ) (i t : ℕ) : Type 0 where
  pub said : List Said
  pub rack : One Fixed
  pub whole : Whole
  pub run : Run slice_steps (lone time) (record { server = f }) slots said rack whole
  pub meets : Meets time times i t said

-- Firing i ended at t, and no record says that it ended before.
pub record EndsAt (s : State) (i t : ℕ) : Type 0 where
  pub then : Ended s 0 i t
  pub not_before : (c : ℕ) → c < t → Ended s 0 i c → ⊥

-- The slice of this period in this phase, not ticked before: its position is its phase, as `Fixed::new` makes it.
pub record InPhase (period slice phase : ℕ) (f : Fixed) : Type 0 where
  pub its_period : f.slice.period ≡ period
  pub its_slice : f.slice.ticks ≡ slice
  pub its_phase : f.position ≡ phase

-- In this phase of the slice, firing i ends exactly at t in every run that meets this, and there is such a run.
pub record AttainedIn (period slice phase time : ℕ) (times : List ℕ) (i t : ℕ) : Type 0 where
  pub server : Fixed
  pub starts : InPhase period slice phase server
  pub some : (slots : ℕ) → 1 ≤ slots → SomeRun time server slots times i t
  pub each :
      (slots : ℕ) → 1 ≤ slots → (said : List Said) (a : One Fixed) (x : Whole) → Run slice_steps (lone time) (record { server = server }) slots said a x →
      Meets time times i t said → EndsAt x.state i t

-- So it is in some phase.
abbrev pub Attained : ℕ → ℕ → ℕ → List ℕ → ℕ → ℕ → Type 0
Attained period slice time times i t = (phase : ℕ) × (phase < period) × AttainedIn period slice phase time times i t

-- Of a legal slice and 1 to 256 arrival times that never fall: t, at most 1,000,000,000, is the finish bound of firing i.
pub record Case (period slice time : ℕ) (times : List ℕ) (i t : ℕ) : Type 0 where
  pub some : 0 < slice
  pub within : slice ≤ period
  pub short : period ≤ 65535
  pub time_pos : 1 ≤ time
  pub few : length times ≤ 256
  pub never_fall : (j k : ℕ) → j ≤ k → k < length times → slice_index times j ≤ slice_index times k
  pub firing : i < length times
  pub bound : Finish (lone time) (at_times times) (λ v m. worst_of period slice (m * time)) 0 i t
  pub near : t ≤ 1000000000

-- The bound is met to the tick.
abbrev pub Exact : Type 0
Exact = (period slice time : ℕ) (times : List ℕ) (i t : ℕ) → Case period slice time times i t → Attained period slice time times i t

-- In some phase and some run that meets the arrivals and comes to t, firing i has not ended by u.
pub record Later (period slice time : ℕ) (times : List ℕ) (i t u : ℕ) : Type 0 where
  pub phase : ℕ
  pub below : phase < period
  pub server : Fixed
  pub starts : InPhase period slice phase server
  pub run : (slots : ℕ) → 1 ≤ slots → (r : SomeRun time server slots times i t) × ((c : ℕ) → c ≤ u → Ended r.whole.state 0 i c → ⊥)

-- So no smaller bound is true in all phases.
abbrev pub NoSmaller : Type 0
NoSmaller = (period slice time : ℕ) (times : List ℕ) (i t : ℕ) → Case period slice time times i t → (u : ℕ) → u < t → Later period slice time times i t u

-- A worked figure: of the slice 4 of 10, with time 6 and arrivals at 0, 5 and 40, the finish bound of firing 1 is 30, and in phase 4 it ends at 30.
abbrev pub Phase4 : Type 0
Phase4 = Case 10 4 6 (0 ∷ 5 ∷ 40 ∷ []) 1 30 × AttainedIn 10 4 4 6 (0 ∷ 5 ∷ 40 ∷ []) 1 30
