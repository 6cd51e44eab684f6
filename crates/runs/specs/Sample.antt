-- The sample: two tasks in a ring, one arrival, and a run that meets both finish bounds to the tick.
use Rattle.std.specs.Prelude.{◌≡◌, ℕ, zero, suc, ◌≤◌, Bool, false, cond, List, [], ◌∷◌, ◌==◌}
use Rattle.servers.specs.Service.{Service}
use Rattle.servers.specs.OwnService.{own_service, OwnSteps}
use Rattle.servers.specs.declared.fixed.Fixed.{Fixed}
use Rattle.servers.specs.declared.own.Own.{Own}
use Rattle.racks.specs.Beside.{places_beside, beside, Sided}
use Rattle.racks.specs.declared.one.One.{One}
use Rattle.racks.specs.declared.side_by_side.SideBySide.{SideBySide}
use Rattle.flow.specs.Nets.{Net, Sound}
use Rattle.flow.specs.Finish.{Finish, by_worst}
use Rattle.flow.specs.Rings.{Cycle, Starts}
use Rattle.runs.specs.Runs.{arrive, tick, Said, done, arrivals_of, Whole, Run}
use Rattle.runs.specs.Exact.{slice_at, slice_steps}

-- Task 0 has time 6 and an inlet, task 1 has time 9. Edge 0 runs from 0 to 1 and has no tokens, edge 1 from 1 to 0 with one.
abbrev pub sample_net : Net
sample_net = record {
  tasks = 2;
  edges = 2;
  time = λ v. cond (v == 0) 6 9;
  inlet = λ v. (v == 0);
  from = λ e. cond (e == 0) 0 1;
  to = λ e. cond (e == 0) 1 0;
  tokens = λ e. cond (e == 0) 0 1;
}

-- Its rack: a fixed slice, and beside it a processor of the task's own.
abbrev pub SampleRack : Type 0
SampleRack = SideBySide (One Fixed) (One Own)

-- It has two places.
abbrev pub sample_places : SampleRack → ℕ
sample_places a = places_beside 1 1

-- Place 0 offers what the slice does, place 1 what the processor does.
abbrev pub sample_service : SampleRack → ℕ → Service
sample_service a = beside 1 (slice_at a.first) (λ v. own_service a.second.server)

-- A tick is one of the processor, at its place 0.
abbrev pub own_steps : One Own → ℕ → Bool → Bool → One Own → Type 0
own_steps a k claimed granted b = (k ≡ 0) × OwnSteps a.server claimed granted b.server

-- A tick of the rack is one of the slice at place 0, or of the processor at place 1; the other stays as it was.
abbrev pub sample_steps : SampleRack → ℕ → Bool → Bool → SampleRack → Type 0
sample_steps a k claimed granted b = Sided slice_steps own_steps 1 a.first a.second k claimed granted b.first b.second

-- The slice is 4 of every 10 ticks, in phase 4.
pub record IsSample (a : SampleRack) : Type 0 where
  pub period : a.first.server.slice.period ≡ 10
  pub slice : a.first.server.slice.ticks ≡ 4
  pub position : a.first.server.position ≡ 4

-- One arrival at clock 0, and then m ticks that nobody else claims.
abbrev pub sample_calls : ℕ → List Said
sample_calls zero = done (arrive 0) ∷ []
sample_calls (suc m) = done (tick (false ∷ false ∷ [])) ∷ sample_calls m

-- The start figures of its tasks: 21 and 30.
abbrev pub sample_start : ℕ → ℕ
sample_start v = cond (v == 0) 21 30

-- Its cycle is 30 over 1, and its start figures are these.
pub record SampleFigures (service : ℕ → Service) : Type 0 where
  pub cycle : Cycle sample_net service 30 1
  pub starts : Starts sample_net service 30 1 sample_start

-- After 27 ticks both first firings have ended, at their finish bounds: task 0 at 18 and task 1 at 27. Nothing else was put.
pub record SampleRun (slots : ℕ) : Type 0 where
  pub first : SampleRack
  pub is_sample : IsSample first
  pub rack : SampleRack
  pub whole : Whole
  pub run : Run sample_steps sample_net first slots (sample_calls 27) rack whole
  pub records : whole.state.records ≡ (record { task = 0; firing = 0; clock = 18 } ∷ record { task = 1; firing = 0; clock = 27 } ∷ [])
  pub bound_0 : Finish sample_net (arrivals_of (sample_calls 27)) (by_worst sample_net (sample_service rack)) 0 0 18
  pub bound_1 : Finish sample_net (arrivals_of (sample_calls 27)) (by_worst sample_net (sample_service rack)) 1 0 27
  pub figures : SampleFigures (sample_service rack)

-- The sample net is sound, and with a belt of two slots or more there is the run.
pub record Sample : Type 0 where
  pub sound : Sound sample_net
  pub some : (slots : ℕ) → 2 ≤ slots → SampleRun slots
