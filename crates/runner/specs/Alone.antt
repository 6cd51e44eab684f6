-- One task alone on one fixed slice, by its runners: in some phase the bound is met to the tick.
use Rattle.std.specs.Prelude.{◌≡◌, ℕ, ◌<◌, ◌≤◌, true, List, vec_len}
use Rattle.servers.specs.declared.fixed.Fixed.{Fixed}
use Rattle.racks.specs.declared.one.One.{One}
use Rattle.graph.specs.declared.graph.Graph.{Graph}
use Rattle.flow.specs.Nets.{net_of}
use Rattle.runs.specs.Runs.{Said, Whole}
use Rattle.runs.specs.Exact.{slice_steps, Meets, SomeRun, EndsAt, InPhase, Case}
use Rattle.runner.specs.Runners.{Led}
use Rattle.runner.specs.declared.runner.Runner.{Runner}

-- One task with an inlet and this time, and no edges.
pub record OneTask (g : Graph) (time : ℕ) : Type 0 where
  pub tasks : vec_len g.tasks ≡ 1
  pub edges : vec_len g.edges ≡ 0
  pub its_time : (net_of g).time 0 ≡ time
  pub inlet : (net_of g).inlet 0 ≡ true

-- In this phase of the slice, firing i ends exactly at t in every run that leads to a runner of such a graph and meets this; and there is such a run.
pub record RunnersAttain (period slice phase time : ℕ) (times : List ℕ) (i t : ℕ) : Type 0 where
  pub server : Fixed
  pub starts : InPhase period slice phase server
  pub some : (slots : ℕ) → 1 ≤ slots → SomeRun time server slots times i t
  pub each :
      (slots : ℕ) → 1 ≤ slots → (r : Runner (One Fixed)) → OneTask r.graph time → (said : List Said) (x : Whole) → Led (λ _. 1) slice_steps (record { server = server }) slots said r x →
      Meets time times i t said → EndsAt x.state i t

-- So it is in some phase: so no smaller bound is true of these runners in all phases.
abbrev pub RunnersExact : Type 0
RunnersExact = (period slice time : ℕ) (times : List ℕ) (i t : ℕ) → Case period slice time times i t → (phase : ℕ) × (phase < period) × RunnersAttain period slice phase time times i t
