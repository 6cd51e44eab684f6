-- All figures of a graph on a rack, together.
use Rattle.std.specs.Prelude.{◌≡◌, ◌↔◌, ℕ, ◌*◌, ◌<◌, ◌≤◌, slice_index, Result, MatchResult}
use Rattle.faults.specs.declared.fault.Fault.{Fault}
use Rattle.servers.specs.Service.{Service}
use Rattle.graph.specs.declared.graph.Graph.{Graph}
use Rattle.graph.specs.Racked.{Racked, RefusesRack}
use Rattle.flow.specs.Nets.{Net, net_of}
use Rattle.flow.specs.Rings.{pace_of, Cycle, Starts}
use Rattle.flow.specs.Verdicts.{margin, Load}
use Rattle.ratios.specs.Ratios.{verdict_of}
use Rattle.ratios.specs.declared.verdict.Verdict.TheVariants.{Keeps}
use Rattle.figures.specs.declared.figures.Figures.{Figures}
use Rattle.figures.specs.Critical.{CriticalOf, ring_tasks}

-- They are those of the net at this goal, and 0 stands where there is no task.
pub record AllFigures (n : Net) (service : ℕ → Service) (goal : ℕ) (f : Figures) : Type 0 where
  pub cycle : Cycle n service f.ratio.cycle f.ratio.parts
  pub margin : f.margin ≡ margin goal f.ratio.cycle f.ratio.parts
  pub verdict : f.verdict ≡ verdict_of goal f.ratio.cycle f.ratio.parts
  pub keeps : (f.verdict ≡ Keeps) ↔ (f.ratio.cycle ≤ goal * f.ratio.parts)
  pub starts : Starts n service f.ratio.cycle f.ratio.parts (λ v. slice_index f.starts v)
  pub no_start : (v : ℕ) → n.tasks ≤ v → slice_index f.starts v ≡ 0
  pub loads : (v : ℕ) → v < n.tasks → Load (pace_of n service v) f.ratio.cycle f.ratio.parts (slice_index f.loads v)
  pub no_load : (v : ℕ) → n.tasks ≤ v → slice_index f.loads v ≡ 0
  pub critical : CriticalOf n service f.ratio.cycle f.ratio.parts (ring_tasks f.critical)

-- The same after the checks of the rack, whose refusal is told.
abbrev pub AnswersAll : Graph → ℕ → (ℕ → Service) → Result Figures Fault → Type 0
AnswersAll g places service r = MatchResult r (λ f. Racked g places service × AllFigures (net_of g) service g.goal f) (RefusesRack g places service)
