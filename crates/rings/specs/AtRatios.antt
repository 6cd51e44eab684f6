-- What there is at cycle over parts: start figures, or a ring of edges above it.
use Rattle.std.specs.Prelude.{ℕ, ◌*◌, ◌<◌, ◌≤◌, List, map, slice_index, Result, MatchResult}
use Rattle.faults.specs.declared.fault.Fault.{Fault}
use Rattle.servers.specs.Service.{Service}
use Rattle.graph.specs.declared.graph.Graph.{Graph}
use Rattle.graph.specs.Racked.{Racked, RefusesRack}
use Rattle.flow.specs.Nets.{Net, net_of}
use Rattle.flow.specs.Rings as rings
use Rattle.flow.specs.Rings.{edge, weight, tokens_on, Ring}
use Rattle.walks.specs.Arcs.{arcs_of}
use Rattle.rings.specs.declared.at_ratio.AtRatio.{AtRatio}
use Rattle.rings.specs.declared.at_ratio.AtRatio.TheVariants.{Starts, Slower}

-- These edges are a ring that has more ticks per token than cycle over parts.
pub record Above (n : Net) (service : ℕ → Service) (cycle parts : ℕ) (edges : List ℕ) : Type 0 where
  pub ring : Ring n (map edge edges)
  pub above : cycle * tokens_on n (map edge edges) < parts * weight n service (map edge edges)

-- The least numbers that meet the start inequalities at cycle over parts, or a ring of edges above it. Links are not asked.
abbrev pub Finds : Net → (ℕ → Service) → ℕ → ℕ → AtRatio → Type 0
Finds n service cycle parts (Starts starts) = rings.Starts n service cycle parts (λ v. slice_index starts v)
Finds n service cycle parts (Slower walk) = (walk.count ≤ 16) × Above n service cycle parts (arcs_of walk)

-- The same after the checks of the rack, whose refusal is told.
abbrev pub AnswersAt : Graph → ℕ → (ℕ → Service) → ℕ → ℕ → Result AtRatio Fault → Type 0
AnswersAt g places service cycle parts r = MatchResult r (λ found. Racked g places service × Finds (net_of g) service cycle parts found) (RefusesRack g places service)
