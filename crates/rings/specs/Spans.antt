-- What the hops into each task weigh, and the arcs by which the edges are searched.
use Rattle.std.specs.Prelude.{◌≡◌, ℕ, ◌*◌, ◌<◌, ◌≤◌, List, slice_index, vec_len, pos, ◌-ℤ◌, Result, MatchResult}
use Rattle.faults.specs.declared.fault.Fault.{Fault}
use Rattle.servers.specs.Service.{Service}
use Rattle.servers.specs.Figures.{ceiling}
use Rattle.graph.specs.declared.graph.Graph.{Graph}
use Rattle.graph.specs.declared.parts.Edge.{Edge}
use Rattle.graph.specs.Racked.{Racked, RefusesRack}
use Rattle.flow.specs.Nets.{net_of}
use Rattle.flow.specs.Rings.{pace_of, lead_and_pace_of}
use Rattle.walks.specs.declared.arcs.Arc.{Arc}
use Rattle.rings.specs.declared.weights.Weights.{Weights}

-- No span is above the ceiling.
abbrev pub Told : Graph → List ℕ → Type 0
Told g spans = (v : ℕ) → v < vec_len g.tasks → slice_index spans v ≤ ceiling

-- They are lead and pace of the tasks' servers.
abbrev pub Spans : Graph → (ℕ → Service) → List ℕ → Type 0
Spans g service spans = (v : ℕ) → v < vec_len g.tasks → slice_index spans v ≡ lead_and_pace_of (net_of g) service v

-- Paces are from 1 to the ceiling.
abbrev pub Paced : Graph → List ℕ → Type 0
Paced g paces = (v : ℕ) → v < vec_len g.tasks → (1 ≤ slice_index paces v) × (slice_index paces v ≤ ceiling)

-- They are the paces of the tasks' servers.
abbrev pub Paces : Graph → (ℕ → Service) → List ℕ → Type 0
Paces g service paces = (v : ℕ) → v < vec_len g.tasks → slice_index paces v ≡ pace_of (net_of g) service v

-- Both are read of a rack that the graph accepts, and else its refusal is told.
abbrev pub ReadsWeights : Graph → ℕ → (ℕ → Service) → Result Weights Fault → Type 0
ReadsWeights g places service r =
    MatchResult r (λ w. Racked g places service × Spans g service w.spans × Told g w.spans × Paces g service w.paces × Paced g w.paces) (RefusesRack g places service)

-- An edge as it is searched.
abbrev pub arc_of : List ℕ → ℕ → ℕ → Edge → Arc
arc_of spans cycle parts e = record { from = e.from; to = e.to; lag = pos (parts * slice_index spans e.to) -ℤ pos (cycle * e.tokens) }
