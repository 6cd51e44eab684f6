-- Cycle over parts, a ring that reaches it, and the start figures, together.
use Rattle.std.specs.Prelude.{◌≡◌, ℕ, ◌*◌, ◌<◌, ◌≤◌, ⊤, List, [], ◌∷◌, map, slice_index, vec_len, Result, MatchResult}
use Rattle.faults.specs.declared.fault.Fault.{Fault}
use Rattle.servers.specs.Service.{Service}
use Rattle.graph.specs.declared.graph.Graph.{Graph}
use Rattle.graph.specs.Racked.{Racked, RefusesRack}
use Rattle.flow.specs.Nets.{Net, net_of}
use Rattle.flow.specs.Rings.{Hop, edge, link, pace_of, weight, tokens_on, Ring, Cycle, Starts}
use Rattle.walks.specs.Arcs.{arcs_of}
use Rattle.walks.specs.declared.found.Walk.{Walk}
use Rattle.rings.specs.declared.weights.Weights.{Weights}
use Rattle.rings.specs.Spans.{Spans, Paces}
use Rattle.rings.specs.declared.cycle.Critical.{Critical}
use Rattle.rings.specs.declared.cycle.Critical.TheVariants as critical
use Rattle.rings.specs.declared.cycle.RingFigures.{RingFigures}
use Rattle.rings.specs.declared.cycle.Best.{Best}
use Rattle.rings.specs.declared.cycle.Tried.{Tried}
use Rattle.rings.specs.declared.cycle.Tried.TheVariants as tried

-- The arcs of a walk are edges of the graph.
abbrev pub OnEdges : Graph → Walk → Type 0
OnEdges g walk = (i : ℕ) → i < walk.count → slice_index walk.arcs i < vec_len g.edges

-- The hops of the answered ring.
abbrev pub hops_of : Critical → List Hop
hops_of (critical.Link v) = link v ∷ []
hops_of (critical.Edges walk) = map edge (arcs_of walk)

-- All hops that the answered ring counts stand in its walk.
abbrev pub Short : Critical → Type 0
Short (critical.Link v) = ⊤
Short (critical.Edges walk) = walk.count ≤ 16

-- A ring that has just cycle over parts ticks per token.
pub record Reaches (n : Net) (service : ℕ → Service) (cycle parts : ℕ) (hops : List Hop) : Type 0 where
  pub ring : Ring n hops
  pub meets : parts * weight n service hops ≡ cycle * tokens_on n hops

-- The best ring reaches its ratio, and no link is above that.
pub record IsBest (n : Net) (service : ℕ → Service) (best : Best) : Type 0 where
  pub ring : Reaches n service best.ratio.cycle best.ratio.parts (hops_of best.ring)
  pub short : Short best.ring
  pub links : (v : ℕ) → v < n.tasks → best.ratio.parts * pace_of n service v ≤ best.ratio.cycle

-- It is so for whatever servers have these weights.
abbrev pub Kept : Graph → Weights → Best → Type 0
Kept g weights best = (service : ℕ → Service) → Spans g service weights.spans → Paces g service weights.paces → IsBest (net_of g) service best

-- A try at cycle over parts tells the start figures there, or a ring that reaches a ratio above it.
abbrev pub Tells : Net → (ℕ → Service) → ℕ → ℕ → Tried → Type 0
Tells n service cycle parts (tried.Starts starts) = Starts n service cycle parts (λ v. slice_index starts v)
Tells n service cycle parts (tried.Slower best) =
    Reaches n service best.ratio.cycle best.ratio.parts (hops_of best.ring) × Short best.ring × (cycle * best.ratio.parts < best.ratio.cycle * parts)

-- The figures are those of the net.
pub record AreFigures (n : Net) (service : ℕ → Service) (f : RingFigures) : Type 0 where
  pub cycle : Cycle n service f.ratio.cycle f.ratio.parts
  pub ring : Reaches n service f.ratio.cycle f.ratio.parts (hops_of f.ring)
  pub short : Short f.ring
  pub starts : Starts n service f.ratio.cycle f.ratio.parts (λ v. slice_index f.starts v)

-- The same for whatever servers have these weights.
abbrev pub Figures : Graph → Weights → RingFigures → Type 0
Figures g weights f = (service : ℕ → Service) → Spans g service weights.spans → Paces g service weights.paces → AreFigures (net_of g) service f

-- The same after the checks of the rack, whose refusal is told.
abbrev pub AnswersFigures : Graph → ℕ → (ℕ → Service) → Result RingFigures Fault → Type 0
AnswersFigures g places service r = MatchResult r (λ f. Racked g places service × AreFigures (net_of g) service f) (RefusesRack g places service)
