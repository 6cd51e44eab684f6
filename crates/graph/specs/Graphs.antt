-- Which graphs are accepted, and by what the others are refused.
use Rattle.std.specs.Prelude.{◌≡◌, ℕ, List, length, vec_items, Result, MatchResult}
use Rattle.faults.specs.Faults.{fault}
use Rattle.faults.specs.declared.fault.Fault.{Fault}
use Rattle.faults.specs.declared.layer.Layer.TheVariants as layer
use Rattle.graph.specs.declared.parts.Task.{Task}
use Rattle.graph.specs.declared.parts.Edge.{Edge}
use Rattle.graph.specs.declared.origin.Origin.{Origin}
use Rattle.graph.specs.declared.graph.Graph.{Graph}
use Rattle.graph.specs.Edges.{Ends, NoRing, Topmost}
use Rattle.graph.specs.Legal.{Counts, Ranges}
use Rattle.graph.specs.Lines.{line_of}

-- Everything is in order.
pub record Legal (goal : ℕ) (ts : List Task) (es : List Edge) : Type 0 where
  pub counts : Counts ts es
  pub ranges : Ranges goal ts es
  pub ends : Ends es (length ts)
  pub no_ring : NoRing es (length ts)

-- The first check that fails, all before it being in order: its fault is told.
pub data Refuses (goal : ℕ) (ts : List Task) (es : List Edge) (origin : Origin) (e : Fault) : Type 0 where
  count : e ≡ fault 9 layer.Graph 0 0 → (Counts ts es → ⊥) → Refuses goal ts es origin e
  range : e ≡ fault 5 layer.Graph 0 0 → Counts ts es → (Ranges goal ts es → ⊥) → Refuses goal ts es origin e
  end : e ≡ fault 8 layer.Graph 0 0 → Counts ts es → Ranges goal ts es → (Ends es (length ts) → ⊥) → Refuses goal ts es origin e
  ring : (v : ℕ) → e ≡ fault 11 layer.Graph (line_of origin v) 0 → Counts ts es → Ranges goal ts es → Ends es (length ts) → Topmost es (length ts) v → Refuses goal ts es origin e

-- The graph of a goal, tasks and edges.
pub record IsGraph (goal : ℕ) (ts : List Task) (es : List Edge) (origin : Origin) (g : Graph) : Type 0 where
  pub goal_is : g.goal ≡ goal
  pub tasks_are : vec_items g.tasks ≡ ts
  pub edges_are : vec_items g.edges ≡ es
  pub origin_is : g.origin ≡ origin

-- The answer: the graph exactly where everything is in order, else the first fault.
abbrev pub Builds : ℕ → List Task → List Edge → Origin → Result Graph Fault → Type 0
Builds goal ts es origin r = MatchResult r (λ g. Legal goal ts es × IsGraph goal ts es origin g) (Refuses goal ts es origin)
