-- The edges between tasks, and the rings whose edges hold no token.
use Rattle.std.specs.Prelude.{◌≡◌, ℕ, ◌<◌, List, length, slice_index_or}
use Rattle.graph.specs.declared.parts.Edge.{Edge}

abbrev pub no_edge : Edge
no_edge = record { from = 0; to = 0; tokens = 0 }

abbrev pub edge_at : List Edge → ℕ → Edge
edge_at es e = slice_index_or es e no_edge

-- Every edge runs between two of n tasks.
pub record Ends (es : List Edge) (n : ℕ) : Type 0 where
  pub from : (e : ℕ) → e < length es → (edge_at es e).from < n
  pub to : (e : ℕ) → e < length es → (edge_at es e).to < n

-- Edge e runs from u to v and holds no token.
pub record FreeEdge (es : List Edge) (u v e : ℕ) : Type 0 where
  pub there : e < length es
  pub from : (edge_at es e).from ≡ u
  pub to : (edge_at es e).to ≡ v
  pub none : (edge_at es e).tokens ≡ 0

-- A chain of one or more edges that hold no token leads from u to v.
pub data Leads (es : List Edge) : ℕ → ℕ → Type 0 where
  last : (u v e : ℕ) → FreeEdge es u v e → Leads es u v
  more : (u v w e : ℕ) → FreeEdge es u v e → Leads es v w → Leads es u w

-- Task v lies on a ring whose edges hold no token: a chain of them leads back to it.
abbrev pub OnRing : List Edge → ℕ → Type 0
OnRing es v = Leads es v v

-- The first of n tasks that lies on such a ring.
pub record Topmost (es : List Edge) (n v : ℕ) : Type 0 where
  pub there : v < n
  pub on : OnRing es v
  pub first : (u : ℕ) → u < v → OnRing es u → ⊥

-- None of n tasks lies on such a ring.
abbrev pub NoRing : List Edge → ℕ → Type 0
NoRing es n = (v : ℕ) → v < n → OnRing es v → ⊥

-- One of n tasks does.
abbrev pub SomeRing : List Edge → ℕ → Type 0
SomeRing es n = (v : ℕ) × (v < n) × OnRing es v
