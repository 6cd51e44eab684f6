-- An order of the tasks in which each token-free edge goes forward.
use Rattle.std.specs.Prelude.{◌≡◌, ℕ, ◌<◌, ◌≤◌, List, length, slice_index}
use Rattle.std.specs.List.{SwappedAt}
use Rattle.graph.specs.declared.parts.Edge.{Edge}
use Rattle.graph.specs.declared.order.Order.{Order}
use Rattle.graph.specs.Edges.{edge_at}

-- Edge e is token-free and leads into v, from a task that is not among the first p.
pub record Pending (es : List Edge) (place : List ℕ) (p v e : ℕ) : Type 0 where
  pub there : e < length es
  pub into : (edge_at es e).to ≡ v
  pub none : (edge_at es e).tokens ≡ 0
  pub later : p ≤ slice_index place (edge_at es e).from

-- v waits for one that is not among the first p.
abbrev pub Waits : List Edge → List ℕ → ℕ → ℕ → Type 0
Waits es place p v = (e : ℕ) × Pending es place p v e

-- v waits for none but the first p.
pub record Clear (es : List Edge) (place : List ℕ) (p v : ℕ) : Type 0 where
  pub all : (e : ℕ) → e < length es → (edge_at es e).to ≡ v → (edge_at es e).tokens ≡ 0 → slice_index place (edge_at es e).from < p

-- Place q, from p on, has a task that is clear.
pub record Next (es : List Edge) (n : ℕ) (order : Order) (p q : ℕ) : Type 0 where
  pub since : p ≤ q
  pub within : q < n
  pub clear : Clear es order.place p (slice_index order.list q)

-- The token-free edges into the first p tasks go forward.
pub record Ordered (es : List Edge) (place : List ℕ) (p : ℕ) : Type 0 where
  pub forward : (e : ℕ) → e < length es → (edge_at es e).tokens ≡ 0 → slice_index place (edge_at es e).to < p → slice_index place (edge_at es e).from < slice_index place (edge_at es e).to

-- p and q have changed places.
pub record Swapped (before : Order) (p q : ℕ) (after : Order) : Type 0 where
  pub tasks : after.tasks ≡ before.tasks
  pub list : SwappedAt before.list after.list p q
  pub place : SwappedAt before.place after.place (slice_index before.list p) (slice_index before.list q)
