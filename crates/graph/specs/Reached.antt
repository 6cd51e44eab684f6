-- Marks on the tasks that token-free edges lead to.
use Rattle.std.specs.Prelude.{◌≡◌, ℕ, ◌<◌, Bool, true, false, cond, ◌⊎◌, List, length, sum_by, slice_index_or}
use Rattle.graph.specs.declared.parts.Edge.{Edge}
use Rattle.graph.specs.Edges.{FreeEdge, Leads}

abbrev pub Marked : List Bool → ℕ → Type 0
Marked m u = slice_index_or m u false ≡ true

-- Marked are only task v and those to which a chain leads from it.
abbrev pub MarksReached : List Edge → ℕ → List Bool → Type 0
MarksReached es v m = (u : ℕ) → Marked m u → (u ≡ v) ⊎ Leads es v u

-- No token-free edge leads from a marked task to another, among the first k edges.
abbrev pub Closed : List Edge → ℕ → List Bool → Type 0
Closed es k m = (e u w : ℕ) → e < k → FreeEdge es u w e → Marked m u → Marked m w

abbrev pub unmarked : List Bool → ℕ
unmarked m = sum_by (λ b. cond b 0 1) m

-- One round of marking: what was marked stays so, what is marked rightly stays so; something new is marked, or nothing is left to mark.
pub record Grown (es : List Edge) (before : List Bool) (grew : Bool) (after : List Bool) : Type 0 where
  pub stays : (u : ℕ) → Marked before u → Marked after u
  pub right : (v : ℕ) → MarksReached es v before → MarksReached es v after
  pub grows : grew ≡ true → unmarked after < unmarked before
  pub done : grew ≡ false → Closed es (length es) after

-- Task v and all to which a chain leads from it are marked, and no others.
pub record Reached (es : List Edge) (v : ℕ) (m : List Bool) : Type 0 where
  pub start : Marked m v
  pub right : MarksReached es v m
  pub closed : Closed es (length es) m
