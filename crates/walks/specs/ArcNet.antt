-- Arcs between tasks, and values that are stepped along them.
use Rattle.std.specs.Prelude.{◌≡◌, ℕ, ◌<◌, ◌≢◌, ◌⊎◌, ⊤, List, [], ◌∷◌, length}

-- P holds of each element, by recursion on the list.
abbrev pub Each : {X : Type 0} → (X → Type 0) → List X → Type 0
Each P [] = ⊤
Each P (x ∷ xs) = P x × Each P xs

-- tasks 0 .. tasks - 1 and arcs 0 .. arcs - 1; `upto x y`: y is at least as good as x; each arc steps a value on
pub record ArcNet : Type 1 where
  pub V : Type 0
  pub upto : V → V → Type 0
  pub tasks : ℕ
  pub arcs : ℕ
  pub from : ℕ → ℕ
  pub to : ℕ → ℕ
  pub base : ℕ → V
  pub step : ℕ → V → V

-- the choice is total, and a step keeps it
pub record Lawful (g : ArcNet) : Type 0 where
  pub same : (x : g.V) → g.upto x x
  pub chain : (x y z : g.V) → g.upto x y → g.upto y z → g.upto x z
  pub total : (x y : g.V) → g.upto x y ⊎ g.upto y x
  pub spreads : (e : ℕ) (x y : g.V) → e < g.arcs → g.upto x y → g.upto (g.step e x) (g.step e y)
  pub from_task : (e : ℕ) → e < g.arcs → g.from e < g.tasks
  pub to_task : (e : ℕ) → e < g.arcs → g.to e < g.tasks

-- the arcs lead from u to v, one after the other
abbrev pub Way : ArcNet → ℕ → List ℕ → ℕ → Type 0
Way g u [] v = u ≡ v
Way g u (e ∷ es) v = (e < g.arcs) × (g.from e ≡ u) × Way g (g.to e) es v

-- a value stepped along arcs
abbrev pub along : (g : ArcNet) → List ℕ → g.V → g.V
along g [] z = z
along g (e ∷ es) z = along g es (g.step e z)

-- no two of them set out from one task
abbrev pub Apart : {X : Type 0} → (X → ℕ) → List X → Type 0
Apart f [] = ⊤
Apart f (x ∷ xs) = Each (λ y. f y ≢ f x) xs × Apart f xs

-- a closed way that meets no task twice
pub record Round (g : ArcNet) (v : ℕ) (es : List ℕ) : Type 0 where
  pub some : 0 < length es
  pub way : Way g v es v
  pub apart : Apart (g.from) es

-- x is at least the base, and keeps to each arc
pub record Settled (g : ArcNet) (x : ℕ → g.V) : Type 0 where
  pub based : (v : ℕ) → v < g.tasks → g.upto (g.base v) (x v)
  pub keeps : (e : ℕ) → e < g.arcs → g.upto (g.step e (x (g.from e))) (x (g.to e))

-- the least such
pub record Least (g : ArcNet) (x : ℕ → g.V) : Type 0 where
  pub settled : Settled g x
  pub least : (y : ℕ → g.V) → Settled g y → (v : ℕ) → v < g.tasks → g.upto (x v) (y v)

-- a ring that improves on standing still: some value comes back better
pub record Improves (g : ArcNet) (v : ℕ) (es : List ℕ) : Type 0 where
  pub round : Round g v es
  pub value : g.V
  pub better : g.upto (along g es value) value → ⊥
