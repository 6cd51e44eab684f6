-- Arcs that add a lag to a value, and what pushing along one does.
use Rattle.std.specs.Prelude.{◌≡◌, ℕ, ◌+◌, ◌^◌, ◌≤◌, ◌<◌, ◌⊎◌, ◌≢◌, List, [], ◌∷◌, ◌++◌, length, slice_index_or, slice_set, take, drop, ℤ, pos, ◌+ℤ◌, ◌≤ℤ◌, ◌<ℤ◌}
use Rattle.walks.specs.ArcNet.{ArcNet, Improves, Least}
use Rattle.walks.specs.declared.arcs.Arc.{Arc}
use Rattle.walks.specs.declared.best.Best.{Best}
use Rattle.walks.specs.declared.best.Pushed.{Pushed}
use Rattle.walks.specs.declared.best.Pushed.TheVariants.{Kept, Raised, Closed}
use Rattle.walks.specs.declared.found.Walk.{Walk}
use Rattle.walks.specs.declared.found.Found.{Found}
use Rattle.walks.specs.declared.found.Found.TheVariants.{Still, Ring}

abbrev pub no_arc : Arc
no_arc = record { from = 0; to = 0; lag = pos 0 }

abbrev pub no_best : Best
no_best = record { value = pos 0; count = 0; walk = [] }

abbrev pub arc_at : List Arc → ℕ → Arc
arc_at es e = slice_index_or es e no_arc

abbrev pub best_at : List Best → ℕ → Best
best_at bs v = slice_index_or bs v no_best

-- the net of the arcs, whose greatest values from the base on are looked for
abbrev pub net : List Arc → List ℤ → ArcNet
net es base = record {
  V = ℤ;
  upto = ◌≤ℤ◌;
  tasks = length base;
  arcs = length es;
  from = λ e. (arc_at es e).from;
  to = λ e. (arc_at es e).to;
  base = λ v. slice_index_or base v (pos 0);
  step = λ e z. z +ℤ (arc_at es e).lag;
}

-- what the arc e would make of the task that it leads to
abbrev pub stepped : List Arc → ℕ → List Best → ℤ
stepped es e bs = (best_at bs ((arc_at es e).from)).value +ℤ (arc_at es e).lag

pub record Better (es : List Arc) (e : ℕ) (bs : List Best) : Type 0 where
  pub above : (best_at bs ((arc_at es e).to)).value <ℤ stepped es e bs

-- the best b with one more arc
abbrev pub longer : Best → ℕ → ℤ → Best
longer b e z = record { value = z; count = b.count + 1; walk = slice_set (b.walk) (b.count) e }

abbrev pub Pushes : List Arc → ℕ → List Best → List Best → Pushed → Type 0
Pushes es e bs bs' Kept = (bs' ≡ bs) × (stepped es e bs ≤ℤ (best_at bs ((arc_at es e).to)).value)
Pushes es e bs bs' Raised =
    (bs' ≡ slice_set bs ((arc_at es e).to) (longer (best_at bs ((arc_at es e).from)) e (stepped es e bs)))
    × Better es e bs
    × ((arc_at es e).from ≢ (arc_at es e).to)
    × ((i : ℕ) → i < (best_at bs ((arc_at es e).from)).count → (arc_at es (slice_index_or ((best_at bs ((arc_at es e).from)).walk) i 0)).from ≢ (arc_at es e).to)
Pushes es e bs bs' (Closed i) =
    (bs' ≡ bs)
    × Better es e bs
    × (((i < (best_at bs ((arc_at es e).from)).count) × ((arc_at es (slice_index_or ((best_at bs ((arc_at es e).from)).walk) i 0)).from ≡ (arc_at es e).to))
    ⊎ ((i ≡ (best_at bs ((arc_at es e).from)).count) × ((arc_at es e).from ≡ (arc_at es e).to)))

-- The ends of each arc are two of n tasks.
abbrev pub Ends : List Arc → ℕ → Type 0
Ends es n = (e : ℕ) → e < length es → ((arc_at es e).from < n) × ((arc_at es e).to < n)

-- Each base is from 0 to 2^52.
abbrev pub Bases : List ℤ → Type 0
Bases base = (v : ℕ) → v < length base → (pos 0 ≤ℤ slice_index_or base v (pos 0)) × (slice_index_or base v (pos 0) ≤ℤ pos (2 ^ 52))

-- Each lag is at most 2^52.
abbrev pub Lags : List Arc → Type 0
Lags es = (e : ℕ) → e < length es → (arc_at es e).lag ≤ℤ pos (2 ^ 52)

-- What may be searched.
pub record Sound (es : List Arc) (base : List ℤ) : Type 0 where
  pub tasks : length base ≤ 16
  pub ends : Ends es (length base)
  pub bases : Bases base
  pub lags : Lags es

-- each task stands at its base, with no walk
pub record Begun (base : List ℤ) (bs : List Best) : Type 0 where
  pub tasks : length bs ≡ 16
  pub value : (v : ℕ) → v < length base → (best_at bs v).value ≡ slice_index_or base v (pos 0)
  pub count : (v : ℕ) → v < 16 → (best_at bs v).count ≡ 0
  pub room : (v : ℕ) → v < 16 → length (best_at bs v).walk ≡ 16

-- the walk to the arc's start from a place on, and then the arc
abbrev pub since : List Arc → List Best → ℕ → ℕ → List ℕ
since es bs e i = drop i (take (best_at bs (arc_at es e).from).count (best_at bs (arc_at es e).from).walk) ++ e ∷ []

-- the arc e closes a ring that improves on standing still
pub record Closes (es : List Arc) (base : List ℤ) (bs : List Best) (e i : ℕ) : Type 0 where
  pub arc : e < length es
  pub from : (arc_at es e).from < 16
  pub place : i ≤ (best_at bs (arc_at es e).from).count
  pub count : (best_at bs (arc_at es e).from).count < 16
  pub room : length (best_at bs (arc_at es e).from).walk ≡ 16
  pub ring : Improves (net es base) (arc_at es e).to (since es bs e i)

-- the least values, and the bests have them
abbrev pub Settles : List Arc → List ℤ → List Best → Type 0
Settles es base bs = Least (net es base) (λ v. (best_at bs v).value)

-- the arcs of a walk
abbrev pub arcs_of : Walk → List ℕ
arcs_of walk = take walk.count walk.arcs

-- the least values that keep to the arcs, one for each task, or the arcs of a ring that improves on standing still
abbrev pub Finds : List Arc → List ℤ → Found → Type 0
Finds es base (Still xs) = Least (net es base) (λ v. slice_index_or xs v (pos 0))
Finds es base (Ring ring) = (ring.count ≤ 16) × ((v : ℕ) × Improves (net es base) v (arcs_of ring))
