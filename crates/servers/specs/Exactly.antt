-- Of a fixed slice and of a float: exactly which ticks of a run are granted.
use Rattle.std.specs.Prelude.{◌≡◌, ℕ, ◌<◌, true, List, [], ◌∷◌, ◌++◌, length}
use Rattle.servers.specs.Runs.{Tick, Run, grants}
use Rattle.servers.specs.FixedService.{fixed_service, Moves}
use Rattle.servers.specs.FloatService.{Floats}
use Rattle.servers.specs.declared.fixed.Fixed.{Fixed}
use Rattle.servers.specs.declared.float.Float.{Float}

-- The last tick was granted.
abbrev pub EndsGranted : List Tick → Type 0
EndsGranted ts = (front : List Tick) × (t : Tick) × (ts ≡ front ++ (t ∷ [])) × (t.granted ≡ true)

-- The n-th grant of a fixed slice comes exactly at its wait: after that many ticks n were granted, and the last of them was granted.
abbrev pub Exactly : Type 0
Exactly = (f g : Fixed) (ts : List Tick) → Run Moves f ts g → (n : ℕ) → 0 < n → length ts ≡ (fixed_service f).wait n → (grants ts ≡ n) × EndsGranted ts

-- A float at the start of a period.
abbrev pub Starts : Float → Type 0
Starts f = (f.passed ≡ 0) × (f.given ≡ 0)

-- A float grants its slice in each period, no more and no less, whatever others claim; then it stands at the start of the next.
abbrev pub EachPeriod : Type 0
EachPeriod = (f g : Float) (ts : List Tick) → Starts f → Run Floats f ts g → length ts ≡ f.slice.period → (grants ts ≡ f.slice.ticks) × Starts g
