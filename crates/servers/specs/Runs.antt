-- Whole runs of ticks, and what a service comes to over them.
use Rattle.std.specs.Prelude.{◌≡◌, ℕ, ◌+◌, ◌≤◌, Bool, cond, List, [], ◌∷◌, length}
use Rattle.servers.specs.Service.{Service}

-- One tick as it went: whether others claimed it, and whether it was granted.
pub record Tick : Type 0 where
  pub claimed : Bool
  pub granted : Bool

-- A run of a server's ticks, from a state to a state.
abbrev pub Run : {S : Type 0} → (S → Bool → Bool → S → Type 0) → S → List Tick → S → Type 0
Run steps a [] c = c ≡ a
Run {S} steps a (t ∷ ts) c = (b : S) × steps a t.claimed t.granted b × Run steps b ts c

-- How many ticks were granted.
abbrev pub grants : List Tick → ℕ
grants [] = 0
grants (t ∷ ts) = cond t.granted 1 0 + grants ts

-- Whatever is claimed: after as many ticks as a state's wait for n says, at least n were granted.
abbrev pub InTime : {S : Type 0} → (S → Service) → (S → Bool → Bool → S → Type 0) → Type 0
InTime {S} service steps = (a b : S) (ts : List Tick) → Run steps a ts b → (n : ℕ) → (service a).wait n ≤ length ts → n ≤ grants ts
