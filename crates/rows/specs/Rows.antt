-- Servers of one type in a row.
use Rattle.std.specs.Prelude.{◌≡◌, ℕ, ◌<◌, Bool, List, map, length, slice_index_or, slice_set}
use Rattle.servers.specs.Service.{Service}

-- what stands past the end
abbrev pub none_there : Service
none_there = record { wait = λ n. n; worst = λ n. n; lead = 0; pace = λ n. n }

abbrev pub row_service : {S : Type 0} → (S → Service) → List S → ℕ → Service
row_service service xs k = slice_index_or (map service xs) k none_there

-- A tick at k is one of the server there, which alone is written back.
pub record RowSteps {S : Type 0} (steps : S → Bool → Bool → S → Type 0) (xs : List S) (k : ℕ) (claimed granted : Bool) (ys : List S) : Type 0 where
  pub before : S
  pub after : S
  pub there : k < length xs
  pub was : before ≡ slice_index_or xs k before
  pub ticks : steps before claimed granted after
  pub is : ys ≡ slice_set xs k after
