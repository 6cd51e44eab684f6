-- A slice that floats in its period: its ticks come where others leave them, and at the latest at the period's end.
use Rattle.std.specs.Prelude.{◌≡◌, ℕ, ◌+◌, ◌-◌, ◌*◌, Bool, cond, not, ◌&&◌, ◌||◌, ◌==◌, nat_lt}
use Rattle.servers.specs.Service.{Service}
use Rattle.servers.specs.Slices.{worst_of, pace_of}
use Rattle.servers.specs.declared.float.Float.{Float}

-- With t ticks of the period passed and g granted: the n-th grant is one that this period still owes, or comes in those after it.
abbrev pub float_wait : ℕ → ℕ → ℕ → ℕ → ℕ → ℕ
float_wait p s t g n = cond (n == 0) 0 (cond (nat_lt (s - g) n) ((p - t) + worst_of p s (n - (s - g))) (((p - t) - (s - g)) + n))

abbrev pub float_worst : ℕ → ℕ → ℕ → ℕ
float_worst p s n = cond (n == 0) 0 (worst_of p s n + (p - s))

abbrev pub float_at : ℕ → ℕ → ℕ → ℕ → Service
float_at p s t g = record { wait = float_wait p s t g; worst = float_worst p s; lead = 2 * (p - s); pace = pace_of p s }

abbrev pub float_service : Float → Service
float_service f = float_at f.slice.period f.slice.ticks f.passed f.given

-- A tick: granted where some are owed, and nobody claims it or no more are left than are owed.
pub record Floats (a : Float) (claimed granted : Bool) (b : Float) : Type 0 where
  pub says : granted ≡ (nat_lt a.given a.slice.ticks && (not claimed || a.slice.ticks - a.given == a.slice.period - a.passed))
  pub passes : b.passed ≡ cond (nat_lt (a.passed + 1) a.slice.period) (a.passed + 1) 0
  pub gives : b.given ≡ cond (nat_lt (a.passed + 1) a.slice.period) (cond granted (a.given + 1) a.given) 0
  pub same_period : b.slice.period ≡ a.slice.period
  pub same_slice : b.slice.ticks ≡ a.slice.ticks
