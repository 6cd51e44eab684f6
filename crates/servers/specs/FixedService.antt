-- A fixed slice: the first ticks of every period, counted from a position.
use Rattle.std.specs.Prelude.{◌≡◌, ℕ, ◌+◌, ◌-◌, Bool, cond, nat_lt}
use Rattle.servers.specs.Service.{Service}
use Rattle.servers.specs.Slices.{wait_at, worst_of, pace_of}
use Rattle.servers.specs.declared.fixed.Fixed.{Fixed}

abbrev pub slice_service : ℕ → ℕ → ℕ → Service
slice_service p s at = record { wait = wait_at p s at; worst = worst_of p s; lead = p - s; pace = pace_of p s }

abbrev pub fixed_service : Fixed → Service
fixed_service f = slice_service f.slice.period f.slice.ticks f.position

-- A tick: granted exactly when the position is below the slice; the position moves on by one, from the period's end to 0.
pub record Moves (a : Fixed) (claimed granted : Bool) (b : Fixed) : Type 0 where
  pub says : granted ≡ nat_lt a.position a.slice.ticks
  pub goes : b.position ≡ cond (nat_lt (a.position + 1) a.slice.period) (a.position + 1) 0
  pub same_period : b.slice.period ≡ a.slice.period
  pub same_slice : b.slice.ticks ≡ a.slice.ticks
