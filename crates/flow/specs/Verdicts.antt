-- Margin, verdict and load.
use Rattle.std.specs.Prelude.{ℕ, ◌+◌, ◌*◌, ◌<◌, ◌≤◌, Bool, ℤ, pos, ◌-ℤ◌, nat_le}

-- goal × parts − cycle, a signed number
abbrev pub margin : ℕ → ℕ → ℕ → ℤ
margin goal cycle parts = pos (goal * parts) -ℤ pos cycle

-- The rows keep up: the margin is not below 0.
abbrev pub keeps : ℕ → ℕ → ℕ → Bool
keeps goal cycle parts = nat_le cycle (goal * parts)

-- x is a over b, rounded to whole, halves up.
pub record Rounded (a b x : ℕ) : Type 0 where
  pub low : 2 * (x * b) ≤ 2 * a + b
  pub high : 2 * a + b < 2 * (x * b) + 2 * b

-- The load of a task of this pace, in thousandths.
abbrev pub Load : ℕ → ℕ → ℕ → ℕ → Type 0
Load pace cycle parts x = Rounded (1000 * (pace * parts)) cycle x
