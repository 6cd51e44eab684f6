-- What holds of margin, verdict and load.
use Rattle.std.specs.Prelude.{◌≡◌, ℕ, ◌*◌, ◌≤◌, pos, ◌≤ℤ◌, Decides}
use Rattle.flow.specs.Verdicts.{margin, keeps, Rounded, Load}

-- The rows keep up exactly when the margin is not below 0.
abbrev pub KeepsByMargin : Type 0
KeepsByMargin = (goal cycle parts : ℕ) → Decides (keeps goal cycle parts) (pos 0 ≤ℤ margin goal cycle parts)

-- They do exactly when cycle over parts is at most the goal.
abbrev pub KeepsByCycle : Type 0
KeepsByCycle = (goal cycle parts : ℕ) → Decides (keeps goal cycle parts) (cycle ≤ goal * parts)

-- A quotient by a number that is not 0 rounds to one number.
pub record OneRounded : Type 0 where
  pub some : (a b : ℕ) → 1 ≤ b → (x : ℕ) × Rounded a b x
  pub only : (a b x y : ℕ) → Rounded a b x → Rounded a b y → x ≡ y

-- A task has one load, where the cycle is not 0.
pub record OneLoad : Type 0 where
  pub some : (pace cycle parts : ℕ) → 1 ≤ cycle → (x : ℕ) × Load pace cycle parts x
  pub only : (pace cycle parts x y : ℕ) → Load pace cycle parts x → Load pace cycle parts y → x ≡ y
