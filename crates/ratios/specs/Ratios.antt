-- Cycle over parts as a value, the verdict on it, and a task's load.
use Rattle.std.specs.Prelude.{◌≡◌, ℕ, ◌*◌, ◌<◌, ◌≤◌, cond, Result, MatchResult}
use Rattle.faults.specs.Faults.{fault}
use Rattle.faults.specs.declared.fault.Fault.{Fault}
use Rattle.faults.specs.declared.layer.Layer.TheVariants.{Server}
use Rattle.servers.specs.Figures.{ceiling}
use Rattle.flow.specs.Verdicts.{keeps, Load}
use Rattle.ratios.specs.declared.ratio.Ratio.{Ratio}
use Rattle.ratios.specs.declared.verdict.Verdict.{Verdict}
use Rattle.ratios.specs.declared.verdict.Verdict.TheVariants.{Keeps, Late}

-- A ring of at most 16 tasks may weigh so much and hold so many tokens.
pub record OfRing (weight tokens : ℕ) : Type 0 where
  pub weighs : 1 ≤ weight
  pub light : weight ≤ 16 * ceiling
  pub holds : 1 ≤ tokens
  pub few : tokens ≤ 16 * 255

-- Cycle over parts is weight over tokens, with no common divisor left.
pub record Is (r : Ratio) (weight tokens : ℕ) : Type 0 where
  pub same : r.parts * weight ≡ r.cycle * tokens
  pub lowest : (d m k : ℕ) → r.cycle ≡ d * m → r.parts ≡ d * k → d ≡ 1

abbrev pub verdict_of : ℕ → ℕ → ℕ → Verdict
verdict_of goal cycle parts = cond (keeps goal cycle parts) Keeps Late

-- A pace above the ceiling is refused by 12, as the server refuses it.
abbrev pub TellsLoad : ℕ → ℕ → ℕ → Result ℕ Fault → Type 0
TellsLoad cycle parts pace r = MatchResult r (λ x. Load pace cycle parts x × (pace ≤ ceiling)) (λ e. (e ≡ fault 12 Server 0 0) × (ceiling < pace))
