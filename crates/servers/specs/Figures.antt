-- When a figure is told, and when it is refused.
use Rattle.std.specs.Prelude.{◌≡◌, ℕ, ◌<◌, ◌≤◌, Result, MatchResult}
use Rattle.faults.specs.Faults.{fault}
use Rattle.faults.specs.declared.fault.Fault.{Fault}
use Rattle.faults.specs.declared.layer.Layer.TheVariants.{Server}

abbrev pub ceiling : ℕ
ceiling = 1000000000000

-- A server's figure x is told where it is at most the ceiling, and else refused by 12.
abbrev pub Tells : ℕ → Result ℕ Fault → Type 0
Tells x r = MatchResult r (λ v. (v ≡ x) × (x ≤ ceiling)) (λ e. (e ≡ fault 12 Server 0 0) × (ceiling < x))
