-- Which settings a server takes, and how it starts.
use Rattle.std.specs.Prelude.{◌≡◌, ℕ, ◌<◌, ◌≤◌, Result, MatchResult}
use Rattle.faults.specs.Faults.{fault}
use Rattle.faults.specs.declared.fault.Fault.{Fault}
use Rattle.faults.specs.declared.layer.Layer.TheVariants.{Server}
use Rattle.servers.specs.declared.settings.Settings.{Settings}
use Rattle.servers.specs.declared.slice.Slice.{Slice}
use Rattle.servers.specs.declared.own.Own.{Own}
use Rattle.servers.specs.declared.fixed.Fixed.{Fixed}
use Rattle.servers.specs.declared.float.Float.{Float}

-- A legal slice of a period.
pub record LegalSlice (s : Settings) : Type 0 where
  pub some : 0 < s.slice
  pub within : s.slice ≤ s.period
  pub short : s.period ≤ 65535

-- A maker answers a server that was made as M says, exactly from legal settings; it refuses the others by 10, at their line.
abbrev pub Makes : {S : Type 0} → Type 0 → (S → Type 0) → ℕ → Result S Fault → Type 0
Makes Legal M line r = MatchResult r (λ s. Legal × M s) (λ e. (e ≡ fault 10 Server line 0) × (Legal → ⊥))

-- The slice that has these settings.
abbrev pub IsSlice : Settings → Slice → Type 0
IsSlice s z = (z.period ≡ s.period) × (z.ticks ≡ s.slice)

abbrev pub MakesSlice : Settings → ℕ → Result Slice Fault → Type 0
MakesSlice s = Makes (LegalSlice s) (IsSlice s)

abbrev pub LegalOwn : Settings → Type 0
LegalOwn s = (s.period ≡ 1) × (s.slice ≡ 1) × (s.phase ≡ 0)

abbrev pub MakesOwn : Settings → ℕ → Result Own Fault → Type 0
MakesOwn s = Makes (LegalOwn s) (λ _. Unit {0})

abbrev pub LegalFixed : Settings → Type 0
LegalFixed s = LegalSlice s × (s.phase < s.period)

-- The fixed slice that has these settings, its position at the phase.
abbrev pub IsFixed : Settings → Fixed → Type 0
IsFixed s f = (f.slice.period ≡ s.period) × (f.slice.ticks ≡ s.slice) × (f.position ≡ s.phase)

abbrev pub MakesFixed : Settings → ℕ → Result Fixed Fault → Type 0
MakesFixed s = Makes (LegalFixed s) (IsFixed s)

abbrev pub LegalFloat : Settings → Type 0
LegalFloat s = LegalSlice s × (s.phase ≡ 0)

abbrev pub IsFloat : Settings → Float → Type 0
IsFloat s f = (f.slice.period ≡ s.period) × (f.slice.ticks ≡ s.slice) × (f.passed ≡ 0) × (f.given ≡ 0)

abbrev pub MakesFloat : Settings → ℕ → Result Float Fault → Type 0
MakesFloat s = Makes (LegalFloat s) (IsFloat s)
