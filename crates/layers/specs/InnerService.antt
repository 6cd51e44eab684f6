-- A layer over any server: one service kept in the grants of another.
use Rattle.std.specs.Prelude.{◌≡◌, ℕ, ◌+◌, Bool, true, false, Result}
use Rattle.faults.specs.declared.fault.Fault.{Fault}
use Rattle.servers.specs.Service.{Service}
use Rattle.servers.specs.FixedService.{fixed_service, Moves}
use Rattle.servers.specs.Settings.{Makes, LegalFixed, IsFixed}
use Rattle.servers.specs.declared.fixed.Fixed.{Fixed}
use Rattle.servers.specs.declared.settings.Settings.{Settings}
use Rattle.layers.specs.declared.inner.Inner.{Inner}

-- Service s, counted in the grants of service b below it.
abbrev pub within : Service → Service → Service
within b s = record { wait = λ n. b.wait (s.wait n); worst = λ n. b.worst (s.worst n); lead = b.lead + b.pace s.lead; pace = λ n. b.pace (s.pace n) }

-- The layer's slice moves only on a tick granted below, and grants nothing on the others.
abbrev pub Layered : Bool → Fixed → Bool → Bool → Fixed → Type 0
Layered true a claimed granted b = Moves a claimed granted b
Layered false a claimed granted b = (granted ≡ false) × (b ≡ a)

abbrev pub inner_service : {S : Type 0} → (S → Service) → Inner S → Service
inner_service service s = within (service s.below) (fixed_service s.slice)

-- A tick is one of the server below, told the same claim, and of the layer's slice where it is granted there.
abbrev pub InnerSteps : {S : Type 0} → (S → Bool → Bool → S → Type 0) → Inner S → Bool → Bool → Inner S → Type 0
InnerSteps steps a claimed granted b = (low : Bool) × steps a.below claimed low b.below × Layered low a.slice claimed granted b.slice

-- A new layer is a fixed slice of its own over what stands below.
abbrev pub MakesInner : {S : Type 0} → S → Settings → ℕ → Result (Inner S) Fault → Type 0
MakesInner below s = Makes (LegalFixed s) (λ i. (i.below ≡ below) × IsFixed s i.slice)
