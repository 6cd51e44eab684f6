-- A server of any kind: what it offers, its ticks, and how it is made.
use Rattle.std.specs.Prelude.{ℕ, Bool, ⊤, Result}
use Rattle.faults.specs.declared.fault.Fault.{Fault}
use Rattle.servers.specs.Service.{Service}
use Rattle.servers.specs.OwnService.{own_service, OwnSteps}
use Rattle.servers.specs.FixedService.{fixed_service, Moves}
use Rattle.servers.specs.FloatService.{float_service, Floats}
use Rattle.servers.specs.Settings.{Makes, LegalOwn, LegalFixed, IsFixed, LegalFloat, IsFloat}
use Rattle.servers.specs.declared.settings.Settings.{Settings}
use Rattle.kinds.specs.declared.kind.Kind as kind
use Rattle.kinds.specs.declared.any_kind.AnyKind.{AnyKind}
use Rattle.kinds.specs.declared.any_kind.AnyKind.TheVariants.{Own, Fixed, Float}

abbrev pub any_service : AnyKind → Service
any_service (Own s) = own_service s
any_service (Fixed s) = fixed_service s
any_service (Float s) = float_service s

-- A tick is one of the server's own, and leaves the kind as it is.
abbrev pub AnySteps : AnyKind → Bool → Bool → AnyKind → Type 0
AnySteps (Own a) c g (Own b) = OwnSteps a c g b
AnySteps (Fixed a) c g (Fixed b) = Moves a c g b
AnySteps (Float a) c g (Float b) = Floats a c g b
AnySteps _ _ _ _ = ⊥

abbrev pub LegalAny : kind.Kind → Settings → Type 0
LegalAny kind.TheVariants.Own s = LegalOwn s
LegalAny kind.TheVariants.Fixed s = LegalFixed s
LegalAny kind.TheVariants.Float s = LegalFloat s

abbrev pub IsAny : kind.Kind → Settings → AnyKind → Type 0
IsAny kind.TheVariants.Own s (Own o) = ⊤
IsAny kind.TheVariants.Fixed s (Fixed f) = IsFixed s f
IsAny kind.TheVariants.Float s (Float f) = IsFloat s f
IsAny _ _ _ = ⊥

abbrev pub MakesAny : kind.Kind → Settings → ℕ → Result AnyKind Fault → Type 0
MakesAny k s = Makes (LegalAny k s) (IsAny k s)
