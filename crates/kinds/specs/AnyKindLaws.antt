-- A server of any kind keeps the laws.
use Rattle.std.specs.Prelude.{Bool}
use Rattle.servers.specs.Service.{Laws, Ticks}
use Rattle.servers.specs.OwnLaws.{own_laws, own_moves}
use Rattle.servers.specs.SliceLaws.{fixed_laws, fixed_moves}
use Rattle.servers.specs.FloatLaws.{float_laws, float_moves}
use Rattle.kinds.specs.AnyKinds.{any_service, AnySteps}
use Rattle.kinds.specs.declared.any_kind.AnyKind.{AnyKind}
use Rattle.kinds.specs.declared.any_kind.AnyKind.TheVariants.{Own, Fixed, Float}

pub any_laws : (s : AnyKind) → Laws (any_service s)
any_laws (Own s) = own_laws s
any_laws (Fixed s) = fixed_laws s
any_laws (Float s) = float_laws s

pub any_moves : (a t : AnyKind) (c g : Bool) → AnySteps a c g t → Ticks (any_service a) g (any_service t)
any_moves (Own a) (Own b) c g m = own_moves a b c g m
any_moves (Fixed a) (Fixed b) c g m = fixed_moves a b c g m
any_moves (Float a) (Float b) c g m = float_moves a b c g m
any_moves _ _ c g m = absurd m
