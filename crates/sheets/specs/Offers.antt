-- The server that a task's settings make, and the service that it offers.
use Rattle.std.specs.Prelude.{Bool, cond, ◌&&◌, List, [], ◌∷◌, ◌==◌}
use Rattle.servers.specs.Service.{Service}
use Rattle.servers.specs.FixedService.{slice_service}
use Rattle.servers.specs.FloatService.{float_at}
use Rattle.servers.specs.declared.settings.Settings.{Settings}
use Rattle.kinds.specs.declared.kind.Kind.{Kind}
use Rattle.kinds.specs.declared.kind.Kind.TheVariants.{Own, Fixed, Float}
use Rattle.kinds.specs.declared.any_kind.AnyKind.{AnyKind}
use Rattle.kinds.specs.AnyKinds.{IsAny}
use Rattle.layers.specs.InnerService.{within}
use Rattle.layers.specs.Stacks.{IsStack}
use Rattle.layers.specs.declared.stack.Stack.{Stack}
use Rattle.sheets.specs.Pages.{Entry}

-- What a server of a kind and settings offers before its first tick (docs/servers.md has the formulas).
abbrev pub kind_service : Kind → Settings → Service
kind_service Own s = record { wait = λ n. n; worst = λ n. n; lead = 0; pace = λ n. n }
kind_service Fixed s = slice_service s.period s.slice s.phase
kind_service Float s = float_at s.period s.slice 0 0

-- 0 0 0
abbrev pub no_layer : Settings → Bool
no_layer s = s.period == 0 && (s.slice == 0 && s.phase == 0)

-- What a task's server offers before its first tick.
abbrev pub offered : Entry → Service
offered e = cond (no_layer e.layer) (kind_service e.kind e.slice) (within (kind_service e.kind e.slice) (slice_service e.layer.period e.layer.slice e.layer.phase))

-- The server is the one that the task's kind and settings make.
abbrev pub Made : Entry → Stack AnyKind → Type 0
Made e s = (b : AnyKind) × IsAny e.kind e.slice b × IsStack b e.layer s

-- The same of as many servers as tasks, in their order.
abbrev pub AllMade : List Entry → List (Stack AnyKind) → Type 0
AllMade [] [] = Unit {0}
AllMade [] (s ∷ ss) = ⊥
AllMade (e ∷ es) [] = ⊥
AllMade (e ∷ es) (s ∷ ss) = Made e s × AllMade es ss
