-- A server with or without an inner layer: what it offers, its ticks, and how it is made.
use Rattle.std.specs.Prelude.{◌≡◌, ℕ, Bool, ◌⊎◌, Result}
use Rattle.faults.specs.declared.fault.Fault.{Fault}
use Rattle.servers.specs.Service.{Service}
use Rattle.layers.specs.InnerService.{inner_service, InnerSteps}
use Rattle.servers.specs.Settings.{Makes, LegalFixed, IsFixed}
use Rattle.servers.specs.declared.settings.Settings.{Settings}
use Rattle.layers.specs.declared.stack.Stack.{Stack}
use Rattle.layers.specs.declared.stack.Stack.TheVariants.{Bare, Layered}

abbrev pub stack_service : {S : Type 0} → (S → Service) → Stack S → Service
stack_service service (Bare s) = service s
stack_service service (Layered s) = inner_service service s

-- A tick is one of what stands there, and leaves the layer in its place.
abbrev pub StackSteps : {S : Type 0} → (S → Bool → Bool → S → Type 0) → Stack S → Bool → Bool → Stack S → Type 0
StackSteps steps (Bare a) c g (Bare b) = steps a c g b
StackSteps steps (Layered a) c g (Layered b) = InnerSteps steps a c g b
StackSteps _ _ _ _ _ = ⊥

-- 0 0 0
abbrev pub NoLayer : Settings → Type 0
NoLayer s = (s.period ≡ 0) × (s.slice ≡ 0) × (s.phase ≡ 0)

abbrev pub IsStack : {S : Type 0} → S → Settings → Stack S → Type 0
IsStack below s (Bare b) = NoLayer s × (b ≡ below)
IsStack below s (Layered i) = LegalFixed s × (i.below ≡ below) × IsFixed s i.slice

abbrev pub MakesStack : {S : Type 0} → S → Settings → ℕ → Result (Stack S) Fault → Type 0
MakesStack below s = Makes (NoLayer s ⊎ LegalFixed s) (IsStack below s)
