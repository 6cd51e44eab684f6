-- A server with or without a layer keeps the laws, whatever server it is.
use Rattle.std.proofs.Common.{Bool}
use Rattle.servers.specs.Service.{Service, Laws, Ticks}
use Rattle.layers.specs.WithinLaws.{inner_laws, inner_moves}
use Rattle.layers.specs.Stacks.{stack_service, StackSteps}
use Rattle.layers.specs.declared.stack.Stack.{Stack}
use Rattle.layers.specs.declared.stack.Stack.TheVariants.{Bare, Layered}

module _ {S : Type 0} {service : S → Service} (keeps : (s : S) → Laws (service s)) where
  pub stack_laws : (s : Stack S) → Laws (stack_service service s)
  stack_laws (Bare s) = keeps s
  stack_laws (Layered s) = inner_laws keeps s

  pub stack_moves :
      {steps : S → Bool → Bool → S → Type 0} → ((a b : S) (c g : Bool) → steps a c g b → Ticks (service a) g (service b)) →
      (a b : Stack S) (c g : Bool) → StackSteps steps a c g b → Ticks (stack_service service a) g (stack_service service b)
  stack_moves moves (Bare a) (Bare b) c g x = moves a b c g x
  stack_moves moves (Layered a) (Layered b) c g x = inner_moves keeps moves a b c g x
  stack_moves _ _ _ c g x = absurd x
