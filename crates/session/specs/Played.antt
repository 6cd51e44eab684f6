-- What is printed of lines of calls, one after another.
use Rattle.std.specs.Prelude.{◌≡◌, ℕ, ◌+◌, Bool, List, [], ◌∷◌, ◌++◌}
use Rattle.faults.specs.Faults.{fault_line}
use Rattle.faults.specs.declared.fault.Fault as fault
use Rattle.servers.specs.Service.{Service}
use Rattle.lexer.specs.Text.{end}
use Rattle.calls.specs.declared.call_line.CallLine.{CallLine}
use Rattle.ahead.specs.declared.given.Given.{Given}
use Rattle.ahead.specs.declared.given.Given.TheVariants.{Call, Fault}
use Rattle.player.specs.Openings.{Takes}
use Rattle.player.specs.Players.{Steps}
use Rattle.player.specs.declared.player.Player.{Player}

module _ {R : Type 0} (places : R → ℕ) (service : R → ℕ → Service) (steps : R → ℕ → Bool → Bool → R → Type 0) (first : Player R) where
  -- From the player `first`, what these lines gave is played so far, with these bytes printed and so many calls made, and the player is this one. A line is taken where none is under way, and its calls are made one by one; of a refused line its refusal is printed.
  pub data Played : List Given → List ℕ → ℕ → Player R → Type 0 where
    nothing : Played [] [] 0 first
    taken :
        {gs : List Given} {bytes more : List ℕ} {made : ℕ} {p q : Player R} → Played gs bytes made p → p.work.left ≡ 0 → (line : CallLine) → Takes p line more q →
        Played (gs ++ Call line ∷ []) (bytes ++ more) made q
    stepped : {gs : List Given} {bytes more : List ℕ} {made : ℕ} {p q : Player R} → Played gs bytes made p → Steps places service steps p more q → Played gs (bytes ++ more) (made + 1) q
    refused :
        {gs : List Given} {bytes : List ℕ} {made : ℕ} {p : Player R} → Played gs bytes made p → p.work.left ≡ 0 → (f : fault.Fault) → Played (gs ++ Fault f ∷ []) (bytes ++ (fault_line f ++ end)) made p
