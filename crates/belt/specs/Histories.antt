-- Whole histories of a belt: every list of puts and takes.
use Rattle.std.specs.Prelude.{◌≡◌, List, [], ◌∷◌, ◌++◌, Some, None, Ok, Err, Option, Result}
use Rattle.belt.specs.Turned.{Ring}
use Rattle.belt.specs.Belts.{contents, room, Put, Took}
use Rattle.belt.specs.declared.returned.Returned.{Returned}

-- A call and its answer.
pub data Call (T : Type 0) : Type 0 where
  put : T → Result Unit (Returned T) → Call T
  take : Option T → Call T

module _ {T : Type 0} where
  -- What one call does to a belt.
  abbrev pub Calls : Ring T → Call T → Ring T → Type 0
  Calls b (put x r) c = Put b x r c
  Calls b (take r) c = Took b r c

  -- Some calls, one after another, from belt b to belt d.
  abbrev pub History : Ring T → List (Call T) → Ring T → Type 0
  History b [] d = d ≡ b
  History b (k ∷ ks) d = (c : Ring T) × Calls b k c × History c ks d

  -- The items that were accepted, in order.
  abbrev pub accepted : List (Call T) → List T
  accepted [] = []
  accepted (put x (Ok _) ∷ ks) = x ∷ accepted ks
  accepted (put x (Err _) ∷ ks) = accepted ks
  accepted (take r ∷ ks) = accepted ks

  -- The items that were handed out, in order.
  abbrev pub handed_out : List (Call T) → List T
  handed_out [] = []
  handed_out (put x r ∷ ks) = handed_out ks
  handed_out (take (Some x) ∷ ks) = x ∷ handed_out ks
  handed_out (take None ∷ ks) = handed_out ks

  -- After every history from belt b: what was handed out is a front of what was accepted, and what is inside is the rest; the slots are as many as they were.
  abbrev pub InOrder : Ring T → Type 0
  InOrder b = (ks : List (Call T)) (d : Ring T) → History b ks d → (accepted ks ≡ handed_out ks ++ contents d) × (room d ≡ room b)
