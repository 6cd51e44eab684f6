-- What a belt holds, oldest first, and what its calls do.
-- A belt is seen as the ring of its slots; its contents are told from the oldest item's slot on, round to the one before it.
use Rattle.std.specs.Prelude.{◌≡◌, ℕ, ◌<◌, List, [], ◌∷◌, ◌++◌, length, Some, None, Ok, Err, Option, Result}
use Rattle.faults.specs.Faults.{fault}
use Rattle.faults.specs.declared.layer.Layer.TheVariants as layer
use Rattle.belt.specs.Turned.{Ring, turned, held}
use Rattle.belt.specs.declared.returned.Returned.{Returned}

module _ {T : Type 0} where
  abbrev pub contents : Ring T → List T
  contents b = held (turned b.slots b.head)

  -- How many slots the caller lent.
  abbrev pub room : Ring T → ℕ
  room b = length b.slots

  -- A put: at the end where a slot is free; else it is refused by 17, the item comes back, and the ring stays as it is, each slot where it lies.
  abbrev pub Put : Ring T → T → Result Unit (Returned T) → Ring T → Type 0
  Put b x (Ok _) c = (length (contents b) < room b) × (contents c ≡ contents b ++ x ∷ []) × (room c ≡ room b)
  Put b x (Err y) c = (length (contents b) ≡ room b) × (y.fault ≡ fault 17 layer.Belt 0 0) × (y.item ≡ x) × (c ≡ b)

  -- A take: the oldest item, or none where there is none, and then the ring stays as it is.
  abbrev pub Took : Ring T → Option T → Ring T → Type 0
  Took b None c = (contents b ≡ []) × (c ≡ b)
  Took b (Some x) c = (contents b ≡ x ∷ contents c) × (room c ≡ room b)
