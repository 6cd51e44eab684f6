-- The slots of a ring, as the caller lent them and in the order of their age, and the items that they hold.
use Rattle.std.specs.Prelude.{◌≡◌, ℕ, ◌-◌, ◌≤◌, List, ◌++◌, length, take, drop, Option}
use Rattle.std.specs.List.{filter_map}

-- A ring of slots: the slots where they lie, and the place of the oldest item.
pub record Ring (T : Type 0) : Type 0 where
  pub slots : List (Option T)
  pub head : ℕ

module _ {T : Type 0} where
  -- the slots from place h on, round to the one before it
  abbrev pub turned : List (Option T) → ℕ → List (Option T)
  turned s h = drop h s ++ take h s

  -- the items of the slots that hold one, in order
  abbrev pub held : List (Option T) → List T
  held s = filter_map (λ o. o) s

  -- From place h on the first n slots hold an item each, and no other slot does.
  abbrev pub Sound : List (Option T) → ℕ → ℕ → Type 0
  Sound s h n =
      (h ≤ length s - 1)
      × (n ≤ length s)
      × (length (held (take n (turned s h))) ≡ n)
      × (length (held (turned s h)) ≡ n)
