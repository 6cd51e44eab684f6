-- Two racks side by side.
use Rattle.std.specs.Prelude.{◌≡◌, ℕ, ◌+◌, ◌-◌, ◌^◌, ◌<◌, ◌≤◌, min, Bool, cond, ◌⊎◌, Option, Some, None, nat_lt}
use Rattle.servers.specs.Service.{Service}

-- The places of both, as many as a usize counts.
abbrev pub places_beside : ℕ → ℕ → ℕ
places_beside m n = min (m + n) (2 ^ 64 - 1)

-- The services of the first rack's n places, and then those of the second's.
abbrev pub beside : ℕ → (ℕ → Service) → (ℕ → Service) → ℕ → Service
beside n s t k = cond (nat_lt k n) (s k) (t (k - n))

-- A tick is one of either rack, at its place there, and leaves the other rack as it was.
abbrev pub Sided : {A B : Type 0} → (A → ℕ → Bool → Bool → A → Type 0) → (B → ℕ → Bool → Bool → B → Type 0) → ℕ → A → B → ℕ → Bool → Bool → A → B → Type 0
Sided first second n a b k c g a' b' = ((k < n) × first a k c g a' × (b' ≡ b)) ⊎ ((n ≤ k) × second b (k - n) c g b' × (a' ≡ a))

-- Place k of both is a place of the first rack, which has n places, or place j of the second.
abbrev pub OnSide : ℕ → ℕ → Option ℕ → Type 0
OnSide n k None = k < n
OnSide n k (Some j) = (n ≤ k) × (j ≡ k - n) × (k < 2 ^ 64 - 1)
