-- The finish rule: the ready time A and the finish bound F of a firing. A derivation of `Finish … v i t` says that F(v, i) exists and is t.
use Rattle.std.specs.Prelude.{◌≡◌, ℕ, ◌+◌, ◌-◌, ◌*◌, ◌<◌, ◌≤◌, true, ◌⊎◌}
use Rattle.servers.specs.Service.{Service}
use Rattle.flow.specs.Nets.{Net, Arrivals}

-- What m firings of a task in a row take at most, by task and m.
abbrev pub Cost : Type 0
Cost = ℕ → ℕ → ℕ

-- Z(m × time)
abbrev pub by_worst : Net → (ℕ → Service) → Cost
by_worst n service v m = (service v).worst (m * n.time v)

-- L + m × r(time)
abbrev pub by_lead_and_pace : Net → (ℕ → Service) → Cost
by_lead_and_pace n service v m = (service v).lead + m * (service v).pace (n.time v)

-- Edge e feeds firing k of task v: the token that the firing takes from e was not there at the start, so firing k - tokens of the edge's task adds it.
pub record Feeds (n : Net) (v k e : ℕ) : Type 0 where
  pub edge : e < n.edges
  pub into : n.to e ≡ v
  pub past : n.tokens e ≤ k

-- a is the largest of 0, arrival k at v's inlet if it has one, and f e for each edge e that feeds firing k of v.
pub record ReadyLargest (n : Net) (α : Arrivals) (v k a : ℕ) (f : ℕ → ℕ) : Type 0 where
  pub arrived : n.inlet v ≡ true → (k < α.count v) × (α.stamp v k ≤ a)
  pub fed : (e : ℕ) → Feeds n v k e → f e ≤ a
  pub met : (a ≡ 0) ⊎ ((n.inlet v ≡ true) × (a ≡ α.stamp v k)) ⊎ ((e : ℕ) × Feeds n v k e × (a ≡ f e))

-- t is the largest, over k from 0 to i, of a k and what firings k to i take.
pub record FinishLargest (cost : Cost) (v i t : ℕ) (a : ℕ → ℕ) : Type 0 where
  pub covers : (k : ℕ) → k ≤ i → a k + cost v (i - k + 1) ≤ t
  pub met : (k : ℕ) × (k ≤ i) × (t ≡ a k + cost v (i - k + 1))

-- F(v, i) is t: a k are the ready times of firings 0 to i, and f k e the finish bounds of the firings that feed them.
pub data Finish (n : Net) (α : Arrivals) (cost : Cost) : ℕ → ℕ → ℕ → Type 0 where
  finish :
      {v i t : ℕ} (a : ℕ → ℕ) (f : ℕ → ℕ → ℕ) →
      ((k : ℕ) → k ≤ i → (e : ℕ) → Feeds n v k e → Finish n α cost (n.from e) (k - n.tokens e) (f k e)) →
      ((k : ℕ) → k ≤ i → ReadyLargest n α v k (a k) (f k)) →
      FinishLargest cost v i t a →
      Finish n α cost v i t

-- A(v, k) is a.
pub record Ready (n : Net) (α : Arrivals) (cost : Cost) (v k a : ℕ) : Type 0 where
  pub f : ℕ → ℕ
  pub feeds : (e : ℕ) → Feeds n v k e → Finish n α cost (n.from e) (k - n.tokens e) (f e)
  pub largest : ReadyLargest n α v k a f

-- Firing i of v needs arrival m at u's inlet: its own inlet's arrivals 0 to i, and what the firings need that feed it.
pub data Needs (n : Net) : ℕ → ℕ → ℕ → ℕ → Type 0 where
  own : (v i k : ℕ) → n.inlet v ≡ true → k ≤ i → Needs n v i v k
  fed : (v i k e u m : ℕ) → k ≤ i → Feeds n v k e → Needs n (n.from e) (k - n.tokens e) u m → Needs n v i u m
