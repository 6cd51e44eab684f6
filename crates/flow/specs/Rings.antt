-- Rings of a net, its cycle over parts, and the start figures.
use Rattle.std.specs.Prelude.{◌≡◌, ℕ, ◌+◌, ◌*◌, ◌<◌, ◌≤◌, List, [], ◌∷◌, map, length, ◌≢◌, slice_index}
use Rattle.servers.specs.Service.{Service}
use Rattle.flow.specs.Nets.{Net}

-- An edge, or a task's link to itself.
pub data Hop : Type 0 where
  edge : ℕ → Hop
  link : ℕ → Hop

-- It is one of the net's.
abbrev pub IsIn : Net → Hop → Type 0
IsIn n (edge e) = e < n.edges
IsIn n (link v) = v < n.tasks

-- The task that it comes from,
abbrev pub out_of : Net → Hop → ℕ
out_of n (edge e) = n.from e
out_of n (link v) = v

-- and the task that it goes to.
abbrev pub into : Net → Hop → ℕ
into n (edge e) = n.to e
into n (link v) = v

-- r(time) of v,
abbrev pub pace_of : Net → (ℕ → Service) → ℕ → ℕ
pace_of n service v = (service v).pace (n.time v)

-- and L + r(time).
abbrev pub lead_and_pace_of : Net → (ℕ → Service) → ℕ → ℕ
lead_and_pace_of n service v = (service v).lead + pace_of n service v

-- An edge into v weighs L + r(time) of v, and has its tokens; a link of v weighs r(time), and has one token.
abbrev pub weight : Net → (ℕ → Service) → List Hop → ℕ
weight n service [] = 0
weight n service (edge e ∷ hops) = lead_and_pace_of n service (n.to e) + weight n service hops
weight n service (link v ∷ hops) = pace_of n service v + weight n service hops

-- The tokens of all of them together.
abbrev pub tokens_on : Net → List Hop → ℕ
tokens_on n [] = 0
tokens_on n (edge e ∷ hops) = n.tokens e + tokens_on n hops
tokens_on n (link v ∷ hops) = 1 + tokens_on n hops

-- A chain of hops from a task to a task.
pub data Chain (n : Net) : ℕ → List Hop → ℕ → Type 0 where
  end : (h : Hop) → IsIn n h → Chain n (out_of n h) (h ∷ []) (into n h)
  on : {hops : List Hop} {v : ℕ} (h : Hop) → IsIn n h → Chain n (into n h) hops v → Chain n (out_of n h) (h ∷ hops) v

-- A closed chain that meets no task twice.
pub record Ring (n : Net) (hops : List Hop) : Type 0 where
  pub at : ℕ
  pub closed : Chain n at hops at
  pub once : (i j : ℕ) → i < j → j < length hops → slice_index (map (into n) hops) i ≢ slice_index (map (into n) hops) j

-- No ring has more ticks per token than cycle over parts.
abbrev pub NoneAbove : Net → (ℕ → Service) → ℕ → ℕ → Type 0
NoneAbove n service cycle parts = (hops : List Hop) → Ring n hops → parts * weight n service hops ≤ cycle * tokens_on n hops

-- Cycle over parts is the largest weight over tokens of a ring, with no common divisor left.
pub record Cycle (n : Net) (service : ℕ → Service) (cycle parts : ℕ) : Type 0 where
  pub some : 1 ≤ parts
  pub largest : NoneAbove n service cycle parts
  pub met : (hops : List Hop) × Ring n hops × (parts * weight n service hops ≡ cycle * tokens_on n hops)
  pub lowest : (d m k : ℕ) → cycle ≡ d * m → parts ≡ d * k → d ≡ 1

-- The inequalities that start figures meet.
pub record Enough (n : Net) (service : ℕ → Service) (cycle parts : ℕ) (start : ℕ → ℕ) : Type 0 where
  pub own : (v : ℕ) → v < n.tasks → parts * lead_and_pace_of n service v ≤ start v
  pub edges : (e : ℕ) → e < n.edges → start (n.from e) + parts * lead_and_pace_of n service (n.to e) ≤ start (n.to e) + cycle * n.tokens e

-- The start figures: the least whole numbers that meet them.
pub record Starts (n : Net) (service : ℕ → Service) (cycle parts : ℕ) (start : ℕ → ℕ) : Type 0 where
  pub enough : Enough n service cycle parts start
  pub least : (other : ℕ → ℕ) → Enough n service cycle parts other → (v : ℕ) → v < n.tasks → start v ≤ other v
