-- A finish table that is filled in part: what its entries stand for, and what a step adds.
use Rattle.std.specs.Prelude.{◌≡◌, ℕ, suc, ◌+◌, ◌-◌, ◌*◌, ◌<◌, ◌≤◌, min, Bool, true, false, cond, ◌⊎◌, ◌==◌, nat_lt, List, length, slice_index}
use Rattle.servers.specs.Figures.{ceiling}
use Rattle.graph.specs.declared.graph.Graph.{Graph}
use Rattle.flow.specs.Nets.{Net, Arrivals}
use Rattle.flow.specs.Finish.{Cost, Feeds, Ready, Finish}
use Rattle.finish.specs.Table.{inlets, Low, AllTold, SomeAbove}
pub use Rattle.finish.specs.Table.{entry}

-- What is kept of every figure above the ceiling: one more than the ceiling.
abbrev pub kept_above : ℕ
kept_above = 1000000000001

-- A figure as it is kept.
abbrev pub capped : ℕ → ℕ
capped x = min x kept_above

-- No entry is past what is kept.
pub record Kept (xs : List ℕ) : Type 0 where
  pub at : (k : ℕ) → slice_index xs k ≤ kept_above

-- x is the largest of b and f e over those e below m that P picks.
pub record IsLargest (P : ℕ → Type 0) (f : ℕ → ℕ) (b m x : ℕ) : Type 0 where
  pub base : b ≤ x
  pub upper : (e : ℕ) → e < m → P e → f e ≤ x
  pub met : (x ≡ b) ⊎ ((e : ℕ) × (e < m) × P e × (x ≡ f e))

-- A(v, k) exists, and x is what is kept of it; the same of F(v, i).
pub record ReadyTold (net : Net) (α : Arrivals) (cost : Cost) (v k x : ℕ) : Type 0 where
  pub a : ℕ
  pub is : Ready net α cost v k a
  pub told : x ≡ capped a

pub record FinishTold (net : Net) (α : Arrivals) (cost : Cost) (v i x : ℕ) : Type 0 where
  pub t : ℕ
  pub is : Finish net α cost v i t
  pub told : x ≡ capped t

-- What 1 to n firings of each task cost.
pub record WaitsTold (net : Net) (cost : Cost) (n : ℕ) (worst : List ℕ) : Type 0 where
  pub at : (u j : ℕ) → u < net.tasks → j < n → entry worst n u j ≡ capped (cost u (j + 1))

-- The first `done u` firings of each task u have their entries, and these are right.
pub record Partly (net : Net) (α : Arrivals) (cost : Cost) (n : ℕ) (done : ℕ → ℕ) (ready table : List ℕ) : Type 0 where
  pub room : (u : ℕ) → u < net.tasks → done u ≤ n
  pub readies : (u j : ℕ) → u < net.tasks → j < done u → ReadyTold net α cost u j (entry ready n u j)
  pub bounds : (u j : ℕ) → u < net.tasks → j < done u → FinishTold net α cost u j (entry table n u j)

-- What is kept of the arrival that firing i of v takes, or 0 where it has no inlet.
pub record Came (net : Net) (α : Arrivals) (v i arrival : ℕ) : Type 0 where
  pub inlet : net.inlet v ≡ true → (i < α.count v) × (arrival ≡ capped (α.stamp v i))
  pub none : net.inlet v ≡ false → arrival ≡ 0

-- The firings that feed firing i of v have their entries.
pub record Fed (net : Net) (done : ℕ → ℕ) (v i : ℕ) : Type 0 where
  pub by : (e : ℕ) → Feeds net v i e → i - net.tokens e < done (net.from e)

-- one firing more at v
abbrev pub more : (ℕ → ℕ) → ℕ → ℕ → ℕ
more done v u = cond (u == v) (suc (done v)) (done u)

-- There is room for n entries to a task, and none is past what is kept.
pub record Shaped (net : Net) (n : ℕ) (worst ready table : List ℕ) : Type 0 where
  pub short : n ≤ 256
  pub few : net.tasks ≤ 16
  pub wide_worst : net.tasks * n ≤ length worst
  pub wide_ready : net.tasks * n ≤ length ready
  pub wide_table : net.tasks * n ≤ length table
  pub kept_worst : Kept worst
  pub kept_ready : Kept ready
  pub kept_table : Kept table

-- What a step does: one entry of each table is written, and then firing i of v has its entries too.
pub record Stepped (net : Net) (n v i arrival : ℕ) (worst ready table ready' table' : List ℕ) : Type 0 where
  pub right :
      (α : Arrivals) (cost : Cost) (done : ℕ → ℕ) → WaitsTold net cost n worst → Partly net α cost n done ready table →
      done v ≡ i → Came net α v i arrival → Fed net done v i → Partly net α cost n (more done v) ready' table'
  pub shaped : Shaped net n worst ready' table'

-- The first `done u` firings of each task have their entries, these are right, and no bound is above the ceiling.
pub record Good (net : Net) (α : Arrivals) (cost : Cost) (n : ℕ) (done : ℕ → ℕ) (ready table : List ℕ) : Type 0 where
  pub partly : Partly net α cost n done ready table
  pub within : (u j : ℕ) → u < net.tasks → j < done u → entry table n u j ≤ ceiling

-- A row of times for each inlet, none above the ceiling.
pub record Timed (g : Graph) (n : ℕ) (times : List ℕ) : Type 0 where
  pub rows : length times ≡ inlets g * n
  pub low : Low times

-- The tables as they were, with their first `done` firings, lead to those as they are, with their first `done'`.
pub record Advances (net : Net) (α : Arrivals) (n : ℕ) (worst : List ℕ) (done : ℕ → ℕ) (ready table : List ℕ) (done' : ℕ → ℕ) (ready' table' : List ℕ) : Type 0 where
  pub shaped : Shaped net n worst ready' table'
  pub good : (cost : Cost) → WaitsTold net cost n worst → Good net α cost n done ready table → Good net α cost n done' ready' table'

-- Firing i of the first p tasks in the order is done too.
abbrev pub done_at : List ℕ → ℕ → ℕ → ℕ → ℕ
done_at place i p u = cond (nat_lt (slice_index place u) p) (i + 1) i

-- A run of steps: all went well, or some bound is above the ceiling.
pub record Went (net : Net) (α : Arrivals) (n : ℕ) (worst : List ℕ) (done : ℕ → ℕ) (ready table : List ℕ) (done' : ℕ → ℕ) (ready' table' : List ℕ) (r : Bool) : Type 0 where
  pub shaped : Shaped net n worst ready' table'
  pub well : r ≡ true → Advances net α n worst done ready table done' ready' table'
  pub over : r ≡ false → (cost : Cost) → WaitsTold net cost n worst → Good net α cost n done ready table → SomeAbove net α cost n

-- The first `done u` waits of each task u are told.
pub record Waiting (net : Net) (cost : Cost) (n : ℕ) (done : ℕ → ℕ) (worst : List ℕ) : Type 0 where
  pub room : (u : ℕ) → u < net.tasks → done u ≤ n
  pub at : (u j : ℕ) → u < net.tasks → j < done u → entry worst n u j ≡ capped (cost u (j + 1))
  pub kept : Kept worst

-- all n of the tasks before v, and j of v's
abbrev pub done_in : ℕ → ℕ → ℕ → ℕ → ℕ
done_in n v j u = cond (nat_lt u v) n (cond (u == v) j 0)

-- What the filling says.
pub record Filled (net : Net) (α : Arrivals) (cost : Cost) (n : ℕ) (table' : List ℕ) (well : Bool) : Type 0 where
  pub wide : length table' ≡ net.tasks * n
  pub told : well ≡ true → AllTold net α cost n table'
  pub over : well ≡ false → SomeAbove net α cost n
