-- The finish table: what the call answers, and what the table then holds.
use Rattle.std.specs.Prelude.{◌≡◌, ℕ, ◌+◌, ◌-◌, ◌*◌, ◌<◌, ◌≤◌, Bool, List, length, take, replicate, count_by, slice_index, vec_items, vec_len, Ok, Err, Result}
use Rattle.faults.specs.Faults.{fault}
use Rattle.faults.specs.declared.fault.Fault.{Fault}
use Rattle.faults.specs.declared.layer.Layer.TheVariants as layer
use Rattle.servers.specs.Service.{Service}
use Rattle.servers.specs.Figures.{ceiling}
use Rattle.graph.specs.declared.parts.Task.{Task}
use Rattle.graph.specs.declared.graph.Graph.{Graph}
use Rattle.graph.specs.Racked.{Racked, RefusesRack}
use Rattle.flow.specs.Nets.{Net, Arrivals, net_of}
use Rattle.flow.specs.Finish.{Cost, Finish, by_worst}

abbrev pub has_inlet : Task → Bool
has_inlet t = t.inlet

-- how many inlets there are, and how many before task v
abbrev pub inlets : Graph → ℕ
inlets g = count_by has_inlet (vec_items g.tasks)

abbrev pub inlets_before : Graph → ℕ → ℕ
inlets_before g v = count_by has_inlet (take v (vec_items g.tasks))

-- The entry of firing j in row u, in a list of rows of n.
abbrev pub entry : List ℕ → ℕ → ℕ → ℕ → ℕ
entry xs n u j = slice_index xs (u * n + j)

-- n arrivals at each inlet: a row of times for each, in task order.
abbrev pub arrivals : Graph → ℕ → List ℕ → Arrivals
arrivals g n times = record { count = λ v. n; stamp = λ v k. entry times n (inlets_before g v) k }

-- 1 to 256 firings, so many times for each inlet, so many entries for each task.
pub record Sized (g : Graph) (n : ℕ) (times table : List ℕ) : Type 0 where
  pub some : 1 ≤ n
  pub short : n ≤ 256
  pub timed : length times ≡ inlets g * n
  pub wide : length table ≡ vec_len g.tasks * n

-- No time is above the ceiling.
abbrev pub Low : List ℕ → Type 0
Low times = (k : ℕ) → k < length times → slice_index times k ≤ ceiling

-- None of the first m times of row r is below the one before it.
abbrev pub Rises : List ℕ → ℕ → ℕ → ℕ → Type 0
Rises times n r m = (k : ℕ) → 1 ≤ k → k < m → entry times n r (k - 1) ≤ entry times n r k

-- No time is above the ceiling, and those of no inlet fall.
pub record Ordered (g : Graph) (n : ℕ) (times : List ℕ) : Type 0 where
  pub low : Low times
  pub rises : (r : ℕ) → r < inlets g → Rises times n r n

-- Every entry is its bound, and none is above the ceiling.
pub record AllTold (net : Net) (α : Arrivals) (cost : Cost) (n : ℕ) (table : List ℕ) : Type 0 where
  pub bounds : (v i : ℕ) → v < net.tasks → i < n → Finish net α cost v i (entry table n v i)
  pub within : (v i : ℕ) → v < net.tasks → i < n → entry table n v i ≤ ceiling

-- Some bound of the table is above the ceiling.
pub record SomeAbove (net : Net) (α : Arrivals) (cost : Cost) (n : ℕ) : Type 0 where
  pub v : ℕ
  pub i : ℕ
  pub t : ℕ
  pub task : v < net.tasks
  pub firing : i < n
  pub is : Finish net α cost v i t
  pub over : ceiling < t

-- The answer r, and the table before the call and after it: the first check that fails refuses, and leaves the table as it was,
-- but for a bound above the ceiling, which leaves zeros; where none fails, every entry is its bound.
pub data Tabled (g : Graph) (places : ℕ) (service : ℕ → Service) (n : ℕ) (times before : List ℕ) (r : Result (Unit {0}) Fault) (after : List ℕ) : Type 0 where
  rack : (e : Fault) → r ≡ Err e → RefusesRack g places service e → after ≡ before → Tabled g places service n times before r after
  size : r ≡ Err (fault 18 layer.Table 0 0) → Racked g places service → (Sized g n times before → ⊥) → after ≡ before → Tabled g places service n times before r after
  order : r ≡ Err (fault 19 layer.Table 0 0) → Racked g places service → Sized g n times before → (Ordered g n times → ⊥) → after ≡ before → Tabled g places service n times before r after
  above :
      r ≡ Err (fault 12 layer.Table 0 0) → Racked g places service → Sized g n times before → Ordered g n times →
      SomeAbove (net_of g) (arrivals g n times) (by_worst (net_of g) service) n → after ≡ replicate (length before) 0 → Tabled g places service n times before r after
  told :
      r ≡ Ok tt → Racked g places service → Sized g n times before → Ordered g n times →
      AllTold (net_of g) (arrivals g n times) (by_worst (net_of g) service) n after → length after ≡ length before → Tabled g places service n times before r after
