-- The ledger: what it knows of the arrivals and the firings so far, and what it tells of a firing's bound.
use Rattle.std.specs.Prelude.{◌≡◌, ℕ, ◌<◌, ◌≤◌, min, true, cond, nat_le, slice_index, Result, MatchResult}
use Rattle.faults.specs.declared.fault.Fault.{Fault}
use Rattle.servers.specs.Service.{Service}
use Rattle.servers.specs.Figures.{ceiling}
use Rattle.graph.specs.declared.graph.Graph.{Graph}
use Rattle.graph.specs.Racked.{Racked, RefusesRack}
use Rattle.flow.specs.Nets.{Net, Arrivals, net_of}
use Rattle.flow.specs.Finish.{Cost, Finish, by_worst}
use Rattle.runs.specs.States.{no_arrivals, one_more}
use Rattle.finish.specs.Filling.{entry, capped, WaitsTold, Partly, Fed, more}
use Rattle.finish.specs.declared.ledger.Ledger.{Ledger}

-- How many it keeps of so many arrivals or firings: the first 256.
abbrev pub first : ℕ → ℕ
first m = min m 256

-- The ledger knows these arrivals, and that so many firings of each task ended. What it keeps of waits, arrivals, ready times and bounds is right.
pub record Knows (n : Net) (cost : Cost) (α : Arrivals) (fired : ℕ → ℕ) (l : Ledger) : Type 0 where
  pub few : n.tasks ≤ 16
  pub waits : WaitsTold n cost 256 l.worst
  pub arrivals : (v k : ℕ) → v < n.tasks → k < first (α.count v) → entry l.arrivals 256 v k ≡ capped (α.stamp v k)
  pub arrived : (v : ℕ) → v < n.tasks → slice_index l.arrived v ≡ first (α.count v)
  pub ended : (v : ℕ) → v < n.tasks → slice_index l.fired v ≡ first (fired v)
  pub bounds : Partly n α cost 256 (λ v. first (fired v)) l.ready l.bounds

-- A new ledger knows nothing but what firings cost by their worst waits; a rack that does not fit the graph is refused.
abbrev pub Opens : Graph → ℕ → (ℕ → Service) → Result Ledger Fault → Type 0
Opens g places service r = MatchResult r (λ l. Racked g places service × Knows (net_of g) (by_worst (net_of g) service) no_arrivals (λ _. 0) l) (RefusesRack g places service)

-- After an arrival at the task it knows one more.
abbrev pub Admits : Ledger → ℕ → ℕ → Ledger → Type 0
Admits l task clock l' =
    (n : Net) (cost : Cost) (α : Arrivals) (fired : ℕ → ℕ) → Knows n cost α fired l → Knows n cost (one_more α clock task) fired l'

-- The next firing of v may end: the firings that feed it ended, and its arrival came.
pub record Due (n : Net) (α : Arrivals) (fired : ℕ → ℕ) (v : ℕ) : Type 0 where
  pub fed : Fed n fired v (fired v)
  pub came : n.inlet v ≡ true → fired v < α.count v

-- What is told of the bound of firing i of v: the bound, or 0 where it is above the ceiling, and from firing 256 on.
pub record TellsBound (n : Net) (cost : Cost) (α : Arrivals) (v i x : ℕ) : Type 0 where
  pub early : i < 256 → (t : ℕ) × Finish n α cost v i t × (x ≡ cond (nat_le t ceiling) t 0)
  pub late : 256 ≤ i → x ≡ 0

-- The bound of the next firing of a task is told, and it counts as ended.
abbrev pub Books : Net → ℕ → Ledger → ℕ → Ledger → Type 0
Books n v l x l' =
    (cost : Cost) (α : Arrivals) (fired : ℕ → ℕ) → Knows n cost α fired l → Due n α fired v →
    TellsBound n cost α v (fired v) x × Knows n cost α (more fired v) l'
