-- The tasks of a critical ring.
use Rattle.std.specs.Prelude.{◌≡◌, ℕ, ◌<◌, ◌≤◌, List, length, map, take, slice_index}
use Rattle.servers.specs.Service.{Service}
use Rattle.flow.specs.Nets.{Net}
use Rattle.flow.specs.Rings.{Hop, out_of}
use Rattle.rings.specs.Cycles.{Reaches}
use Rattle.figures.specs.declared.ring_tasks.RingTasks.{RingTasks}

-- The tasks that are told, one after the other.
abbrev pub ring_tasks : RingTasks → List ℕ
ring_tasks ring = take ring.count ring.tasks

-- A ring that has just cycle over parts ticks per token comes from these tasks, hop by hop, the first of them in the sheet before the others.
pub record CriticalOf (n : Net) (service : ℕ → Service) (cycle parts : ℕ) (tasks : List ℕ) : Type 0 where
  pub hops : List Hop
  pub reaches : Reaches n service cycle parts hops
  pub out : tasks ≡ map (out_of n) hops
  pub first : (k : ℕ) → k < length tasks → slice_index tasks 0 ≤ slice_index tasks k
