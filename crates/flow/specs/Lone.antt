-- One task alone, with an inlet and no edges, and the finish rule worked out for it.
use Rattle.std.specs.Prelude.{ℕ, zero, suc, ◌+◌, ◌-◌, ◌<◌, max, true, List, length, slice_index}
use Rattle.flow.specs.Nets.{Net, Arrivals}
use Rattle.flow.specs.Finish.{Finish}

-- One task with an inlet and no edges.
abbrev pub lone : ℕ → Net
lone time = record { tasks = 1; edges = 0; time = λ v. time; inlet = λ v. true; from = λ e. 0; to = λ e. 0; tokens = λ e. 0 }

-- Arrivals at these times.
abbrev pub at_times : List ℕ → Arrivals
at_times times = record { count = λ v. length times; stamp = λ v k. slice_index times k }

-- Arrival k, and what firings k to i take.
abbrev pub from_arrival : (ℕ → ℕ) → List ℕ → ℕ → ℕ → ℕ
from_arrival cost times i k = slice_index times k + cost (i - k + 1)

-- The largest of these over k from 0 to j.
abbrev pub from_arrivals : (ℕ → ℕ) → List ℕ → ℕ → ℕ → ℕ
from_arrivals cost times i zero = from_arrival cost times i 0
from_arrivals cost times i (suc j) = max (from_arrivals cost times i j) (from_arrival cost times i (suc j))

-- The finish bound of firing i: the largest over k from 0 to i. `cost m` is what m firings in a row take at most.
abbrev pub lone_bound : (ℕ → ℕ) → List ℕ → ℕ → ℕ
lone_bound cost times i = from_arrivals cost times i i

-- It is the finish bound of the rule.
abbrev pub LoneBounds : Type 0
LoneBounds = (time : ℕ) (cost : ℕ → ℕ) (times : List ℕ) (i : ℕ) → i < length times → Finish (lone time) (at_times times) (λ v. cost) 0 i (lone_bound cost times i)
