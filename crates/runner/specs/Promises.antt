-- The promise of a runner, whatever led to it: on its own clock, its finished firings, and all records that were put, taken off the belt or not.
use Rattle.std.specs.Prelude.{◌≡◌, ℕ, ◌+◌, ◌*◌, ◌<◌, ◌≤◌, Bool, true, List, vec_len}
use Rattle.servers.specs.Service.{Service}
use Rattle.flow.specs.Nets.{net_of}
use Rattle.flow.specs.Finish.{Finish, by_worst}
use Rattle.flow.specs.Rings.{Cycle, Starts}
use Rattle.runs.specs.Runs.{Said, arrivals_of, Whole}
use Rattle.runs.specs.Claims.{Ended, SameFigures}
use Rattle.runner.specs.Boards.{shown}
use Rattle.runner.specs.Runners.{Led}
use Rattle.runner.specs.declared.runner.Runner.{Runner}

-- Every firing whose finish bound exists and is not above the clock is finished, and it ended at its bound at the latest.
abbrev pub Timely : {R : Type 0} → (R → ℕ) → (R → ℕ → Service) → (R → ℕ → Bool → Bool → R → Type 0) → Runner R → Type 0
Timely {R} places service steps r =
    (first : R) (slots : ℕ) (said : List Said) (x : Whole) → Led places steps first slots said r x →
    (v i t : ℕ) → v < vec_len r.graph.tasks → Finish (net_of r.graph) (arrivals_of said) (by_worst (net_of r.graph) (service r.rack)) v i t → t ≤ (shown r.board).clock →
    (i < (shown r.board).fired v) × (c : ℕ) × (c ≤ t) × Ended x.state v i c

-- Where arrivals 0 to i came at each inlet, each by its number × cycle ÷ parts, firing i of v is finished by (start + i × cycle) ÷ parts. Nothing is rounded.
abbrev pub InPace : {R : Type 0} → (R → ℕ) → (R → ℕ → Service) → (R → ℕ → Bool → Bool → R → Type 0) → Runner R → Type 0
InPace {R} places service steps r =
    (first : R) (slots : ℕ) (said : List Said) (x : Whole) → Led places steps first slots said r x →
    (cycle parts : ℕ) (start : ℕ → ℕ) → Cycle (net_of r.graph) (service r.rack) cycle parts → Starts (net_of r.graph) (service r.rack) cycle parts start →
    (v i : ℕ) → v < vec_len r.graph.tasks →
    ((u k : ℕ) → u < vec_len r.graph.tasks → (net_of r.graph).inlet u ≡ true → k ≤ i → (k < (arrivals_of said).count u) × (parts * (arrivals_of said).stamp u k ≤ k * cycle)) →
    start v + i * cycle ≤ parts * (shown r.board).clock →
    (i < (shown r.board).fired v) × (c : ℕ) × (parts * c ≤ start v + i * cycle) × Ended x.state v i c

-- The figures of each task's server are those of the rack with which the runner was made: what was told of that rack is true of this one.
abbrev pub Steady : {R : Type 0} → (R → ℕ) → (R → ℕ → Service) → (R → ℕ → Bool → Bool → R → Type 0) → Runner R → Type 0
Steady {R} places service steps r =
    (first : R) (slots : ℕ) (said : List Said) (x : Whole) → Led places steps first slots said r x →
    (v : ℕ) → v < vec_len r.graph.tasks → SameFigures (service first v) (service r.rack v)
