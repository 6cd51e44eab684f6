-- What holds of every run on every rack: on time, in pace, records in order, and no firing before its tokens.
use Rattle.std.specs.Prelude.{◌≡◌, ℕ, zero, suc, ◌+◌, ◌-◌, ◌*◌, ◌<◌, ◌≤◌, Bool, true, cond, List, [], ◌∷◌, ◌++◌, map, length, ◌==◌, slice_index}
use mathlib.Core.List.{Memᴰ}
use Rattle.servers.specs.Service.{Service}
use Rattle.flow.specs.Nets.{Net, Sound}
use Rattle.flow.specs.Finish.{Feeds, Finish, by_worst}
use Rattle.flow.specs.Rings.{Cycle, Starts}
use Rattle.runs.specs.States.{State, Finished}
use Rattle.runs.specs.Runs.{Said, clock_of, arrivals_of, Whole, Run}

-- The record was put that firing i of v ended at clock c.
abbrev pub Ended : State → ℕ → ℕ → ℕ → Type 0
Ended s v i c = Memᴰ {A = Finished} (record { task = v; firing = i; clock = c }) s.records

-- What holds after every run: of every sound net, on every rack with a place for each task, with every belt and every list of calls.
abbrev pub AfterEveryRun : {R : Type 0} → (R → ℕ) → (R → ℕ → Bool → Bool → R → Type 0) → (Net → List Said → R → Whole → Type 0) → Type 0
AfterEveryRun {R} places steps P =
    (n : Net) → Sound n → (first : R) → n.tasks ≤ places first → (slots : ℕ) (said : List Said) (a : R) (x : Whole) → Run steps n first slots said a x →
    P n said a x

-- Every firing whose finish bound exists and is not above the clock is finished, and it ended at its bound at the latest.
abbrev pub OnTime : {R : Type 0} → (R → ℕ) → (R → ℕ → Service) → (R → ℕ → Bool → Bool → R → Type 0) → Type 0
OnTime {R} places service steps = AfterEveryRun places steps (λ n said a x.
    (v i t : ℕ) → v < n.tasks → Finish n (arrivals_of said) (by_worst n (service a)) v i t → t ≤ clock_of said →
    (i < x.state.fired v) × (c : ℕ) × (c ≤ t) × Ended x.state v i c)

-- Where arrivals 0 to i came at each inlet, each by its number × cycle ÷ parts, firing i of v is finished by (start + i × cycle) ÷ parts. Nothing is rounded.
abbrev pub Paced : {R : Type 0} → (R → ℕ) → (R → ℕ → Service) → (R → ℕ → Bool → Bool → R → Type 0) → Type 0
Paced {R} places service steps = AfterEveryRun places steps (λ n said a x.
    (cycle parts : ℕ) (start : ℕ → ℕ) → Cycle n (service a) cycle parts → Starts n (service a) cycle parts start →
    (v i : ℕ) → v < n.tasks →
    ((u k : ℕ) → u < n.tasks → n.inlet u ≡ true → k ≤ i → (k < (arrivals_of said).count u) × (parts * (arrivals_of said).stamp u k ≤ k * cycle)) →
    start v + i * cycle ≤ parts * clock_of said →
    (i < x.state.fired v) × (c : ℕ) × (parts * c ≤ start v + i * cycle) × Ended x.state v i c)

-- The figures of two services are the same: the worst waits, the lead and the paces.
pub record SameFigures (s t : Service) : Type 0 where
  pub worst : (m : ℕ) → t.worst m ≡ s.worst m
  pub lead : t.lead ≡ s.lead
  pub pace : (m : ℕ) → t.pace m ≡ s.pace m

-- No run changes the figures of a task's place: bounds, cycle and start figures may be told before it or after it.
abbrev pub Steady : {R : Type 0} → (R → ℕ) → (R → ℕ → Service) → (R → ℕ → Bool → Bool → R → Type 0) → Type 0
Steady {R} places service steps =
    (n : Net) (first : R) → n.tasks ≤ places first → (slots : ℕ) (said : List Said) (a : R) (x : Whole) → Run steps n first slots said a x →
    (v : ℕ) → v < n.tasks → SameFigures (service first v) (service a v)

-- The firings that the records of task v tell, in the list's order.
abbrev pub firings_of : ℕ → List Finished → List ℕ
firings_of v [] = []
firings_of v (r ∷ rs) = cond (r.task == v) (r.firing ∷ firings_of v rs) (firings_of v rs)

-- 0, 1, 2 and so on, m of them.
abbrev pub numbers : ℕ → List ℕ
numbers zero = []
numbers (suc m) = numbers m ++ (m ∷ [])

-- The clock of the j-th record.
abbrev pub record_clock : List Finished → ℕ → ℕ
record_clock rs j = slice_index (map (λ (r : Finished). r.clock) rs) j

-- The records of each task tell firing 0, 1, 2 and so on, each once; no record is of another task; clocks are from 1 to now, and never fall along the list.
-- The belt has the latest of them; those before it were taken off.
pub record InOrder (n : Net) (said : List Said) (s : State) (belt : List Finished) : Type 0 where
  pub firings : (v : ℕ) → v < n.tasks → firings_of v s.records ≡ numbers (s.fired v)
  pub tasks : (v i c : ℕ) → Ended s v i c → v < n.tasks
  pub from_1 : (j : ℕ) → j < length s.records → 1 ≤ record_clock s.records j
  pub to_now : (j : ℕ) → j < length s.records → record_clock s.records j ≤ clock_of said
  pub never_falls : (j k : ℕ) → j ≤ k → k < length s.records → record_clock s.records j ≤ record_clock s.records k
  pub on_belt : (taken : List Finished) × (s.records ≡ taken ++ belt)

-- So it is after every run.
abbrev pub Records : {R : Type 0} → (R → ℕ) → (R → ℕ → Bool → Bool → R → Type 0) → Type 0
Records {R} places steps = AfterEveryRun places steps (λ n said a x. InOrder n said x.state x.belt)

-- Where firing i of v ended at clock c, what it takes was there before that: each firing that feeds it ended below c, and its arrival was accepted below c.
pub record HadTokens (n : Net) (said : List Said) (s : State) (v i c : ℕ) : Type 0 where
  pub fed : (e : ℕ) → Feeds n v i e → (d : ℕ) × (d < c) × Ended s (n.from e) (i - n.tokens e) d
  pub came : n.inlet v ≡ true → (i < (arrivals_of said).count v) × ((arrivals_of said).stamp v i < c)

-- So it is of every firing that ended, after every run.
abbrev pub NotEarly : {R : Type 0} → (R → ℕ) → (R → ℕ → Bool → Bool → R → Type 0) → Type 0
NotEarly {R} places steps = AfterEveryRun places steps (λ n said a x. (v i c : ℕ) → Ended x.state v i c → HadTokens n said x.state v i c)
