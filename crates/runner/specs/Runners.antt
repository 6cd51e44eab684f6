-- How a runner stands for a run, and what its calls answer, change and make of every run.
use Rattle.std.specs.Prelude.{◌≡◌, ℕ, ◌≤◌, Bool, List, [], ◌∷◌, ◌++◌, vec_len, Option, Some, None, Ok, Err, Result, MatchResult}
use Rattle.faults.specs.Faults.{fault}
use Rattle.faults.specs.Numbers.{number_of}
use Rattle.faults.specs.declared.fault.Fault.{Fault}
use Rattle.faults.specs.declared.layer.Layer.TheVariants as layer
use Rattle.servers.specs.Service.{Service}
use Rattle.graph.specs.declared.graph.Graph.{Graph}
use Rattle.graph.specs.Racked.{Racked, RefusesRack}
use Rattle.flow.specs.Nets.{net_of}
use Rattle.runs.specs.States.{State, Finished, new_state, ticked, put_out}
use Rattle.runs.specs.Runs.{Call, Said, done, refused, Whole, Run, Sweep}
use Rattle.belt.specs.Turned.{Ring}
use Rattle.belt.specs.Belts.{contents, room}
use Rattle.runner.specs.Records.{lying}
use Rattle.runner.specs.declared.record.Record.{Record}
use Rattle.runner.specs.Boards.{shown, Alike}
use Rattle.runner.specs.declared.runner.Runner.{Runner}
use Rattle.runner.specs.declared.unfit.Unfit.{Unfit}

-- The calls that were said so, of a new runner on the rack `first` and with a belt of so many slots, lead to this runner: to its rack, and to a whole whose state the board shows.
pub record Led {R : Type 0} (places : R → ℕ) (steps : R → ℕ → Bool → Bool → R → Type 0) (first : R) (slots : ℕ) (said : List Said) (r : Runner R) (x : Whole) : Type 0 where
  pub fits : vec_len r.graph.tasks ≤ places first
  pub run : Run steps (net_of r.graph) first slots said r.rack x
  pub stands : Alike (net_of r.graph) (shown r.board) x.state

-- What is said of a call that was answered so.
abbrev pub said_of : Call → Result Unit Fault → Said
said_of call (Ok _) = done call
said_of call (Err e) = refused call (number_of e.reason)

-- A call is done where there is no reason against it, and else refused for it, by the runner, with no line and no field.
abbrev pub Answers : Option ℕ → Result Unit Fault → Type 0
Answers reason (Ok _) = reason ≡ None
Answers reason (Err e) = (k : ℕ) × (reason ≡ Some k) × (e ≡ fault k layer.Runner 0 0)

-- What the board shows, and an empty belt: arrive and need do not ask for more.
abbrev pub shown_whole : {R : Type 0} → Runner R → Whole
shown_whole r = record { state = shown r.board; belt = [] }

-- A call that was done leaves graph and rack as they were, and the board shows s; a refused one leaves the runner as it was.
abbrev pub Turns : {R : Type 0} → Runner R → Result Unit Fault → State → Runner R → Type 0
Turns a (Ok _) s b = (b.graph ≡ a.graph) × (b.rack ≡ a.rack) × Alike (net_of a.graph) (shown b.board) s
Turns a (Err _) s b = b ≡ a

-- These calls lead to this runner, and these records lie on the belt.
pub record Leads {R : Type 0} (places : R → ℕ) (steps : R → ℕ → Bool → Bool → R → Type 0) (first : R) (slots : ℕ) (said : List Said) (r : Runner R) (belt : List Finished) : Type 0 where
  pub whole : Whole
  pub led : Led places steps first slots said r whole
  pub its_belt : whole.belt ≡ belt

-- Every run that led to runner a, with this call and its answer put on, leads to runner b, and the belt is as it was.
abbrev pub Goes : {R : Type 0} → (R → ℕ) → (R → ℕ → Bool → Bool → R → Type 0) → Runner R → Call → Result Unit Fault → Runner R → Type 0
Goes {R} places steps a call answer b =
    (first : R) (slots : ℕ) (said : List Said) (x : Whole) → Led places steps first slots said a x →
    Leads places steps first slots (said_of call answer ∷ said) b x.belt

-- A new runner has this graph and this rack, its board shows a new state, and no calls lead to it, with any belt.
pub record Begins {R : Type 0} (places : R → ℕ) (steps : R → ℕ → Bool → Bool → R → Type 0) (g : Graph) (first : R) (r : Runner R) : Type 0 where
  pub its_graph : r.graph ≡ g
  pub its_rack : r.rack ≡ first
  pub stands : Alike (net_of g) (shown r.board) (new_state (net_of g))
  pub led : (slots : ℕ) → Led places steps first slots [] r (record { state = new_state (net_of g); belt = [] })

-- The refusal of the rack, with the graph and the rack as they were.
pub record GivenBack {R : Type 0} (places : R → ℕ) (service : R → ℕ → Service) (g : Graph) (rack : R) (u : Unfit R) : Type 0 where
  pub why : RefusesRack g (places rack) (service rack) u.fault
  pub its_graph : u.graph ≡ g
  pub its_rack : u.rack ≡ rack

abbrev pub Made : {R : Type 0} → (R → ℕ) → (R → ℕ → Service) → (R → ℕ → Bool → Bool → R → Type 0) → Graph → R → Result (Runner R) (Unfit R) → Type 0
Made places service steps g rack result = MatchResult result (λ r. Racked g (places rack) (service rack) × Begins places steps g rack r) (GivenBack places service g rack)

-- What the board shows, and these records on the belt.
abbrev pub whole_with : {R : Type 0} → Runner R → List Record → Whole
whole_with r rs = record { state = shown r.board; belt = lying rs }

-- A tick that was done, of runner a with a belt, to runner b: by the rack's own ticks of the tasks' places, each with its claim, the rack comes to b's, where it has a place for each task; the board moves as the state does with these grants; and the records of the firings that end lie on the belt behind those before.
pub record TickDone {R : Type 0} (places : R → ℕ) (steps : R → ℕ → Bool → Bool → R → Type 0) (a : Runner R) (before : Ring Record) (claims : List Bool) (b : Runner R) (after : Ring Record) : Type 0 where
  pub its_graph : b.graph ≡ a.graph
  pub grants : ℕ → Bool
  pub sweep : vec_len a.graph.tasks ≤ places a.rack → Sweep steps claims grants a.rack (vec_len a.graph.tasks) b.rack
  pub stands : Alike (net_of a.graph) (shown b.board) (ticked (net_of a.graph) grants (shown a.board))
  pub records : lying (contents after) ≡ lying (contents before) ++ put_out (net_of a.graph) (shown a.board) grants (vec_len a.graph.tasks)
  pub same_room : room after ≡ room before

-- So it is of a tick that was done; a refused one leaves runner and belt as they were.
abbrev pub Ticks : {R : Type 0} → (R → ℕ) → (R → ℕ → Bool → Bool → R → Type 0) → Runner R → Ring Record → List Bool → Result Unit Fault → Runner R → Ring Record → Type 0
Ticks places steps a before claims (Ok _) b after = TickDone places steps a before claims b after
Ticks places steps a before claims (Err _) b after = (b ≡ a) × (after ≡ before)

-- Every run that led to runner a and this belt, with this call and its answer put on, leads to runner b and the belt after it.
abbrev pub GoesOn : {R : Type 0} → (R → ℕ) → (R → ℕ → Bool → Bool → R → Type 0) → Runner R → Ring Record → Call → Result Unit Fault → Runner R → Ring Record → Type 0
GoesOn {R} places steps a before call answer b after =
    (first : R) (said : List Said) (x : Whole) → Led places steps first (room before) said a x → x.belt ≡ lying (contents before) →
    Leads places steps first (room before) (said_of call answer ∷ said) b (lying (contents after))
