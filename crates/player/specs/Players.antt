-- How a player stands for a run, and what its calls say and print.
use Rattle.std.specs.Prelude.{◌≡◌, ℕ, ◌+◌, ◌-◌, ◌<◌, ◌≤◌, ◌⊎◌, Bool, List, [], ◌∷◌, ◌++◌, length, map, Ok, Err, IsErr, Result, Vec, vec_items, vec_len, vec_capacity}
use Rattle.std.specs.declared.alloc.AllocError.{AllocError}
use Rattle.faults.specs.Faults.{fault_line}
use Rattle.faults.specs.declared.fault.Fault.{Fault}
use Rattle.servers.specs.Service.{Service}
use Rattle.belt.specs.Belts.{room}
use Rattle.lexer.specs.Text.{end}
use Rattle.texts.specs.Puts.{Added}
use Rattle.sheets.specs.Pages.{names}
use Rattle.sheets.specs.Reads.{entry}
use Rattle.flow.specs.Nets.{Net, Arrivals, net_of}
use Rattle.flow.specs.Finish.{Cost, by_worst}
use Rattle.finish.specs.Ledgers.{Knows}
use Rattle.runs.specs.States.{Finished}
use Rattle.runs.specs.Runs.{Call, Said, arrivals_of, Whole, why}
use Rattle.runner.specs.Runners.{Led, Answers, said_of}
use Rattle.player.specs.Lines.{Lines}
use Rattle.player.specs.Works.{call_of, left_after, call_room, calls_at_once}
use Rattle.player.specs.declared.player.Player.{Player}

-- Where no memory is to be had, which a buffer with room for one call never wants, player and buffer are as they were.
pub record Starved {R Z : Type 0} (p : Player R) (v : Vec ℕ Z) (q : Player R) (w : Vec ℕ Z) : Type 0 where
  pub same : q ≡ p
  pub items : vec_items w ≡ vec_items v
  pub room : vec_capacity w ≡ vec_capacity v
  pub short : vec_capacity v < vec_len v + call_room

-- The lines of the records that a call put; a refused call puts none.
abbrev pub Prints : Net → Cost → Arrivals → List (List ℕ) → Result Unit Fault → List Finished → List ℕ → Type 0
Prints n cost α names (Ok _) put bytes = Lines n cost α names put bytes
Prints n cost α names (Err _) put bytes = put ≡ []

-- The line of a refusal is all that a refused call prints.
abbrev pub Refusal : Result Unit Fault → List ℕ → Type 0
Refusal (Ok _) bytes = Unit {0}
Refusal (Err e) bytes = bytes ≡ fault_line e ++ end

module _ {R : Type 0} (places : R → ℕ) (service : R → ℕ → Service) (steps : R → ℕ → Bool → Bool → R → Type 0) where
  -- What was said so leads to the player's runner, from a new one on the rack `first`; every record was taken off the belt; and the ledger knows the arrivals and the firings that ended.
  pub record Follows (first : R) (slots : ℕ) (said : List Said) (x : Whole) (p : Player R) : Type 0 where
    pub led : Led places steps first slots said p.runner x
    pub slots_are : room p.records ≡ slots
    pub taken : x.belt ≡ []
    pub ended : ℕ → ℕ
    pub ended_are : (v : ℕ) → v < vec_len p.runner.graph.tasks → ended v ≡ x.state.fired v
    pub knows : Knows (net_of p.runner.graph) (by_worst (net_of p.runner.graph) (service first)) (arrivals_of said) ended p.ledger

  -- What this run has with the call and its answer put on: the player follows it, and these bytes are of the records that it has more.
  pub record Continues (first : R) (slots : ℕ) (said : List Said) (x : Whole) (p : Player R) (call : Call) (answer : Result Unit Fault) (bytes : List ℕ) (q : Player R) : Type 0 where
    pub answers : Answers (why (net_of p.runner.graph) slots x call) answer
    pub whole : Whole
    pub follows : Follows first slots (said_of call answer ∷ said) whole q
    pub put : List Finished
    pub records : whole.state.records ≡ x.state.records ++ put
    pub prints : Prints (net_of p.runner.graph) (by_worst (net_of p.runner.graph) (service first)) (arrivals_of (said_of call answer ∷ said)) (names (map entry (vec_items p.tasks))) answer put bytes

  -- A call of player p is answered so: every run that it followed goes on to player q. Its tasks and its graph stay as they were.
  pub record Does (p : Player R) (call : Call) (answer : Result Unit Fault) (bytes : List ℕ) (q : Player R) : Type 0 where
    pub tasks : q.tasks ≡ p.tasks
    pub graph : q.runner.graph ≡ p.runner.graph
    pub runs : (first : R) (slots : ℕ) (said : List Said) (x : Whole) → Follows first slots said x p → Continues first slots said x p call answer bytes q

  -- A call that puts lines behind what the buffer holds, and none where it is refused.
  pub record Puts {Z : Type 0} (p : Player R) (call : Call) (answer : Result Unit Fault) (v : Vec ℕ Z) (q : Player R) (w : Vec ℕ Z) : Type 0 where
    pub bytes : List ℕ
    pub added : Added v bytes w
    pub does : Does p call answer bytes q
    pub silent : IsErr answer → bytes ≡ []

  -- One call of the line under way, and what is then left of it.
  pub record Steps (p : Player R) (bytes : List ℕ) (q : Player R) : Type 0 where
    pub under_way : 1 ≤ p.work.left
    pub answer : Result Unit Fault
    pub does : Does p (call_of (vec_len p.runner.graph.tasks) p.work.ask) answer bytes q
    pub refusal : Refusal answer bytes
    pub left : q.work ≡ left_after answer p.work

  -- What a step appends: the lines of one call, or nothing where no line is under way.
  pub record Appended {Z : Type 0} (p : Player R) (v : Vec ℕ Z) (q : Player R) (w : Vec ℕ Z) : Type 0 where
    pub bytes : List ℕ
    pub added : Added v bytes w
    pub idle : p.work.left ≡ 0 → (q ≡ p) × (bytes ≡ [])
    pub busy : 1 ≤ p.work.left → Steps p bytes q

  -- What a step does, or where memory lacks.
  abbrev pub Stepped : {Z : Type 0} → Player R → Vec ℕ Z → Result Unit AllocError → Player R → Vec ℕ Z → Type 0
  Stepped p v (Ok _) q w = Appended p v q w
  Stepped p v (Err _) q w = Starved p v q w

  -- So many calls of the line under way, one after another, and what they print. Each was made where those before had printed less than there is space for.
  pub data Many (p : Player R) (space : ℕ) : ℕ → List ℕ → Player R → Type 0 where
    no_call : Many p space 0 [] p
    then : {n : ℕ} {bytes more : List ℕ} {q r : Player R} → Many p space n bytes q → length bytes < space → Steps q more r → Many p space (n + 1) (bytes ++ more) r

  -- So many calls were made, each with fewer than `most` bytes in the buffer, and what they print is appended.
  pub record Gone {Z : Type 0} (p : Player R) (v : Vec ℕ Z) (most n : ℕ) (q : Player R) (w : Vec ℕ Z) : Type 0 where
    pub bytes : List ℕ
    pub added : Added v bytes w
    pub many : Many p (most - vec_len v) n bytes q
    pub few : n ≤ calls_at_once

  -- The line is done, or so many bytes are in the buffer, or as many calls were made as are at once; or memory lacks for one more call before any of these.
  abbrev pub Went : {Z : Type 0} → Player R → Vec ℕ Z → ℕ → Result ℕ AllocError → Player R → Vec ℕ Z → Type 0
  Went p v most (Ok n) q w = Gone p v most n q w × ((q.work.left ≡ 0) ⊎ ((most ≤ vec_len w) ⊎ (n ≡ calls_at_once)))
  Went p v most (Err _) q w = (n : ℕ) × Gone p v most n q w × (n < calls_at_once) × (vec_len w < most) × (vec_capacity w < vec_len w + call_room)
