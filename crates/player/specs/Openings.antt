-- How a player begins, and how it takes a line.
use Rattle.std.specs.Prelude.{◌≡◌, ℕ, Bool, List, [], ◌++◌, map, MatchOption, Ok, Err, Result, MatchResult, Vec, vec_items}
use Rattle.std.specs.declared.alloc.AllocError.{AllocError}
use Rattle.faults.specs.Faults.{fault, fault_line}
use Rattle.faults.specs.declared.fault.Fault.{Fault}
use Rattle.faults.specs.declared.layer.Layer.TheVariants as layer
use Rattle.servers.specs.Service.{Service}
use Rattle.graph.specs.declared.graph.Graph.{Graph}
use Rattle.graph.specs.Racked.{Racked, RefusesRack}
use Rattle.lexer.specs.Text.{end}
use Rattle.sheets.specs.declared.sheet.SheetTask.{SheetTask}
use Rattle.sheets.specs.Pages.{names}
use Rattle.sheets.specs.Reads.{entry}
use Rattle.texts.specs.Puts.{Added}
use Rattle.calls.specs.declared.call_line.CallLine.{CallLine}
use Rattle.runs.specs.Runs.{Whole}
use Rattle.player.specs.Works.{work_in}
use Rattle.player.specs.Players.{Follows, Starved}
use Rattle.player.specs.declared.player.Player.{Player}
use Rattle.player.specs.declared.work.Work.{Work}

-- A new player has these tasks and this graph; a run with no calls leads to it, on this rack; and no line is under way.
pub record Starts {R : Type 0} (places : R → ℕ) (service : R → ℕ → Service) (steps : R → ℕ → Bool → Bool → R → Type 0) (tasks : List SheetTask) (g : Graph) (first : R) (slots : ℕ) (p : Player R) : Type 0 where
  pub its_tasks : vec_items p.tasks ≡ tasks
  pub its_graph : p.runner.graph ≡ g
  pub whole : Whole
  pub follows : Follows places service steps first slots [] whole p
  pub idle : p.work.left ≡ 0

-- A rack that does not fit the graph is refused.
abbrev pub Opens : {R Z : Type 0} → (R → ℕ) → (R → ℕ → Service) → (R → ℕ → Bool → Bool → R → Type 0) → Vec SheetTask Z → Graph → R → ℕ → Result (Player R) Fault → Type 0
Opens places service steps tasks g rack slots r = MatchResult r (λ p. Racked g (places rack) (service rack) × Starts places service steps (vec_items tasks) g rack slots p) (RefusesRack g (places rack) (service rack))

-- Only the line under way is another.
pub record Only {R : Type 0} (p : Player R) (w : Work) (q : Player R) : Type 0 where
  pub tasks : q.tasks ≡ p.tasks
  pub runner : q.runner ≡ p.runner
  pub ledger : q.ledger ≡ p.ledger
  pub records : q.records ≡ p.records
  pub work : q.work ≡ w

-- The line is under way, and nothing is printed yet; where no task has its name, no line is, and the refusal is printed.
pub record Takes {R : Type 0} (p : Player R) (line : CallLine) (bytes : List ℕ) (q : Player R) : Type 0 where
  pub work : Work
  pub only : Only p work q
  pub is : MatchOption (work_in (names (map entry (vec_items p.tasks))) line) ((work.left ≡ 0) × (bytes ≡ fault_line (fault 13 layer.Runner 0 0) ++ end)) (λ u. (work ≡ u) × (bytes ≡ []))

-- So it is of a line that was taken, and what it prints is appended.
pub record Taken {R Z : Type 0} (p : Player R) (line : CallLine) (v : Vec ℕ Z) (q : Player R) (w : Vec ℕ Z) : Type 0 where
  pub bytes : List ℕ
  pub added : Added v bytes w
  pub takes : Takes p line bytes q

-- What `begin` does, or where memory lacks.
abbrev pub Begins : {R Z : Type 0} → Player R → CallLine → Vec ℕ Z → Result Unit AllocError → Player R → Vec ℕ Z → Type 0
Begins p line v (Ok _) q w = Taken p line v q w
Begins p line v (Err _) q w = Starved p v q w
