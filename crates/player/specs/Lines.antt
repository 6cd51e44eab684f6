-- The lines that are printed of finish records, each with its firing's finish bound.
use Rattle.std.specs.Prelude.{◌≡◌, ℕ, ◌<◌, ◌≤◌, ◌⊎◌, List, [], ◌∷◌, ◌++◌, decimal, slice_index_or, Option, Vec}
use Rattle.texts.specs.Puts.{Added}
use Rattle.lexer.specs.Text.{line_of}
use Rattle.flow.specs.Nets.{Net, Arrivals}
use Rattle.flow.specs.Finish.{Cost, Finish}
use Rattle.belt.specs.Turned.{Ring}
use Rattle.belt.specs.Belts.{contents, room}
use Rattle.finish.specs.Filling.{more}
use Rattle.finish.specs.Ledgers.{Knows, Due, TellsBound}
use Rattle.finish.specs.declared.ledger.Ledger.{Ledger}
use Rattle.runs.specs.States.{Finished}
use Rattle.runner.specs.Records.{lying}
use Rattle.runner.specs.declared.record.Record.{Record}

-- A record's line: its task's name, the firing, the clock at which it ended, and what is told of its finish bound.
abbrev pub record_line : List (List ℕ) → Finished → ℕ → List ℕ
record_line names r bound = line_of (slice_index_or names r.task [] ∷ decimal r.firing ∷ decimal r.clock ∷ decimal bound ∷ [])

-- The record's clock is at most the bound, where one is told: 0 tells none.
abbrev pub Kept : Finished → ℕ → Type 0
Kept r bound = (bound ≡ 0) ⊎ (r.clock ≤ bound)

-- The bytes are the lines of these records, in their order: each tells its firing's bound, and keeps it.
pub data Lines (n : Net) (cost : Cost) (α : Arrivals) (names : List (List ℕ)) : List Finished → List ℕ → Type 0 where
  none : Lines n cost α names [] []
  more_of :
      {rs : List Finished} {bytes : List ℕ} →
      Lines n cost α names rs bytes → (r : Finished) (bound : ℕ) → TellsBound n cost α r.task r.firing bound → Kept r bound →
      Lines n cost α names (rs ++ r ∷ []) (bytes ++ record_line names r bound)

-- How many firings of each task ended, with those of these records.
abbrev pub with_these : (ℕ → ℕ) → List Finished → ℕ → ℕ
with_these fired [] = fired
with_these fired (r ∷ rs) = with_these (more fired r.task) rs

-- The record's firing ended at its finish bound at the latest.
abbrev pub InTime : Net → Cost → Arrivals → Finished → Type 0
InTime n cost α r = (t : ℕ) → Finish n α cost r.task r.firing t → r.clock ≤ t

-- Each of these records in turn is of its task's next firing, which may end by then, and ended in time.
abbrev pub InTurn : Net → Cost → Arrivals → (ℕ → ℕ) → List Finished → Type 0
InTurn n cost α fired [] = Unit {0}
InTurn n cost α fired (r ∷ rs) = (r.task < n.tasks) × (r.firing ≡ fired r.task) × Due n α fired r.task × InTime n cost α r × InTurn n cost α (more fired r.task) rs

-- What is printed of the records on a belt, which leave it, and what the ledger knows then.
pub record Told {Z : Type 0} (n : Net) (names : List (List ℕ)) (l : Ledger) (belt : Ring Record) (v : Vec ℕ Z) (l' : Ledger) (belt' : Ring Record) (w : Vec ℕ Z) : Type 0 where
  pub bytes : List ℕ
  pub added : Added v bytes w
  pub emptied : contents belt' ≡ []
  pub same_room : room belt' ≡ room belt
  pub lines :
      (cost : Cost) (α : Arrivals) (fired : ℕ → ℕ) → Knows n cost α fired l → InTurn n cost α fired (lying (contents belt)) →
      Lines n cost α names (lying (contents belt)) bytes × Knows n cost α (with_these fired (lying (contents belt))) l'
