-- Which texts are sheets, by what the others are refused, and that none is both.
use Rattle.std.specs.Prelude.{◌≡◌, ℕ, ◌<◌, List, length}
use Rattle.faults.specs.Faults.{fault}
use Rattle.faults.specs.declared.fault.Fault.{Fault}
use Rattle.faults.specs.declared.layer.Layer.TheVariants as layer
use Rattle.cells.specs.Checks.{First}
use Rattle.graph.specs.Edges.{NoRing, Topmost}
use Rattle.graph.specs.Lines.{line_of}
use Rattle.graph.specs.declared.origin.Origin.TheVariants.{Sheet}
use Rattle.sheets.specs.Pages.{Entry, Page, write}
use Rattle.sheets.specs.Legal.{InOrder, Legal, TaskTold}
use Rattle.sheets.specs.Checks.{checks}

-- The text is the written form of a legal sheet.
pub record Written (t : List ℕ) (p : Page) : Type 0 where
  pub is : t ≡ write p
  pub legal : Legal p

-- The first task with a figure above the ceiling.
pub record FirstAbove (ts : List Entry) (v : ℕ) : Type 0 where
  pub there : v < length ts
  pub above : TaskTold ts v → ⊥
  pub first : (u : ℕ) → u < v → TaskTold ts u

-- Fault f is told of the text: the first of its lines that is not in order; where all are, the topmost task on a ring without tokens; where there is none, the first task with a figure above the ceiling.
pub data Refused (t : List ℕ) (f : Fault) : Type 0 where
  in_line : First (checks t) f → Refused t f
  ring : (p : Page) (v : ℕ) → t ≡ write p → InOrder p → Topmost p.edges (length p.tasks) v → f ≡ fault 11 layer.Graph (line_of Sheet v) 0 → Refused t f
  figure : (p : Page) (v : ℕ) → t ≡ write p → InOrder p → NoRing p.edges (length p.tasks) → FirstAbove p.tasks v → f ≡ fault 12 layer.Graph (line_of Sheet v) 0 → Refused t f

-- No text has two meanings: it is not both a legal sheet's and refused, nor two sheets', nor refused by two faults.
pub record OneMeaning : Type 0 where
  pub not_both : (t : List ℕ) (p : Page) (f : Fault) → Written t p → Refused t f → ⊥
  pub one_sheet : (t : List ℕ) (p q : Page) → Written t p → Written t q → p ≡ q
  pub one_fault : (t : List ℕ) (f g : Fault) → Refused t f → Refused t g → f ≡ g
