-- What is printed of a sheet's text.
use Rattle.std.specs.Prelude.{◌≡◌, ℕ, List, ◌++◌, Result, Vec}
use Rattle.texts.specs.Puts.{Appends}
use Rattle.faults.specs.Faults.{fault_line}
use Rattle.faults.specs.declared.fault.Fault.{Fault}
use Rattle.lexer.specs.Text.{end}
use Rattle.sheets.specs.Pages.{Page}
use Rattle.sheets.specs.Laws.{Written, Refused}
use Rattle.figures.specs.declared.figures.Figures.{Figures}
use Rattle.report.specs.Plans.{FiguresOf}
use Rattle.report.specs.Texts.{figures_lines, report_text}

-- The report of a legal sheet, by figures that are its own, or the line of the fault.
pub data Reports (t out : List ℕ) : Type 0 where
  figures : (p : Page) (f : Figures) → Written t p → FiguresOf p f → out ≡ report_text p f → Reports t out
  refusal : (f : Fault) → Refused t f → out ≡ fault_line f ++ end → Reports t out

-- The report is appended to a buffer; where it does not fit and no memory is to be had, the buffer's contents stay as they were.
abbrev pub Reported : {U E Z : Type 0} → List ℕ → Vec ℕ Z → Result U E → Vec ℕ Z → Type 0
Reported t v r w = (bs : List ℕ) × Reports t bs × Appends v bs r w

-- All that is printed above the critical ring is determined by the text.
abbrev pub OneReport : List ℕ → Type 0
OneReport t = (p : Page) (f g : Figures) → Written t p → FiguresOf p f → FiguresOf p g → figures_lines p f ≡ figures_lines p g
