-- The lines that are left of a text, and what is read next of them.
use Rattle.std.specs.Prelude.{◌≡◌, ℕ, ◌+◌, List, [], ◌∷◌, drop, slice_index_or, Option, Some, None, Result, Ok, Err}
use Rattle.faults.specs.Faults.{fault}
use Rattle.faults.specs.declared.fault.Fault.{Fault}
use Rattle.faults.specs.declared.layer.Layer.TheVariants.{Reader}
use Rattle.lexer.specs.Left.{counted}
use Rattle.sheet_lines.specs.declared.line.Line.{Line}
use Rattle.reader.specs.declared.numbered_lines.NumberedLines.{NumberedLines}

abbrev pub left : NumberedLines → List (List ℕ)
left s = s.lines

-- no bytes where no line is left
abbrev pub next_line : NumberedLines → List ℕ
next_line s = slice_index_or (left s) 0 []

-- Lines ls are left, and the first of them has number k.
pub record Stands (k : ℕ) (ls : List (List ℕ)) (s : NumberedLines) : Type 0 where
  pub lines : left s ≡ ls
  pub number : s.number ≡ k

-- One line on; numbers stop at the highest there is.
pub record Passed (s t : NumberedLines) : Type 0 where
  pub lines : left t ≡ drop 1 (left s)
  pub number : t.number ≡ counted (s.number + 1)

-- The line is the first that is left, with its number.
pub record Took (s : NumberedLines) (l : Line) (t : NumberedLines) : Type 0 where
  pub line : left s ≡ l.text.now ∷ left t
  pub number : l.number ≡ s.number
  pub next : t.number ≡ counted (s.number + 1)

-- What `next` answers.
abbrev pub Next : NumberedLines → Option Line → NumberedLines → Type 0
Next s (Some l) t = Took s l t
Next s None t = (left s ≡ []) × (left t ≡ [])

-- What is answered where a line has to be there.
abbrev pub Wanted : NumberedLines → Result Line Fault → NumberedLines → Type 0
Wanted s (Ok l) t = Took s l t
Wanted s (Err f) t = (left s ≡ []) × (f ≡ fault 3 Reader s.number 0)
