-- The checks of the next line, whether it is there or not, and where its number stands.
use Rattle.std.proofs.Common.{◌≡◌, ℕ, ◌+◌, ◌<◌, List, [], get_or, drop, Some, sym, ap, ◌∙◌, arith}
use Rattle.faults.specs.Faults.{fault}
use Rattle.faults.specs.declared.fault.Fault.{Fault}
use Rattle.faults.specs.declared.layer.Layer.TheVariants.{Reader}
use Rattle.cells.specs.Checks.{Check, first}
use Rattle.sheet_lines.specs.declared.line.Line.{Line}
use Rattle.reader.specs.declared.numbered_lines.NumberedLines.{NumberedLines}
use Rattle.reader.specs.Numbered.{left, next_line, Took, Passed, Stands}

-- what is checked of a line, by its number and its bytes
abbrev pub LineChecks : Type 0
LineChecks = ℕ → List ℕ → List Check

-- no line is left
pub missed : (F : LineChecks) (s : NumberedLines) (f : Fault) → ((k : ℕ) → first (F k []) ≡ Some (fault 3 Reader k 0)) → left s ≡ [] → f ≡ fault 3 Reader s.number 0 → first (F s.number (next_line s)) ≡ Some f
missed F s f h e g = ap (λ ls. first (F s.number (get_or ls 0 []))) e ∙ h s.number ∙ ap Some (sym g)

-- line l is the next

pub met : (F : LineChecks) (s : NumberedLines) (l : Line) (t : NumberedLines) → Took s l t → first (F s.number (next_line s)) ≡ first (F l.number l.text.now)
met F s l t k = ap (λ n. first (F n (next_line s))) (sym k.number) ∙ ap (λ ls. first (F l.number (get_or ls 0 []))) k.line

pub read_as : {Y : Type 0} (G : List ℕ → Y) (s : NumberedLines) (l : Line) (t : NumberedLines) → Took s l t → G l.text.now ≡ G (next_line s)
read_as G s l t k = ap (λ ls. G (get_or ls 0 [])) (sym k.line)

pub one_on : (s : NumberedLines) (l : Line) (t : NumberedLines) → Took s l t → Passed s t
one_on s l t k = record { lines = ap (drop 1) (sym k.line); number = k.next }

-- lines ls are left, the first of which has number k

pub stands_on : (k : ℕ) (ls : List (List ℕ)) (s t : NumberedLines) → k < 1000 → Stands k ls s → Passed s t → Stands (k + 1) (drop 1 ls) t
stands_on k ls s t h a p =
    let n = a.number in
    let m = p.number in
    record { lines = p.lines ∙ ap (drop 1) a.lines; number = omega arith }

pub at_stand : (F : LineChecks) (k : ℕ) (ls : List (List ℕ)) (s : NumberedLines) → Stands k ls s → first (F k (get_or ls 0 [])) ≡ first (F s.number (next_line s))
at_stand F k ls s a =
    let n = a.number in
    let e = a.lines in
    λ i. first (F (sym n i) (get_or (sym e i) 0 []))
