-- Reading and writing, together: one meaning, and one answer.
use Rattle.std.proofs.Common.{◌≡◌, ℕ, List, length, Ok, Err, Result, sym, ap, ◌∙◌, subst, inl, inr}
use Rattle.std.proofs.lemmas.Bool.{cases_order}
use Rattle.faults.specs.Faults.{fault}
use Rattle.faults.specs.declared.fault.Fault.{Fault}
use Rattle.faults.specs.declared.layer.Layer.TheVariants as layer
use Rattle.cells.specs.Checks.{First, first}
use Rattle.cells.proofs.Firsts.{first_from, some_none, some_same}
use Rattle.graph.specs.Edges.{Topmost, NoRing}
use Rattle.graph.specs.Lines.{line_of}
use Rattle.graph.specs.declared.parts.Edge.{Edge}
use Rattle.graph.specs.declared.origin.Origin.TheVariants as origin
use Rattle.sheets.specs.declared.sheet.Sheet.{Sheet}
use Rattle.sheets.specs.Pages.{Entry, Page, write}
use Rattle.sheets.specs.Legal.{InOrder}
use Rattle.sheets.specs.Checks.{checks, meaning}
use Rattle.sheets.specs.Laws.{Written, FirstAbove, Refused, in_line, ring, figure, OneMeaning}
use Rattle.sheets.specs.Reads.{page, Says, Reads}
use Rattle.sheets.proofs.Back.{back_is}

same_page : (t : List ℕ) (p q : Page) → t ≡ write p → InOrder p → t ≡ write q → InOrder q → p ≡ q
same_page t p q is o also u = sym (ap meaning is ∙ (back_is p o).1) ∙ ap meaning also ∙ (back_is q u).1

no_fault : (t : List ℕ) (p : Page) (f : Fault) → t ≡ write p → InOrder p → First (checks t) f → ⊥
no_fault t p f is o k = some_none (first (checks t)) f (first_from (checks t) f k) (ap (λ x. first (checks x)) is ∙ (back_is p o).0)

one_topmost : (es : List Edge) (n v w : ℕ) → Topmost es n v → Topmost es n w → v ≡ w
one_topmost es n v w a b = elim (cases_order v w) [
  | inl e ↦ e
  | inr d ↦ elim d [ inl h ↦ absurd (b.first v h a.on) | inr h ↦ absurd (a.first w h b.on) ]
]

one_above : (ts : List Entry) (v w : ℕ) → FirstAbove ts v → FirstAbove ts w → v ≡ w
one_above ts v w a b = elim (cases_order v w) [
  | inl e ↦ e
  | inr d ↦ elim d [ inl h ↦ absurd (a.above (b.first v h)) | inr h ↦ absurd (b.above (a.first w h)) ]
]

ring_or_not : (t : List ℕ) (p q : Page) (v : ℕ) → t ≡ write p → InOrder p → t ≡ write q → InOrder q → NoRing p.edges (length p.tasks) → Topmost q.edges (length q.tasks) v → ⊥
ring_or_not t p q v is o also u none top = subst (λ x. NoRing x.edges (length x.tasks)) (same_page t p q is o also u) none v top.there top.on

not_both : (t : List ℕ) (p : Page) (f : Fault) → Written t p → Refused t f → ⊥
not_both t p f w (in_line k) = no_fault t p f w.is w.legal.in_order k
not_both t p f w (ring q v is o top e) = ring_or_not t p q v w.is w.legal.in_order is o w.legal.no_ring top
not_both t p f w (figure q v is o none a e) =
    let b = subst (λ x. FirstAbove x.tasks v) (same_page t q p is o w.is w.legal.in_order) a in
    b.above (w.legal.told v b.there)

one_fault : (t : List ℕ) (f g : Fault) → Refused t f → Refused t g → f ≡ g
one_fault t f g (in_line k) (in_line m) = some_same (first (checks t)) f g (first_from (checks t) f k) (first_from (checks t) g m)
one_fault t f g (in_line k) (ring p v is o top e) = absurd (no_fault t p f is o k)
one_fault t f g (in_line k) (figure p v is o none a e) = absurd (no_fault t p f is o k)
one_fault t f g (ring p v is o top e) (in_line k) = absurd (no_fault t p g is o k)
one_fault t f g (ring p v is o top e) (ring q w also u pot d) =
    let same = one_topmost q.edges (length q.tasks) v w (subst (λ x. Topmost x.edges (length x.tasks) v) (same_page t p q is o also u) top) pot in
    e ∙ ap (λ n. fault 11 layer.Graph (line_of origin.Sheet n) 0) same ∙ sym d
one_fault t f g (ring p v is o top e) (figure q w also u none a d) = absurd (ring_or_not t q p v also u is o none top)
one_fault t f g (figure p v is o none a e) (in_line k) = absurd (no_fault t p g is o k)
one_fault t f g (figure p v is o none a e) (ring q w also u top d) = absurd (ring_or_not t p q w is o also u none top)
one_fault t f g (figure p v is o none a e) (figure q w also u nil b d) =
    let same = one_above q.tasks v w (subst (λ x. FirstAbove x.tasks v) (same_page t p q is o also u) a) b in
    e ∙ ap (λ n. fault 12 layer.Graph (line_of origin.Sheet n) 0) same ∙ sym d

one_sheet : (t : List ℕ) (p q : Page) → Written t p → Written t q → p ≡ q
one_sheet t p q w u = same_page t p q w.is w.legal.in_order u.is u.legal.in_order

pub one_meaning : OneMeaning
one_meaning = record { not_both = not_both; one_sheet = one_sheet; one_fault = one_fault }

-- an answer that says what the text is or why it is refused is the reader's
pub reads_is : (t : List ℕ) (r : Result Sheet Fault) → Says t r → Reads t r
reads_is t (Ok s) a = record { says = a; back = λ p w. one_sheet t (page s) p a.written w; tells = λ f k. absurd (not_both t (page s) f a.written k) }
reads_is t (Err f) k = record { says = k; back = λ p w. not_both t p f w k; tells = λ g m. ap Err (one_fault t f g k m) }
