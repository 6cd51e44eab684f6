-- The values of a line are read from left to right, column by column.
use Rattle.std.proofs.Common.{◌≡◌, ℕ, ◌+◌, ◌≤◌, cond, not, eqb, List, [], ◌∷◌, ◌++◌, length, get_or, drop, Some, None, sym, refl, ap, ◌∙◌, append_assoc, arith}
use Rattle.std.proofs.lemmas.List.{get_or-drop, drop-drop, length-drop, length-append}
use Rattle.std.proofs.lemmas.Bool.{and_parts, eqb-true}
use Rattle.std.proofs.lemmas.Bool.Decides.{nat_tests}
use Rattle.faults.specs.Faults.{fault}
use Rattle.faults.specs.declared.fault.Fault.{Fault}
use Rattle.faults.specs.declared.layer.Layer.TheVariants.{Reader}
use Rattle.lexer.specs.Text.{fields}
use Rattle.lexer.specs.Left.{fields_left}
use Rattle.lexer.specs.declared.fields.Fields.{Fields}
use Rattle.cells.specs.Bytes.{filled}
use Rattle.cells.specs.Checks.{Check, first}
use Rattle.cells.proofs.Firsts.{first_within, first_after}
use Rattle.headings.specs.Tables.{table_columns}
use Rattle.headings.specs.declared.column.Column.{Column}
use Rattle.headings.specs.declared.table.Table.{Table}
use Rattle.sheets.specs.Checks.{column_checks, cell_checks, value_checks}
use Rattle.sheet_lines.specs.Values.{FieldChecks, Begins, Passed, part, place, here, all_here}

pub passed_on : (n m : ℕ) (f g e : Fields) → Passed n f g → Passed m g e → Passed (n + m) f e
passed_on n m f g e p q =
    let many = ap length p.left ∙ length-drop n (fields_left f) in
    record {
      left = q.left ∙ ap (drop m) p.left ∙ drop-drop m n (fields_left f);
      field = λ h. omega (arith, many, p.field (omega arith), q.field (omega (arith, many)));
      line = q.line ∙ p.line;
    }

pub part_on : (n k : ℕ) (f g : Fields) → Passed n f g → part k g ≡ part (n + k) f
part_on n k f g p = ap (λ fs. get_or fs k []) p.left ∙ get_or-drop n (fields_left f) k []

-- the checks of a field that is left, seen from n fields before
pub here_on : (a : FieldChecks) (n k : ℕ) (f g : Fields) → Passed n f g → here a k g ≡ here a (n + k) f
here_on a n k f g p =
    let many = ap length p.left ∙ length-drop n (fields_left f) in
    let stands : place k g ≡ place (n + k) f = grind (arith, nat_tests) in
    let holds = part_on n k f g p in
    λ i. a (p.line i) (stands i) (holds i)

-- n fields of a line with fields fs were read
pub record At (n at : ℕ) (fs : List (List ℕ)) (f : Fields) : Type 0 where
  pub left : fields_left f ≡ drop n fs
  pub line : f.line ≡ at
  pub field : f.field ≡ n

pub part_at : (k n at : ℕ) (fs : List (List ℕ)) (f : Fields) → At n at fs f → part k f ≡ get_or fs (n + k) []
part_at k n at fs f a = ap (λ gs. get_or gs k []) a.left ∙ get_or-drop n fs k []

-- the checks that are made here are those of the line's columns
columns_at : (ns : List (List ℕ)) (cs : List Column) (k n at : ℕ) (fs : List (List ℕ)) (f : Fields) → At n at fs f → n + k + length cs ≤ length fs → length fs ≤ 100 → all_here ns cs k f ≡ cell_checks ns cs at 0 (n + k) fs
columns_at ns [] k n at fs f a h s = refl
columns_at ns (c ∷ cs) k n at fs f a h s =
    let many = ap length a.left ∙ length-drop n fs in
    let stands : place k f ≡ 0 + (n + k + 1) = grind (arith, nat_tests) in
    let holds = part_at k n at fs f a in
    let line = a.line in
    let on : n + (k + 1) ≡ n + k + 1 = omega arith in
    let more = columns_at ns cs (k + 1) n at fs f a (omega arith) s ∙ ap (λ m. cell_checks ns cs at 0 m fs) on in
    λ i. column_checks ns c (line i) (stands i) (holds i) ++ more i

cells_split : (ns : List (List ℕ)) (gs cs : List Column) (line n : ℕ) (fs : List (List ℕ)) → cell_checks ns (gs ++ cs) line 0 n fs ≡ cell_checks ns gs line 0 n fs ++ cell_checks ns cs line 0 (n + length gs) fs
cells_split ns [] cs line n fs = let z : n ≡ n + 0 = omega arith in ap (λ m. cell_checks ns cs line 0 m fs) z
cells_split ns (g ∷ gs) cs line n fs =
    let A = column_checks ns g line (0 + (n + 1)) (get_or fs n []) in
    let on : n + 1 + length gs ≡ n + length (g ∷ gs) = omega arith in
    ap (λ x. A ++ x) (cells_split ns gs cs line (n + 1) fs ∙ ap (λ m. cell_checks ns gs line 0 (n + 1) fs ++ cell_checks ns cs line 0 m fs) on)
    ∙ sym (append_assoc A (cell_checks ns gs line 0 (n + 1) fs) (cell_checks ns cs line 0 (n + length (g ∷ gs)) fs))

-- of the checks W, those of columns cs are left, at the n-th field of the line
pub record Left (W : List Check) (ns : List (List ℕ)) (cs : List Column) (n at : ℕ) (fs : List (List ℕ)) (f : Fields) : Type 0 where
  pub here : At n at fs f
  pub goes_on : first W ≡ first (cell_checks ns cs at 0 n fs)
  pub room : n + length cs ≡ length fs
  pub short : length fs ≤ 100

pub begun : (ns : List (List ℕ)) (t : Table) (at : ℕ) (l : List ℕ) (f : Fields) → length (table_columns t) ≤ 100 → Begins (length (table_columns t)) l at f → Left (value_checks ns t at l) ns (table_columns t) 0 at (fields l) f
begun ns t at l f short b =
    let cs = table_columns t in
    let many = eqb-true (length (fields l)) (length cs) (and_parts (filled (fields l)) (eqb (length (fields l)) (length cs)) b.whole).1 in
    record {
      here = record { left = b.left; line = b.line; field = b.field };
      goes_on = ap (λ p. cond (not p) (Some (fault 4 Reader at 0)) (first (cell_checks ns cs at 0 0 (fields l)))) b.whole;
      room = omega (arith, many);
      short = omega (arith, many);
    }

-- the fields of columns gs are in order
pub past : {W : List Check} {ns : List (List ℕ)} {n at : ℕ} {fs : List (List ℕ)} {f g : Fields} {A : Type 0} (gs cs : List Column) → Left W ns (gs ++ cs) n at fs f → (first (all_here ns gs 0 f) ≡ None) × (A × Passed (length gs) f g) → Left W ns cs (n + length gs) at fs g
past {ns = ns} {n = n} {at = at} {fs = fs} {f = f} gs cs k (e, (a, p)) =
    let many = length-append gs cs in
    let room = k.room in
    let short = k.short in
    let left = ap length k.here.left ∙ length-drop n fs in
    let z : n + 0 ≡ n = omega arith in
    let same = columns_at ns gs 0 n at fs f k.here (omega (arith, many)) short ∙ ap (λ m. cell_checks ns gs at 0 m fs) z in
    record {
      here = record { left = p.left ∙ ap (drop (length gs)) k.here.left ∙ drop-drop (length gs) n fs; line = p.line ∙ k.here.line; field = omega (arith, many, left, k.here.field, p.field (omega (arith, many, left))) };
      goes_on = k.goes_on ∙ ap first (cells_split ns gs cs at n fs) ∙ first_after (cell_checks ns gs at 0 n fs) (cell_checks ns cs at 0 (n + length gs) fs) (ap first (sym same) ∙ e);
      room = omega (arith, many);
      short = short;
    }

-- one of them is not
pub stopped : {W : List Check} {ns : List (List ℕ)} {n at : ℕ} {fs : List (List ℕ)} {f : Fields} {y : Fault} (gs cs : List Column) → Left W ns (gs ++ cs) n at fs f → first (all_here ns gs 0 f) ≡ Some y → first W ≡ Some y
stopped {ns = ns} {n = n} {at = at} {fs = fs} {f = f} {y = y} gs cs k e =
    let many = length-append gs cs in
    let room = k.room in
    let z : n + 0 ≡ n = omega arith in
    let same = columns_at ns gs 0 n at fs f k.here (omega (arith, many)) k.short ∙ ap (λ m. cell_checks ns gs at 0 m fs) z in
    k.goes_on ∙ ap first (cells_split ns gs cs at n fs) ∙ first_within (cell_checks ns gs at 0 n fs) (cell_checks ns cs at 0 (n + length gs) fs) y (ap first (sym same) ∙ e)

-- the k-th field from here, as the line has it
pub holds : {Y : Type 0} {W : List Check} {ns : List (List ℕ)} {cs : List Column} {n at : ℕ} {fs : List (List ℕ)} {f : Fields} (F : List ℕ → Y) (k : ℕ) → Left W ns cs n at fs f → F (part k f) ≡ F (get_or fs (n + k) [])
holds {n = n} {at = at} {fs = fs} {f = f} F k l = ap F (part_at k n at fs f l.here)
