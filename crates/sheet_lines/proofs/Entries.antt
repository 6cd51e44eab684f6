-- A task's line: its shape, its fields, its name and its server, in this order.
use Rattle.std.proofs.Common.{◌≡◌, ℕ, ◌<◌, Bool, true, cond, not, leb, List, [], ◌∷◌, ◌++◌, length, Some, None, sym, ap, ◌∙◌}
use Rattle.std.proofs.lemmas.Bool.{not_from_true, lt-leb}
use Rattle.faults.specs.Faults.{fault}
use Rattle.faults.specs.declared.layer.Layer.TheVariants.{Reader}
use Rattle.cells.specs.Bytes.{well, field}
use Rattle.cells.specs.Checks.{Check, bad, first}
use Rattle.cells.proofs.Firsts.{first_after, all_none}
use Rattle.headings.specs.declared.table.Table.TheVariants.{Tasks}
use Rattle.names.specs.Names.{name_bytes}
use Rattle.sheets.specs.declared.sheet.SheetTask.{SheetTask}
use Rattle.sheets.specs.Pages.{Entry}
use Rattle.sheets.specs.Reads.{entry}
use Rattle.sheets.specs.Checks.{taken, value_checks, entry_checks, entry_of}
use Rattle.sheet_lines.specs.Groups.{server_checks}

-- what is checked once the fields are in order
abbrev pub last_checks : List (List ℕ) → ℕ → List ℕ → List Check
last_checks ns at l = bad (taken ns (field 0 l)) 7 at 1 ∷ server_checks at (entry_of l)

pub past_shape : (ns : List (List ℕ)) (at : ℕ) (l : List ℕ) → well l ≡ true → length ns < 16 → first (entry_checks ns at l) ≡ first (value_checks [] Tasks at l ++ last_checks ns at l)
past_shape ns at l w few =
    let shape = bad (not (well l)) 2 at 0 ∷ bad (leb 16 (length ns)) 9 at 0 ∷ [] in
    first_after shape (value_checks [] Tasks at l ++ last_checks ns at l)
    (all_none shape (not_from_true (well l) w, (lt-leb 16 (length ns) few, tt)))

-- the fields are in order: what is left is whether the name is taken, and then the server
pub past_cells : (ns : List (List ℕ)) (at : ℕ) (l : List ℕ) (t : SheetTask) (n : List ℕ) (b : Bool) → first (value_checks [] Tasks at l) ≡ None → entry t ≡ entry_of l → n ≡ name_bytes t.name → b ≡ taken ns n → first (value_checks [] Tasks at l ++ last_checks ns at l) ≡ cond b (Some (fault 7 Reader at 1)) (first (server_checks at (entry t)))
past_cells ns at l t n b d e m k =
    let same = sym (k ∙ ap (taken ns) (m ∙ ap (λ (x : Entry). x.name) e)) in
    first_after (value_checks [] Tasks at l) (last_checks ns at l) d ∙ (λ i. cond (same i) (Some (fault 7 Reader at 1)) (first (server_checks at (sym e i))))
