-- What is put one after another is the sheet.
use Rattle.std.proofs.Common.{◌≡◌, ℕ, List, ◌∷◌, ◌++◌, map, vec_items, sym, ap, ◌∙◌}
use Rattle.std.specs.List.{flat_map}
use Rattle.lexer.specs.Text.{end, line_of}
use Rattle.headings.specs.Tables.{heading}
use Rattle.headings.specs.declared.table.Table.TheVariants as table
use Rattle.graph.specs.declared.parts.Edge.{Edge}
use Rattle.sheets.specs.declared.sheet.SheetTask.{SheetTask}
use Rattle.sheets.specs.declared.sheet.Sheet.{Sheet}
use Rattle.sheets.specs.Pages.{all_of, entry_line, edge_line, names, goal_cells, write}
use Rattle.sheets.specs.Reads.{entry, page}
use Rattle.std.proofs.lemmas.Grind.{flat_map-append}
use Rattle.std.proofs.lemmas.List.Folds.{flat_map-map}

task_lines : (ts : List SheetTask) → flat_map (λ t. entry_line (entry t)) ts ≡ all_of (map entry_line (map entry ts))
task_lines ts = sym (flat_map-map (λ l. l) entry_line (map entry ts) ∙ flat_map-map entry_line entry ts)

edge_lines : (ns : List (List ℕ)) (es : List Edge) → flat_map (edge_line ns) es ≡ all_of (map (edge_line ns) es)
edge_lines ns es = sym (flat_map-map (λ l. l) (edge_line ns) es)

-- two tables, and what stands before each
abbrev tables : List SheetTask → List Edge → List ℕ
tables ts es = (end ++ heading table.Tasks) ++ (flat_map (λ t. entry_line (entry t)) ts ++ ((end ++ heading table.Edges) ++ flat_map (edge_line (names (map entry ts))) es))

tables_are : (ts : List SheetTask) (es : List Edge) → tables ts es ≡ all_of (end ∷ heading table.Tasks ∷ (map entry_line (map entry ts) ++ (end ∷ heading table.Edges ∷ map (edge_line (names (map entry ts))) es)))
tables_are ts es =
    let ns = names (map entry ts) in
    ap (λ l. (end ++ heading table.Tasks) ++ l)
    ((λ i. task_lines ts i ++ ((end ++ heading table.Edges) ++ edge_lines ns es i))
    ∙ sym (flat_map-append (λ (l : List ℕ). l) (map entry_line (map entry ts)) (end ∷ heading table.Edges ∷ map (edge_line ns) es))
    )

pub page_text : (s : Sheet) (ts : List SheetTask) (es : List Edge) → ts ≡ vec_items s.tasks → es ≡ vec_items s.graph.edges → heading table.Goal ++ (line_of (goal_cells s.graph.goal) ++ tables ts es) ≡ write (page s)
page_text s ts es p q =
    ap (λ l. heading table.Goal ++ (line_of (goal_cells s.graph.goal) ++ l)) ((λ i. tables (p i) (q i)) ∙ tables_are (vec_items s.tasks) (vec_items s.graph.edges))
