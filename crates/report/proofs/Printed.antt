-- What is put one after another is the report.
use Rattle.std.proofs.Common.{◌≡◌, ℕ, List, ◌∷◌, ◌++◌, map, length, vec_len, sym, ap, ◌∙◌}
use Rattle.std.specs.List.{flat_map, range_with_len}
use Rattle.std.proofs.lemmas.Grind.{flat_map-append}
use Rattle.std.proofs.lemmas.List.Folds.{flat_map-map}
use Rattle.lexer.specs.Text.{end}
use Rattle.sheets.specs.declared.sheet.Sheet.{Sheet}
use Rattle.sheets.specs.Pages.{Page, all_of}
use Rattle.sheets.specs.Reads.{page}
use Rattle.figures.specs.declared.figures.Figures.{Figures}
use Rattle.figures.specs.Critical.{ring_tasks}
use Rattle.report.proofs.Planned.{entries_many}
use Rattle.report.specs.Texts.{goal_heading, tasks_heading, critical_heading, goal_line, task_line, ring_line, report_text}

lines_are : (f : ℕ → List ℕ) (vs : List ℕ) → flat_map f vs ≡ all_of (map f vs)
lines_are f vs = sym (flat_map-map (λ l. l) f vs)

-- vs and ring: the places of the tasks, and those of the critical ring
module _ (p : Page) (f : Figures) (vs ring : List ℕ) where
  abbrev tables : List ℕ
  tables = (end ++ tasks_heading) ++ (flat_map (task_line p f) vs ++ ((end ++ critical_heading) ++ flat_map (ring_line p) ring))

  tables_are : tables ≡ all_of (end ∷ tasks_heading ∷ (map (task_line p f) vs ++ (end ∷ critical_heading ∷ map (ring_line p) ring)))
  tables_are =
      ap (λ l. (end ++ tasks_heading) ++ l)
      ((λ i. lines_are (task_line p f) vs i ++ ((end ++ critical_heading) ++ lines_are (ring_line p) ring i))
      ∙ sym (flat_map-append (λ (l : List ℕ). l) (map (task_line p f) vs) (end ∷ critical_heading ∷ map (ring_line p) ring)))

pub printed : (s : Sheet) (f : Figures) (ring : List ℕ) → ring ≡ ring_tasks f.critical → goal_heading ++ (goal_line s.graph.goal f ++ tables (page s) f (range_with_len 0 (vec_len s.tasks)) ring) ≡ report_text (page s) f
printed s f ring is =
    let p = page s in
    let many = sym (entries_many s) in
    ap (λ l. goal_heading ++ (goal_line s.graph.goal f ++ l)) ((λ i. tables p f (range_with_len 0 (many i)) (is i)) ∙ tables_are p f (range_with_len 0 (length p.tasks)) (ring_tasks f.critical))
