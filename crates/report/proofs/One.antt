-- Two figures of one sheet differ in nothing but the critical ring.
use Rattle.std.proofs.Common.{◌≡◌, ℕ, zero, suc, ◌<◌, List, [], ◌∷◌, ◌++◌, map, length, slice_index, decimal, Result, Ok, Err, sym, refl, ◌∙◌, subst, arith, add-one, zero-add}
use Rattle.std.specs.List.{range_with_len}
use Rattle.std.specs.Fmt.{signed_decimal}
use Rattle.std.proofs.lemmas.List.FromFn.{map-range_with_len_more}
use Rattle.faults.specs.declared.fault.Fault.{Fault}
use Rattle.servers.specs.Service.{Service}
use Rattle.lexer.specs.Text.{end, line_of}
use Rattle.flow.specs.Nets.{Net, Sound}
use Rattle.flow.specs.Rings.{pace_of, Starts}
use Rattle.flow.specs.Verdicts.{margin, Load}
use Rattle.flow.proofs.FinishRule.{graphs_sound}
use Rattle.flow.proofs.RingFigures.{one_cycle, one_start}
use Rattle.flow.proofs.Verdicts.{one_load}
use Rattle.ratios.specs.Ratios.{verdict_of}
use Rattle.ratios.specs.Words.{word_of}
use Rattle.figures.specs.declared.figures.Figures.{Figures}
use Rattle.figures.specs.AllFigures.{AllFigures}
use Rattle.sheets.specs.declared.sheet.Sheet.{Sheet}
use Rattle.sheets.specs.Pages.{Page}
use Rattle.sheets.specs.Legal.{entry_at}
use Rattle.sheets.specs.Laws.{OneMeaning}
use Rattle.sheets.specs.Reads.{Reads}
use Rattle.report.specs.Plans.{page_net, page_service, FiguresOf}
use Rattle.report.specs.Texts.{goal_heading, tasks_heading, task_cells, task_line, figures_lines}
use Rattle.report.specs.Reports.{OneReport}
use Rattle.report.proofs.Planned.{net_is}

same_rows : (f g : ℕ → List ℕ) (n : ℕ) → ((v : ℕ) → v < n → f v ≡ g v) → map f (range_with_len 0 n) ≡ map g (range_with_len 0 n)
same_rows f g zero e = refl
same_rows f g (suc n) e =
    subst (λ (m : ℕ). map f (range_with_len 0 m) ≡ map g (range_with_len 0 m)) (add-one n)
    (map-range_with_len_more f 0 n n (zero-add n) ∙ (λ i. same_rows f g n (λ v h. e v (omega arith)) i ++ (e n (omega arith) i ∷ [])) ∙ sym (map-range_with_len_more g 0 n n (zero-add n)))

module _ (n : Net) (service : ℕ → Service) (goal : ℕ) (sound : Sound n) (f g : Figures) (a : AllFigures n service goal f) (b : AllFigures n service goal g) where
  ratio : (f.ratio.cycle ≡ g.ratio.cycle) × (f.ratio.parts ≡ g.ratio.parts)
  ratio = one_cycle n sound service f.ratio.cycle f.ratio.parts g.ratio.cycle g.ratio.parts a.cycle b.cycle

  -- what holds of the second cycle over parts holds of the first
  moved : (P : ℕ → ℕ → Type 0) → P g.ratio.cycle g.ratio.parts → P f.ratio.cycle f.ratio.parts
  moved P h = subst (λ (c : ℕ). P c f.ratio.parts) (sym ratio.0) (subst (λ (k : ℕ). P g.ratio.cycle k) (sym ratio.1) h)

  margins : f.margin ≡ g.margin
  margins = a.margin ∙ (λ i. margin goal (ratio.0 i) (ratio.1 i)) ∙ sym b.margin

  verdicts : f.verdict ≡ g.verdict
  verdicts = a.verdict ∙ (λ i. verdict_of goal (ratio.0 i) (ratio.1 i)) ∙ sym b.verdict

  starts : (v : ℕ) → v < n.tasks → slice_index f.starts v ≡ slice_index g.starts v
  starts = one_start n service f.ratio.cycle f.ratio.parts (λ v. slice_index f.starts v) (λ v. slice_index g.starts v) a.starts (moved (λ c k. Starts n service c k (λ v. slice_index g.starts v)) b.starts)

  loads : (v : ℕ) → v < n.tasks → slice_index f.loads v ≡ slice_index g.loads v
  loads v h = one_load.only (pace_of n service v) f.ratio.cycle f.ratio.parts (slice_index f.loads v) (slice_index g.loads v) (a.loads v h) (moved (λ c k. Load (pace_of n service v) c k (slice_index g.loads v)) (b.loads v h))

same_lines : (p : Page) → Sound (page_net p) → (f g : Figures) → FiguresOf p f → FiguresOf p g → figures_lines p f ≡ figures_lines p g
same_lines p sound f g a b =
    let n = page_net p in
    let service = page_service p in
    let r = ratio n service p.goal sound f g a b in
    let m = margins n service p.goal sound f g a b in
    let w = verdicts n service p.goal sound f g a b in
    let rows = same_rows (task_line p f) (task_line p g) (length p.tasks) (λ v h i. line_of (task_cells (entry_at p.tasks v) (starts n service p.goal sound f g a b v h i) (loads n service p.goal sound f g a b v h i))) in
    λ i. goal_heading ∷ line_of (decimal p.goal ∷ decimal (r.0 i) ∷ decimal (r.1 i) ∷ signed_decimal (m i) ∷ word_of (w i) ∷ []) ∷ end ∷ tasks_heading ∷ rows i

-- r: what a reader answers of the text
pub one_report : (t : List ℕ) (r : Result Sheet Fault) → OneMeaning → Reads t r → OneReport t
one_report t (Ok s) one reads p f g w a b =
    let is = reads.back p w in
    let plan = reads.says.planned in
    let sound = subst (λ (n : Net). Sound n) (net_is s plan) (graphs_sound s.graph) in
    same_lines p (subst (λ (q : Page). Sound (page_net q)) is sound) f g a b
one_report t (Err e) one reads p f g w a b = absurd (one.not_both t p e w reads.says)
