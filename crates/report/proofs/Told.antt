-- The figures that a rack tells are those that the sheet says.
use Rattle.std.proofs.Common.{◌≡◌, ℕ, ◌<◌, List, [], ◌∷◌, get_or, vec_items, vec_len, decimal, sym, ap, ◌∙◌, subst, arith, rules, Result, Ok, Err, IsOk}
use Rattle.kinds.specs.AnyKinds.{any_service}
use Rattle.layers.specs.Stacks.{stack_service}
use Rattle.rows.specs.Rows.{row_service}
use Rattle.servers.specs.Service.{Service}
use Rattle.lexer.specs.Text.{line_of}
use Rattle.names.specs.Names.{name_bytes}
use Rattle.graph.specs.Racked.{Told}
use Rattle.graph.specs.declared.figures.Figures.{Figures}
use Rattle.graph.specs.Figured.{TellsAll}
use Rattle.faults.specs.declared.fault.Fault.{Fault}
use Rattle.sheets.specs.declared.sheet.SheetTask.{SheetTask}
use Rattle.sheets.specs.declared.sheet.Sheet.{Sheet}
use Rattle.sheets.specs.Offers.{offered}
use Rattle.sheets.specs.Legal.{entry_at}
use Rattle.sheets.specs.Reads.{entry, entries, Planned}
use Rattle.report.specs.Texts.{task_cells}
use Rattle.report.proofs.Planned.{service_is, graph_task, tasks_are_many, there}

-- Task v's turn.
module _ (s : Sheet) (v : ℕ) (t : SheetTask) (p : Planned s) (h : v < vec_len s.tasks) (is : t ≡ get_or (vec_items s.tasks) v t) where
  abbrev serves : Service
  serves = row_service (stack_service any_service) (vec_items s.rack.servers) v

  time_is : (entry_at (entries s) v).time ≡ t.time
  time_is = ap (λ e. e.time) (there s v t h is)

  told_is : Told serves t.time
  told_is = subst (λ x. Told serves x) (ap (λ k. k.time) (graph_task s p v) ∙ time_is) (p.fits.1 v (omega (arith, tasks_are_many s p)))

  pub tells : (r : Result Figures Fault) → TellsAll serves t.time r → IsOk r
  tells (Ok f) x = search rules
  tells (Err e) x = absurd (x.1 told_is)

  pub line_is : (r : Result Figures Fault) (f : Figures) (name : List ℕ) (start load : ℕ) → TellsAll serves t.time r → r ≡ Ok f → name ≡ name_bytes t.name → line_of (name ∷ decimal f.lead ∷ decimal f.pace ∷ decimal f.alone ∷ decimal start ∷ decimal load ∷ []) ≡ line_of (task_cells (entry_at (entries s) v) start load)
  line_is (Ok g) f name start load x e n =
      let a = x.0 in
      let own : serves ≡ offered (entry t) = ap (λ (k : ℕ → Service). k v) (service_is s p) ∙ ap offered (there s v t h is) in
      let lead : f.lead ≡ (offered (entry t)).lead = cc (a.lead, ap (λ x. x.lead) own) in
      let pace : f.pace ≡ (offered (entry t)).pace t.time = cc (a.pace, ap (λ x. x.pace t.time) own) in
      let alone : f.alone ≡ (offered (entry t)).worst t.time = cc (a.alone, ap (λ x. x.worst t.time) own) in
      (λ i. line_of (n i ∷ decimal (lead i) ∷ decimal (pace i) ∷ decimal (alone i) ∷ decimal start ∷ decimal load ∷ []))
      ∙ ap (λ k. line_of (task_cells k start load)) (sym (there s v t h is))
  line_is (Err g) f name start load x e n = cc
