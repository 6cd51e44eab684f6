-- The figures of a sheet that was read: they are never refused, they are those of its page, and the critical ring is of its tasks.
use Rattle.std.proofs.Common.{◌≡◌, ℕ, ◌<◌, length, get_or, vec_items, vec_len, sym, subst, arith, rules, Result, Ok, Err, IsOk}
use Rattle.kinds.specs.AnyKinds.{any_service}
use Rattle.layers.specs.Stacks.{stack_service}
use Rattle.rows.specs.Rows.{row_service}
use Rattle.servers.specs.Service.{Service}
use Rattle.faults.specs.declared.fault.Fault.{Fault}
use Rattle.graph.specs.declared.graph.Graph.{Graph}
use Rattle.graph.specs.Racked.{Racked, RefusesRack, misfit, above}
use Rattle.flow.specs.Nets.{Net, net_of}
use Rattle.figures.specs.declared.figures.Figures.{Figures}
use Rattle.figures.specs.AllFigures.{AllFigures, AnswersAll}
use Rattle.figures.specs.Critical.{CriticalOf, ring_tasks}
use Rattle.figures.proofs.Members.{critical_member}
use Rattle.sheets.specs.declared.sheet.Sheet.{Sheet}
use Rattle.sheets.specs.Reads.{page, Planned}
use Rattle.report.specs.Plans.{page_net, page_service, FiguresOf}
use Rattle.report.proofs.Planned.{service_is, net_is, tasks_are_many}

-- a rack that a graph accepts is not refused
not_both : (g : Graph) (places : ℕ) (service : ℕ → Service) (e : Fault) → Racked g places service → RefusesRack g places service e → ⊥
not_both g places service e fits (misfit is apart) = apart fits.0
not_both g places service e fits (above v is same h first not) = not (fits.1 v h)

module _ (s : Sheet) (p : Planned s) where
  abbrev serves : ℕ → Service
  serves = row_service (stack_service any_service) (vec_items s.rack.servers)

  pub never_refused : (r : Result Figures Fault) → AnswersAll s.graph (vec_len s.rack.servers) serves r → IsOk r
  never_refused (Ok f) x = search rules
  never_refused (Err e) x = absurd (not_both s.graph (vec_len s.rack.servers) serves e p.fits x)

  pub figures_are : (r : Result Figures Fault) (f : Figures) → AnswersAll s.graph (vec_len s.rack.servers) serves r → r ≡ Ok f → FiguresOf (page s) f
  figures_are (Ok a) f x e =
      let same : a ≡ f = cc in
      subst (λ (k : ℕ → Service). AllFigures (page_net (page s)) k s.graph.goal f) (service_is s p)
      (subst (λ (n : Net). AllFigures n serves s.graph.goal f) (net_is s p) (subst (λ (b : Figures). AllFigures (net_of s.graph) serves s.graph.goal b) same x.1))
  figures_are (Err a) f x e = cc

-- the tasks of the critical ring are tasks of the sheet
pub ring_within : (s : Sheet) (f : Figures) → Planned s → FiguresOf (page s) f → (k : ℕ) → k < length (ring_tasks f.critical) → get_or (ring_tasks f.critical) k 0 < vec_len s.tasks
ring_within s f p a k h =
    let ring : CriticalOf (net_of s.graph) (page_service (page s)) f.ratio.cycle f.ratio.parts (ring_tasks f.critical) =
    subst (λ (n : Net). CriticalOf n (page_service (page s)) f.ratio.cycle f.ratio.parts (ring_tasks f.critical)) (sym (net_is s p)) a.critical in
    omega (arith, tasks_are_many s p, critical_member s.graph (page_service (page s)) f.ratio.cycle f.ratio.parts (ring_tasks f.critical) ring k h)
