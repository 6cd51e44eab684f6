-- A sheet that was read, as the model sees it: its graph and rack are those of its page.
use Rattle.std.proofs.Common.{◌≡◌, ℕ, zero, suc, ◌<◌, List, [], ◌∷◌, map, length, get_or, vec_items, vec_len, sym, refl, ap, ◌∙◌, arith}
use Rattle.std.proofs.lemmas.List.{length-map}
use Rattle.kinds.specs.declared.any_kind.AnyKind.{AnyKind}
use Rattle.kinds.specs.AnyKinds.{any_service}
use Rattle.layers.specs.declared.stack.Stack.{Stack}
use Rattle.layers.specs.Stacks.{stack_service}
use Rattle.rows.specs.Rows.{row_service}
use Rattle.graph.specs.Legal.{task_at}
use Rattle.flow.specs.Nets.{net_of}
use Rattle.sheets.specs.declared.sheet.SheetTask.{SheetTask}
use Rattle.sheets.specs.declared.sheet.Sheet.{Sheet}
use Rattle.sheets.specs.Pages.{Entry, task_of}
use Rattle.sheets.specs.Offers.{offered, AllMade}
use Rattle.sheets.specs.Legal.{entry_at}
use Rattle.sheets.specs.Reads.{entry, entries, page, Planned}
use Rattle.sheets.proofs.Servers.{offered_is}
use Rattle.report.specs.Plans.{page_net, page_service}

-- what stands at a place of a row, also past its end, as an own server stands there
service_at : (es : List Entry) (ss : List (Stack AnyKind)) → AllMade es ss → (v : ℕ) → row_service (stack_service any_service) ss v ≡ offered (entry_at es v)
service_at [] [] a v = refl
service_at [] (s ∷ ss) a v = absurd a
service_at (e ∷ es) [] a v = absurd a
service_at (e ∷ es) (s ∷ ss) a zero = offered_is e s a.0
service_at (e ∷ es) (s ∷ ss) a (suc v) = service_at es ss a.1 v

pub service_is : (s : Sheet) → Planned s → row_service (stack_service any_service) (vec_items s.rack.servers) ≡ page_service (page s)
service_is s p = λ i v. service_at (entries s) (vec_items s.rack.servers) p.made v i

-- what a graph keeps of the task at a place, also past the end
task_is : (es : List Entry) (v : ℕ) → task_at (map task_of es) v ≡ task_of (entry_at es v)
task_is [] v = refl
task_is (e ∷ es) zero = refl
task_is (e ∷ es) (suc v) = task_is es v

pub graph_task : (s : Sheet) → Planned s → (v : ℕ) → task_at (vec_items s.graph.tasks) v ≡ task_of (entry_at (entries s) v)
graph_task s p v = ap (λ ts. task_at ts v) p.tasks_are ∙ task_is (entries s) v

pub tasks_are_many : (s : Sheet) → Planned s → vec_len s.graph.tasks ≡ vec_len s.tasks
tasks_are_many s p =
    let m = length-map (entries s) task_of in
    let k = length-map (vec_items s.tasks) entry in
    s.graph.tasks.ok.0 ∙ ap length p.tasks_are ∙ m ∙ k ∙ sym s.tasks.ok.0

pub entries_many : (s : Sheet) → length (entries s) ≡ vec_len s.tasks
entries_many s = length-map (vec_items s.tasks) entry ∙ sym s.tasks.ok.0

pub net_is : (s : Sheet) → Planned s → net_of s.graph ≡ page_net (page s)
net_is s p = λ i. record {
  tasks = (tasks_are_many s p ∙ sym (entries_many s)) i;
  edges = s.graph.edges.ok.0 i;
  time = λ v. (graph_task s p v i).time;
  inlet = λ v. (graph_task s p v i).inlet;
  from = (net_of s.graph).from;
  to = (net_of s.graph).to;
  tokens = (net_of s.graph).tokens;
}

entry_of_task : (ts : List SheetTask) (v : ℕ) (t : SheetTask) → v < length ts → entry_at (map entry ts) v ≡ entry (get_or ts v t)
entry_of_task [] v t h = absurd (omega arith)
entry_of_task (u ∷ ts) zero t h = refl
entry_of_task (u ∷ ts) (suc v) t h = entry_of_task ts v t (omega arith)

-- the task at v, as its line has it
pub there : (s : Sheet) (v : ℕ) (t : SheetTask) → v < vec_len s.tasks → t ≡ get_or (vec_items s.tasks) v t → entry_at (entries s) v ≡ entry t
there s v t h is = entry_of_task (vec_items s.tasks) v t (omega (arith, s.tasks.ok.0)) ∙ ap entry (sym is)
