-- The graph and the rack of a sheet whose lines are in order.
use Rattle.std.proofs.Common.{◌≡◌, ℕ, ◌<◌, List, map, length, IsErrAnd, Err, vec_items, vec_len, Result, sym, ap, ◌∙◌, subst, arith}
use Rattle.std.proofs.lemmas.List.{length-map}
use Rattle.std.proofs.lemmas.Result.{err_from_is_err_and}
use Rattle.faults.specs.Faults.{fault}
use Rattle.faults.specs.declared.fault.Fault.{Fault}
use Rattle.faults.specs.declared.layer.Layer.TheVariants as layer
use Rattle.kinds.specs.declared.any_kind.AnyKind.{AnyKind}
use Rattle.kinds.specs.AnyKinds.{any_service}
use Rattle.layers.specs.Stacks.{stack_service}
use Rattle.layers.specs.declared.stack.Stack.{Stack}
use Rattle.rows.specs.Rows.{row_service}
use Rattle.graph.specs.declared.parts.Task.{Task}
use Rattle.graph.specs.declared.parts.Edge.{Edge}
use Rattle.graph.specs.declared.graph.Graph.{Graph}
use Rattle.graph.specs.declared.origin.Origin.TheVariants as origin
use Rattle.graph.specs.Edges.{Ends, Topmost, NoRing}
use Rattle.graph.specs.Legal.{task_at}
use Rattle.graph.specs.Graphs as graphs
use Rattle.graph.specs.Lines.{line_of}
use Rattle.graph.specs.Racked.{Told, Racked, RefusesRack, misfit, above}
use Rattle.sheets.specs.declared.sheet.Sheet.{Sheet}
use Rattle.sheets.specs.Pages.{Page, task_of, write}
use Rattle.sheets.specs.Offers.{AllMade}
use Rattle.sheets.specs.Legal.{InOrder, Legal, TaskTold, entry_at}
use Rattle.sheets.specs.Laws.{Written, Refused, ring, figure}
use Rattle.sheets.specs.Reads.{entries, page, Accepted, Reads}
use Rattle.sheets.proofs.Servers.{all_made_length, offered_at}
use Rattle.sheets.proofs.Orders.{task_time}
use Rattle.sheets.proofs.Decides.{reads_is}

-- a graph that is refused
graph_refused_at : (t : List ℕ) (p : Page) (f : Fault) → t ≡ write p → InOrder p → graphs.Refuses p.goal (map task_of p.tasks) p.edges origin.Sheet f → Refused t f
graph_refused_at t p f is o (graphs.count e n) = absurd (n o.counts)
graph_refused_at t p f is o (graphs.range e c n) = absurd (n o.ranges)
graph_refused_at t p f is o (graphs.end e c r n) = absurd (n (subst (Ends p.edges) (sym (length-map p.tasks task_of)) o.ends))
graph_refused_at t p f is o (graphs.ring v e c r d top) = ring p v is o (subst (λ n. Topmost p.edges n v) (length-map p.tasks task_of) top) e

pub graph_refused : (t : List ℕ) (p : Page) (f : Fault) (goal : ℕ) (ts : List Task) (es : List Edge) → t ≡ write p → InOrder p → goal ≡ p.goal → ts ≡ map task_of p.tasks → es ≡ p.edges → graphs.Refuses goal ts es origin.Sheet f → Refused t f
graph_refused t p f goal ts es is o a b c k =
    graph_refused_at t p f is o (subst (λ g. graphs.Refuses g (map task_of p.tasks) p.edges origin.Sheet f) a (subst (λ x. graphs.Refuses goal x p.edges origin.Sheet f) b (subst (λ x. graphs.Refuses goal ts x origin.Sheet f) c k)))

-- the graph has the tasks of the page, and the rack their servers
pub record Fitted (p : Page) (g : Graph) (ss : List (Stack AnyKind)) : Type 0 where
  pub is_graph : graphs.IsGraph p.goal (map task_of p.tasks) p.edges origin.Sheet g
  pub made : AllMade p.tasks ss

graph_tasks : (p : Page) (g : Graph) (ss : List (Stack AnyKind)) → Fitted p g ss → vec_len g.tasks ≡ length p.tasks
graph_tasks p g ss k = g.tasks.ok.0 ∙ ap length k.is_graph.tasks_are ∙ length-map p.tasks task_of

-- what is told of the graph's task is told of the page's
same_task : (p : Page) (g : Graph) (ss : List (Stack AnyKind)) (v : ℕ) → Fitted p g ss → v < length p.tasks → (Told (row_service (stack_service any_service) ss v) (task_at (vec_items g.tasks) v).time → TaskTold p.tasks v) × (TaskTold p.tasks v → Told (row_service (stack_service any_service) ss v) (task_at (vec_items g.tasks) v).time)
same_task p g ss v k h =
    let a = offered_at p.tasks ss v k.made h in
    let b = ap (λ ts. (task_at ts v).time) k.is_graph.tasks_are ∙ task_time p.tasks v h in
    ((λ x. subst (λ s. Told s (entry_at p.tasks v).time) a (subst (Told (row_service (stack_service any_service) ss v)) b x)), (λ x. subst (Told (row_service (stack_service any_service) ss v)) (sym b) (subst (λ s. Told s (entry_at p.tasks v).time) (sym a) x)))

-- a rack that is refused
pub rack_refused : (t : List ℕ) (p : Page) (g : Graph) (ss : List (Stack AnyKind)) (places : ℕ) (f : Fault) → t ≡ write p → InOrder p → NoRing p.edges (length p.tasks) → Fitted p g ss → places ≡ length ss → RefusesRack g places (row_service (stack_service any_service) ss) f → Refused t f
rack_refused t p g ss places f is o n k c (misfit e m) = absurd (m (c ∙ all_made_length p.tasks ss k.made ∙ sym (graph_tasks p g ss k)))
rack_refused t p g ss places f is o n k c (above v e m h told not) =
    let many = graph_tasks p g ss k in
    let there : v < length p.tasks = omega (arith, many) in
    figure p v is o n
    (record {
      there = there;
      above = λ x. not ((same_task p g ss v k there).1 x);
      first = λ u l. (same_task p g ss u k (omega (arith, many))).0 (told u l);
    })
    (e ∙ ap (λ o. fault 12 layer.Graph (line_of o v) 0) k.is_graph.origin_is)

-- a sheet that is accepted
pub accepted : (t : List ℕ) (p : Page) (s : Sheet) → t ≡ write p → InOrder p → NoRing p.edges (length p.tasks) → entries s ≡ p.tasks → Fitted p s.graph (vec_items s.rack.servers) → Racked s.graph (vec_len s.rack.servers) (row_service (stack_service any_service) (vec_items s.rack.servers)) → Accepted t s
accepted t p s is o free es k fits =
    let g = s.graph in
    let ss = vec_items s.rack.servers in
    let goal = k.is_graph.goal_is in
    let edges = k.is_graph.edges_are in
    let same : page s ≡ p = λ i. record { goal = goal i; tasks = es i; edges = edges i } in
    let many = graph_tasks p g ss k in
    let fine : Legal p = record { in_order = o; no_ring = free; told = λ v h. (same_task p g ss v k h).0 (fits.1 v (omega (arith, many))) } in
    record {
      written = subst (Written t) (sym same) (record { is = is; legal = fine });
      planned = record {
        tasks_are = k.is_graph.tasks_are ∙ ap (map task_of) (sym es);
        origin_is = k.is_graph.origin_is;
        made = subst (λ x. AllMade x ss) (sym es) k.made;
        fits = fits;
      };
    }

-- what a `?` hands on
pub refused_is : (t : List ℕ) (r : Result Sheet Fault) (f : Fault) → IsErrAnd r (λ e. e ≡ f) → Refused t f → Reads t r
refused_is t r f e k = let p = err_from_is_err_and r e in subst (Reads t) (sym (p.1 ∙ ap Err p.2)) (reads_is t (Err f) k)
