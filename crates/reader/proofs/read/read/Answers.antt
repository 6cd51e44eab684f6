-- From lines in order to a graph and a rack that fit.
use Rattle.std.proofs.Common.{◌≡◌, ℕ, List, map, length, Ok, vec_items, ap, ◌∙◌, subst}
use Rattle.std.proofs.lemmas.List.{length-map}
use Rattle.cells.proofs.Firsts.{first_is}
use Rattle.kinds.specs.declared.any_kind.AnyKind.{AnyKind}
use Rattle.layers.specs.declared.stack.Stack.{Stack}
use Rattle.graph.specs.declared.parts.Edge.{Edge}
use Rattle.graph.specs.declared.parts.Task.{Task}
use Rattle.graph.specs.declared.origin.Origin.TheVariants as origin
use Rattle.graph.specs.Edges.{NoRing}
use Rattle.graph.specs.Graphs.{IsGraph}
use Rattle.graph.specs.declared.graph.Graph.{Graph}
use Rattle.sheets.specs.declared.sheet.Sheet.{Sheet}
use Rattle.sheets.specs.declared.sheet.SheetTask.{SheetTask}
use Rattle.sheets.specs.Pages.{Page, task_of}
use Rattle.sheets.specs.Offers.{AllMade}
use Rattle.sheets.specs.Checks.{checks, meaning}
use Rattle.sheets.specs.Laws.{in_line, OneMeaning}
use Rattle.sheets.specs.Reads.{entry}
use Rattle.sheets.proofs.Taken.{taken_is}
use Rattle.sheets.proofs.Decides.{one_meaning, reads_is}
use Rattle.reader.specs.declared.lists.Lists.{Lists}
use Rattle.reader.specs.Lists.{ListsSay}
use Rattle.reader.specs.Matched.{Matched}
use Rattle.reader.proofs.Plans.{Fitted, graph_refused, rack_refused, accepted, refused_is}
use Rattle.reader.proofs.read.read.Goals as goal

-- the lists that the graph and the rack are made of are those of the page
record Listed (p : Page) (goal : ℕ) (ts : List SheetTask) (ps : List Task) (ss : List (Stack AnyKind)) (es : List Edge) : Type 0 where
  aim : goal ≡ p.goal
  tasks : map entry ts ≡ p.tasks
  parts : ps ≡ map task_of p.tasks
  made : AllMade p.tasks ss
  edges : es ≡ p.edges

listed : (p : Page) (x : Lists) (ts : List SheetTask) (ps : List Task) (ss : List (Stack AnyKind)) (es : List Edge) → ListsSay p x → map entry ts ≡ x.entries → Matched ts ps ss → es ≡ x.edges → Listed p x.goal ts ps ss es
listed p x ts ps ss es s e m d =
    let are = e ∙ s.tasks in
    record { aim = s.goal; tasks = are; parts = m.parts ∙ ap (map task_of) are; made = subst (λ qs. AllMade qs ss) are m.made; edges = d ∙ s.edges }

fitted : (p : Page) (goal : ℕ) (ts : List SheetTask) (ps : List Task) (ss : List (Stack AnyKind)) (es : List Edge) (g : Graph) → Listed p goal ts ps ss es → IsGraph goal ps es origin.Sheet g → Fitted p g ss
fitted p goal ts ps ss es g s k = record {
  is_graph = record { goal_is = k.goal_is ∙ s.aim; tasks_are = k.tasks_are ∙ s.parts; edges_are = k.edges_are ∙ s.edges; origin_is = k.origin_is };
  made = s.made;
}

ring_free : (p : Page) (goal : ℕ) (ts : List SheetTask) (ps : List Task) (ss : List (Stack AnyKind)) (es : List Edge) → Listed p goal ts ps ss es → NoRing es (length ps) → NoRing p.edges (length p.tasks)
ring_free p goal ts ps ss es s n =
    let many = ap length s.parts ∙ length-map p.tasks task_of in
    subst (NoRing p.edges) many (subst (λ x. NoRing x (length ps)) s.edges n)

-- what read ensures
unique : {A : Type 0} → A → record { reads : A; one : OneMeaning }
unique a = record { reads = a; one = one_meaning }

pub returns-in_err-goal : goal.returns-in_err-goal
returns-in_err-goal c = unique (refused_is c.args.text.now c.from_residual.result _ c.from_residual.ensures.1 (in_line (first_is (checks c.args.text.now) _ c.in_err-goal.ensures)))

pub returns-in_err-graph : goal.returns-in_err-graph
returns-in_err-graph c =
    let t = c.args.text.now in
    let read = c.in_ok-goal.ensures in
    let fine = taken_is t read.0 in
    let s = listed (meaning t) c.in_ok-goal.field-0 _ _ _ _ read.1 c.into_lists-tasks.ensures.are c.into_lists-tasks.ensures.matched c.into_vec.ensures in
    let r = c.from_residual-in_err-graph in
    unique (refused_is t r.result _ r.ensures.1 (graph_refused t (meaning t) _ _ _ _ fine.0 fine.1 s.aim s.parts s.edges c.in_err-graph.ensures))

pub returns-in_err-check_rack : goal.returns-in_err-check_rack
returns-in_err-check_rack c =
    let t = c.args.text.now in
    let read = c.in_ok-goal.ensures in
    let fine = taken_is t read.0 in
    let s = listed (meaning t) c.in_ok-goal.field-0 _ _ _ _ read.1 c.into_lists-tasks.ensures.are c.into_lists-tasks.ensures.matched c.into_vec.ensures in
    let made = c.in_ok-graph.ensures in
    let r = c.from_residual-in_err-check_rack in
    let servers = c.into_lists-tasks.result.2 in
    unique
    (refused_is t r.result _ r.ensures.1
    (rack_refused t (meaning t) c.in_ok-graph.graph (vec_items servers) _ _ fine.0 fine.1 (ring_free (meaning t) _ _ _ _ _ s made.0.no_ring) (fitted (meaning t) _ _ _ _ _ c.in_ok-graph.graph s made.1) servers.ok.0 c.in_err-check_rack.ensures))

pub returns : goal.returns
returns c =
    let t = c.args.text.now in
    let read = c.in_ok-goal.ensures in
    let fine = taken_is t read.0 in
    let s = listed (meaning t) c.in_ok-goal.field-0 _ _ _ _ read.1 c.into_lists-tasks.ensures.are c.into_lists-tasks.ensures.matched c.into_vec.ensures in
    let made = c.in_ok-graph.ensures in
    let g = c.in_ok-graph.graph in
    let lists = c.into_lists-tasks.result in
    let sheet : Sheet = record { tasks = lists.0; graph = g; rack = record { servers = lists.2 } } in
    unique (reads_is t (Ok sheet) (accepted t (meaning t) sheet fine.0 fine.1 (ring_free (meaning t) _ _ _ _ _ s made.0.no_ring) s.tasks (fitted (meaning t) _ _ _ _ _ g s made.1) c.in_ok-check_rack.ensures))
