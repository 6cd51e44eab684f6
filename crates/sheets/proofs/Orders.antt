-- A sheet in order, task by task and edge by edge.
use Rattle.std.proofs.Common.{◌≡◌, ℕ, ◌<◌, ◌≤◌, List, map, length, get_or, ap, arith}
use Rattle.std.specs.List.{AllByRecursion}
use Rattle.std.proofs.ByRecursion.{All-get_or, All-from_get_or, All-weaker}
use Rattle.std.proofs.lemmas.List.{get_or-map, length-map}
use Rattle.graph.specs.Legal.{no_task, Times}
use Rattle.graph.specs.Edges.{no_edge}
use Rattle.sheets.specs.Pages.{Entry, Page, names, task_of, write}
use Rattle.sheets.specs.Legal.{LegalEntry, InOrder, Distinct, no_entry}
use Rattle.sheets.proofs.EntryLines.{Fine}
use Rattle.sheets.proofs.EdgeLines.{Joins}

-- a graph keeps a task's time
pub task_time : (ts : List Entry) (v : ℕ) → v < length ts → (get_or (map task_of ts) v no_task).time ≡ (get_or ts v no_entry).time
task_time ts v h = ap (λ t. t.time) (get_or-map task_of ts v no_entry no_task h)

pub entries_fine : (p : Page) → InOrder p → AllByRecursion Fine p.tasks
entries_fine p o = All-from_get_or Fine p.tasks no_entry (λ v h.
    let same = task_time p.tasks v h in
    let t = o.ranges.times v (omega (arith, h, length-map p.tasks task_of)) in
    record { legal = All-get_or LegalEntry p.tasks v no_entry h o.entries; least = omega (arith, same, t.0); most = omega (arith, same, t.1) })

pub edges_join : (p : Page) → InOrder p → AllByRecursion (Joins (length p.tasks)) p.edges
edges_join p o = All-from_get_or (Joins (length p.tasks)) p.edges no_edge (λ e h. record { from = o.ends.from e h; to = o.ends.to e h; tokens = o.ranges.tokens e h })

times : (ts : List Entry) → AllByRecursion Fine ts → Times (map task_of ts)
times ts a v h =
    let below : v < length ts = omega (arith, h, length-map ts task_of) in
    let same = task_time ts v below in
    let f = All-get_or Fine ts v no_entry below a in
    (omega (arith, same, f.least), omega (arith, same, f.most))

-- What makes a sheet in order but for the room that it takes.
pub record Parts (p : Page) : Type 0 where
  pub least : 1 ≤ p.goal
  pub most : p.goal ≤ 999999999
  pub some : 0 < length p.tasks
  pub few : length p.tasks ≤ 16
  pub sparse : length p.edges ≤ 48
  pub fine : AllByRecursion Fine p.tasks
  pub joins : AllByRecursion (Joins (length p.tasks)) p.edges
  pub distinct : Distinct (names p.tasks)

pub in_order : (p : Page) → Parts p → length (write p) ≤ 8192 → InOrder p
in_order p a room =
    let n = length-map p.tasks task_of in
    let join = λ (e : ℕ) (h : e < length p.edges). All-get_or (Joins (length p.tasks)) p.edges e no_edge h a.joins in
    record {
      counts = record { some = omega (arith, n, a.some); few = omega (arith, n, a.few); sparse = a.sparse };
      ranges = record { least = a.least; most = a.most; times = times p.tasks a.fine; tokens = λ e h. (join e h).tokens };
      ends = record { from = λ e h. (join e h).from; to = λ e h. (join e h).to };
      entries = All-weaker Fine LegalEntry (λ e f. f.legal) p.tasks a.fine;
      distinct = a.distinct;
      room = room;
    }
