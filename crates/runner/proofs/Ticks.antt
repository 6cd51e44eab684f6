-- A tick of a board.
use Rattle.std.proofs.Common.{◌≡◌, ℕ, ◌+◌, ◌-◌, ◌<◌, Bool, false, Decides, List, length, vec_len, vec_items, slice_index, sym, refl, ◌∙◌, ap, ap₂, arith, true≢false}
use Rattle.std.proofs.lemmas.Bool.Decides.{same_from_decides}
use Rattle.graph.specs.declared.graph.Graph.{Graph}
use Rattle.graph.specs.declared.parts.Edge.{Edge}
use Rattle.graph.specs.Edges.{edge_at}
use Rattle.flow.specs.Nets.{net_of}
use Rattle.runs.specs.States.{one, supplied, starts, ends, ticked}
use Rattle.runs.proofs.Moves.{supplied_decides}
use Rattle.runner.specs.declared.board.Board.{Board}
use Rattle.runner.specs.declared.task.TaskRecord.{TaskRecord}
use Rattle.runner.specs.Boards.{shown_of, shown, Alike}
use Rattle.runner.specs.Serves.{AllServed, Carried, Awaited, Holding, marked, starts_with, ends_with, left_with}

module _ (g : Graph) (b : Board) (v : ℕ) where
  -- Where each edge into a task holds a token, the arrival decides whether it is supplied.
  pub by_arrival : (r : Bool) → Holding (vec_items g.edges) b.held v → Decides r (Awaited (net_of g) (shown b) v) → r ≡ supplied (net_of g) (shown b) v
  by_arrival r holds comes =
      same_from_decides r (supplied (net_of g) (shown b) v)
      (λ q. record { inlet = comes.0 q; edges = λ e h t. holds e (omega (arith, h, g.edges.ok.0)) t }, λ u. comes.1 (u.inlet))
      (supplied_decides (net_of g) (shown b) v)

  -- Where one holds none, the task is not supplied.
  pub by_edges : (r : Bool) → Decides r (Holding (vec_items g.edges) b.held v) → r ≡ false → r ≡ supplied (net_of g) (shown b) v
  by_edges r holds lacks =
      same_from_decides r (supplied (net_of g) (shown b) v)
      (λ q. absurd (true≢false (sym q ∙ lacks)), λ u. holds.1 (λ e h t. u.edges e (omega (arith, h, g.edges.ok.0)) t))
      (supplied_decides (net_of g) (shown b) v)

module _ (g : Graph) (b : Board) (grants ready starting ending : List Bool) (ts : List TaskRecord)
    (judged : (v : ℕ) → v < vec_len g.tasks → marked ready v ≡ supplied (net_of g) (shown b) v)
    (served : AllServed b.tasks ready grants (vec_len g.tasks) (starting, ending) ts) where
  pub starts_are : (v : ℕ) → v < vec_len g.tasks → marked starting v ≡ starts (net_of g) (shown b) (marked grants) v
  starts_are v h = (served.served v h).starts ∙ ap (λ (r : Bool). starts_with ((shown b).to_go v) r (marked grants v)) (judged v h)

  pub ends_are : (v : ℕ) → v < vec_len g.tasks → marked ending v ≡ ends (net_of g) (shown b) (marked grants) v
  ends_are v h = (served.served v h).ends ∙ ap (λ (r : Bool). ends_with ((shown b).to_go v) ((shown b).need v) r (marked grants v)) (judged v h)

  pub ticked_alike :
      (es : List Edge) (held : List ℕ) → es ≡ vec_items g.edges → length es ≡ vec_len g.edges → Carried es starting ending b.held held →
      Alike (net_of g) (shown_of (b.clock + 1) ts held) (ticked (net_of g) (marked grants) (shown b))
  ticked_alike es held its many carried = record {
    clock = refl;
    held = λ e h.
        let to : (net_of g).to e < vec_len g.tasks = g.ends.to e (omega (arith, h, g.edges.ok.0)) in
        let from : (net_of g).from e < vec_len g.tasks = g.ends.from e (omega (arith, h, g.edges.ok.0)) in
        carried.carried e (omega (arith, many, h))
        ∙ ap (λ (fs : List Edge). slice_index b.held e - one (marked starting (edge_at fs e).to) + one (marked ending (edge_at fs e).from)) its
        ∙ ap₂ (λ (p q : Bool). slice_index b.held e - one p + one q) (starts_are _ to) (ends_are _ from);
    waiting = λ v h. (served.served v h).waiting ∙ ap (λ (r : Bool). (shown b).waiting v - one (starts_with ((shown b).to_go v) r (marked grants v))) (judged v h);
    to_go = λ v h. (served.served v h).to_go ∙ ap (λ (r : Bool). left_with ((shown b).to_go v) ((shown b).need v) r (marked grants v)) (judged v h);
    fired = λ v h. (served.served v h).fired ∙ ap (λ (r : Bool). (shown b).fired v + one (ends_with ((shown b).to_go v) ((shown b).need v) r (marked grants v))) (judged v h);
    need = λ v h. (served.served v h).need;
  }
