-- A graph as the model sees it, and the arrivals that were accepted at its inlets.
use Rattle.std.specs.Prelude.{◌≡◌, ℕ, ◌<◌, ◌≤◌, Bool, vec_items, vec_len}
use Rattle.graph.specs.declared.graph.Graph.{Graph}
use Rattle.graph.specs.Edges.{edge_at}
use Rattle.graph.specs.Legal.{task_at}

-- Tasks 0 to tasks - 1 and edges 0 to edges - 1. Firings and arrivals are numbered from 0.
pub record Net : Type 0 where
  pub tasks : ℕ
  pub edges : ℕ
  pub time : ℕ → ℕ
  pub inlet : ℕ → Bool
  pub from : ℕ → ℕ
  pub to : ℕ → ℕ
  pub tokens : ℕ → ℕ

-- Times are not 0, edges run between tasks, and no ring of edges is without tokens: the tasks have ranks that rise along every token-free edge.
pub record Sound (n : Net) : Type 0 where
  pub time_pos : (v : ℕ) → v < n.tasks → 1 ≤ n.time v
  pub from_task : (e : ℕ) → e < n.edges → n.from e < n.tasks
  pub to_task : (e : ℕ) → e < n.edges → n.to e < n.tasks
  pub rank : ℕ → ℕ
  pub forward : (e : ℕ) → e < n.edges → n.tokens e ≡ 0 → rank (n.from e) < rank (n.to e)

-- The net of a graph that was accepted.
abbrev pub net_of : Graph → Net
net_of g = record {
  tasks = vec_len g.tasks;
  edges = vec_len g.edges;
  time = λ v. (task_at (vec_items g.tasks) v).time;
  inlet = λ v. (task_at (vec_items g.tasks) v).inlet;
  from = λ e. (edge_at (vec_items g.edges) e).from;
  to = λ e. (edge_at (vec_items g.edges) e).to;
  tokens = λ e. (edge_at (vec_items g.edges) e).tokens;
}

-- `count v` arrivals were accepted at task v, the k-th at clock `stamp v k`.
pub record Arrivals : Type 0 where
  pub count : ℕ → ℕ
  pub stamp : ℕ → ℕ → ℕ
