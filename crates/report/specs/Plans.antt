-- A sheet's page as the model sees it.
use Rattle.std.specs.Prelude.{ℕ, length}
use Rattle.servers.specs.Service.{Service}
use Rattle.graph.specs.Edges.{edge_at}
use Rattle.flow.specs.Nets.{Net}
use Rattle.figures.specs.declared.figures.Figures.{Figures}
use Rattle.figures.specs.AllFigures.{AllFigures}
use Rattle.sheets.specs.Pages.{Page}
use Rattle.sheets.specs.Offers.{offered}
use Rattle.sheets.specs.Legal.{entry_at}

-- Its tasks and edges,
abbrev pub page_net : Page → Net
page_net p = record {
  tasks = length p.tasks;
  edges = length p.edges;
  time = λ v. (entry_at p.tasks v).time;
  inlet = λ v. (entry_at p.tasks v).inlet;
  from = λ e. (edge_at p.edges e).from;
  to = λ e. (edge_at p.edges e).to;
  tokens = λ e. (edge_at p.edges e).tokens;
}

-- and what each task's server offers.
abbrev pub page_service : Page → ℕ → Service
page_service p v = offered (entry_at p.tasks v)

-- All figures of the page, at its goal.
abbrev pub FiguresOf : Page → Figures → Type 0
FiguresOf p f = AllFigures (page_net p) (page_service p) p.goal f
