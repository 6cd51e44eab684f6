-- The figures of the ring search, with what is worked out from them.
use Rattle.std.proofs.Common.{◌∙◌, get_or, w64, rules}
use Rattle.std.proofs.lemmas.Int.{to_z-of_z}
use Rattle.flow.specs.Nets.{net_of}
use Rattle.rings.proofs.Asked.{starts_like, graph_ends}
use Rattle.figures.proofs.Judged.{judged}
use Rattle.figures.proofs.figures.figures_of.Goals as goal

pub returns : goal.returns
returns g c =
    let graph = c.args.graph.now in
    let found = c.in_ok-found.found in
    let are = c.in_ok-found.ensures.1 in
    let service = g.R.Rack.service c.args.rack.now in (
      c.in_ok-found.ensures.0,
      record {
        cycle = are.cycle;
        margin = to_z-of_z w64 c.margin.result (search rules) ∙ c.margin.ensures;
        verdict = search rules;
        keeps = judged _ _ _ _ (search rules);
        starts = starts_like (net_of graph) service found.ratio.cycle found.ratio.parts (graph_ends graph) (λ v. get_or found.starts v 0) (λ v. get_or c.of_tasks.result v 0) c.of_tasks.ensures.tasks are.starts;
        no_start = c.of_tasks.ensures.rest;
        loads = c.loads.ensures.tasks;
        no_load = c.loads.ensures.rest;
        critical = c.critical.ensures service found.ratio.cycle found.ratio.parts are.ring;
      },
    )
