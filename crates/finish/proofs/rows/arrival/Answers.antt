-- The row of an inlet is one of them, since its task counts too.
use Rattle.std.proofs.Common.{◌≡◌, ℕ, ◌+◌, ◌*◌, ◌<◌, ◌≤◌, Bool, true, cond, List, length, take, get_or, vec_items, subst, sym, ap, ◌∙◌, arith, mul-le-mul_right}
use Rattle.std.specs.List.{count_by}
use Rattle.std.proofs.lemmas.List.Sums.{count_by_more_yes, sum_by-take-le}
use Rattle.graph.specs.declared.parts.Task.{Task}
use Rattle.finish.specs.Table.{has_inlet}
use Rattle.finish.proofs.rows.arrival.Goals as goal

-- a row of n for each that p picks, of which i is one
row_in : (p : Task → Bool) (ts : List Task) (i n : ℕ) (t : Task) → i < length ts → p (get_or ts i t) ≡ true → count_by p (take i ts) * n + n ≤ count_by p ts * n
row_in p ts i n t there picked =
    let up : count_by p (take i ts) + 1 ≤ count_by p ts = omega (arith, count_by_more_yes p ts i t there picked, sum_by-take-le (λ (x : Task). cond (p x) 1 0) ts (i + 1)) in
    omega (arith, mul-le-mul_right n up)

pub bounds-times-inlets : goal.bounds-times-inlets
bounds-times-inlets c =
    let ts : List Task = vec_items c.args.graph.now.tasks in
    let t : Task = c.index.result.now in
    let picked : has_inlet (get_or ts c.args.v t) ≡ true = ap (λ (x : Task). x.inlet) (sym c.index.ensures) ∙ c.if-index.true in
    let before : c.inlets.result ≡ count_by has_inlet (take c.args.v ts) = subst (λ (xs : List Task). c.inlets.result ≡ count_by has_inlet (take c.args.v xs)) c.deref.ensures.value c.inlets.ensures in
    let row = row_in has_inlet ts c.args.v c.args.n t (omega (arith, c.requires.task, c.args.graph.now.tasks.ok.0)) picked in
    omega (arith, row, c.requires.timed.rows, c.requires.firing, ap (λ (m : ℕ). m * c.args.n) before)
