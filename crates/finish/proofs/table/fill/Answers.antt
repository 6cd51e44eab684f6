-- The memory begins with zeros, and so does the table.
use Rattle.std.proofs.Common.{◌*◌, ◌≤◌, vec_len, mul-le-mul, arith, rules}
use Rattle.finish.proofs.Zeros.{kept_zeros, zeros}
use Rattle.finish.proofs.table.fill.Goals as goal

pub worst_waits-requires-clause-kept : goal.worst_waits-requires-clause-kept
worst_waits-requires-clause-kept g c = kept_zeros 4096

pub fill_rows-requires-clause-shaped : goal.fill_rows-requires-clause-shaped
fill_rows-requires-clause-shaped g c =
    let few : vec_len c.args.graph.now.tasks ≤ 16 = omega (arith, c.args.graph.now.counts.few, c.args.graph.now.tasks.ok.0) in
    let size : vec_len c.args.graph.now.tasks * c.args.n ≤ 16 * 256 = mul-le-mul few c.requires.short in
    record {
      short = c.requires.short;
      few = few;
      wide_worst = omega (arith, c.worst_waits.auto.worst);
      wide_ready = omega arith;
      wide_table = omega (arith, c.fill.ensures.len, c.requires.wide);
      kept_worst = c.worst_waits.ensures.kept;
      kept_ready = kept_zeros 4096;
      kept_table = zeros _ _ (c.fill.ensures.after (λ y e. search rules));
    }
