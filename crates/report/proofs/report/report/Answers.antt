-- What was put is the report, or was taken back.
use Rattle.texts.proofs.Undone.{appended}
use Rattle.report.proofs.report.report.Goals as goal

pub returns : goal.returns
returns c =
    let h = c.all_or_nothing.ensures in
    let put = h.1.met.0 in
    record {
      reported = (put.0, put.1, appended _ _ c.all_or_nothing.result h.1.shows h.1.leaves put.2 h.2);
      one = h.1.met.1;
    }
