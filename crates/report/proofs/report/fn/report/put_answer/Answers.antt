-- Which answer is put: the figures of a sheet, or the line of a fault.
use Rattle.std.proofs.Common.{◌++◌, Ok, Err, refl}
use Rattle.faults.specs.Faults.{fault_line}
use Rattle.lexer.specs.Text.{end}
use Rattle.sheets.specs.Reads.{page}
use Rattle.report.specs.Reports.{figures, refusal}
use Rattle.report.specs.Texts.{report_text}
use Rattle.report.proofs.Answered.{never_refused, figures_are}
use Rattle.report.proofs.One.{one_report}
use Rattle.report.proofs.report.fn.report.put_answer.Goals as goal

pub unwrap-figures-requires : goal.unwrap-figures-requires
unwrap-figures-requires c = never_refused _ c.in-Ok.ensures.reads.says.planned c.figures_of.result c.figures_of.ensures

pub put_report-requires : goal.put_report-requires
put_report-requires c =
    let p = c.in-Ok.ensures.reads.says.planned in
    record { planned = p; figures = figures_are _ p c.figures_of.result _ c.figures_of.ensures c.unwrap-figures.ensures }

pub returns-in-Ok : goal.returns-in-Ok
returns-in-Ok c =
    let p = page c.in-Ok.sheet in
    let f = c.unwrap-figures.result in
    let a = c.in-Ok.ensures.reads.says in
    record {
      puts = (report_text p f, figures p f a.written (figures_are _ a.planned c.figures_of.result f c.figures_of.ensures c.unwrap-figures.ensures) refl, c.put_report.ensures);
      one = one_report _ (Ok c.in-Ok.sheet) c.in-Ok.ensures.one c.in-Ok.ensures.reads;
    }

pub returns-in-Err : goal.returns-in-Err
returns-in-Err c =
    let f = c.in-Err.fault in
    record {
      puts = (fault_line f ++ end, refusal f c.in-Err.ensures.reads.says refl, c.put_fault.ensures);
      one = one_report _ (Err f) c.in-Err.ensures.one c.in-Err.ensures.reads;
    }
