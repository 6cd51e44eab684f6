-- The tables, one after another.
use Rattle.std.proofs.Common.{map, refl, rules}
use Rattle.sheets.specs.Pages.{entry_line, edge_line, names}
use Rattle.sheets.specs.Reads.{entry}
use Rattle.texts.proofs.Chains.{next, stop, same_text}
use Rattle.writer.proofs.Written.{page_text}
use Rattle.writer.proofs.tables.put_sheet.Goals as goal

pub returns-in_err-put_each : goal.returns-in_err-put_each
returns-in_err-put_each c =
    let r = c.from_residual-in_err-put_each.result in
    same_text _ _ r (page_text c.args.sheet.now _ _ c.as_slice-tasks.ensures.value refl) (next _ _ r c.in_ok-put.ensures (next _ _ r c.in_ok-put_line.ensures (next _ _ r c.in_ok-put-2.ensures (stop _ _ r c.from_residual-in_err-put_each.ensures.1 (c.in_err-put_each.ensures (λ t. entry_line (entry t)) (λ v w x a h. search rules))))))

pub returns-in_err-put-3 : goal.returns-in_err-put-3
returns-in_err-put-3 c =
    let r = c.from_residual-in_err-put-3.result in
    same_text _ _ r (page_text c.args.sheet.now _ _ c.as_slice-tasks.ensures.value refl) (next _ _ r c.in_ok-put.ensures (next _ _ r c.in_ok-put_line.ensures (next _ _ r c.in_ok-put-2.ensures (next _ _ r (c.in_ok-put_each.ensures (λ t. entry_line (entry t)) (λ v w x a h. search rules)) (stop _ _ r c.from_residual-in_err-put-3.ensures.1 c.in_err-put-3.ensures)))))

pub returns : goal.returns
returns c =
    let r = c.put_each-2.result in
    let ns = names (map entry c.as_slice-tasks.result.now) in
    same_text _ _ r (page_text c.args.sheet.now _ _ c.as_slice-tasks.ensures.value c.deref.ensures.value) (next _ _ r c.in_ok-put.ensures (next _ _ r c.in_ok-put_line.ensures (next _ _ r c.in_ok-put-2.ensures (next _ _ r (c.in_ok-put_each.ensures (λ t. entry_line (entry t)) (λ v w x a h. search rules)) (next _ _ r c.in_ok-put-3.ensures (c.put_each-2.ensures (edge_line ns) (λ v w x a h. search rules)))))))
