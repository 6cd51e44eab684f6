-- The tables, one after another.
use Rattle.std.proofs.Common.{ℕ, ◌<◌, List, length, get_or, vec_len, sym, refl, subst}
use Rattle.texts.proofs.Chains.{next, stop, same_text}
use Rattle.report.proofs.Answered.{ring_within}
use Rattle.report.proofs.Printed.{printed}
use Rattle.report.proofs.tables.put_report.Goals as goal

pub returns-in_err-put_goal : goal.returns-in_err-put_goal
returns-in_err-put_goal c =
    let r = c.from_residual-in_err-put_goal.result in
    same_text _ _ r (printed c.args.sheet.now c.args.figures.now _ refl) (next _ _ r c.in_ok-put.ensures (stop _ _ r c.from_residual-in_err-put_goal.ensures.1 c.in_err-put_goal.ensures))

pub returns-in_err-put-2 : goal.returns-in_err-put-2
returns-in_err-put-2 c =
    let r = c.from_residual-in_err-put-2.result in
    same_text _ _ r (printed c.args.sheet.now c.args.figures.now _ refl) (next _ _ r c.in_ok-put.ensures (next _ _ r c.in_ok-put_goal.ensures (stop _ _ r c.from_residual-in_err-put-2.ensures.1 c.in_err-put-2.ensures)))

pub returns-in_err-put_tasks : goal.returns-in_err-put_tasks
returns-in_err-put_tasks c =
    let r = c.from_residual-in_err-put_tasks.result in
    same_text _ _ r (printed c.args.sheet.now c.args.figures.now _ refl) (next _ _ r c.in_ok-put.ensures (next _ _ r c.in_ok-put_goal.ensures (next _ _ r c.in_ok-put-2.ensures (stop _ _ r c.from_residual-in_err-put_tasks.ensures.1 c.in_err-put_tasks.ensures))))

pub returns-in_err-put-3 : goal.returns-in_err-put-3
returns-in_err-put-3 c =
    let r = c.from_residual-in_err-put-3.result in
    same_text _ _ r (printed c.args.sheet.now c.args.figures.now _ refl) (next _ _ r c.in_ok-put.ensures (next _ _ r c.in_ok-put_goal.ensures (next _ _ r c.in_ok-put-2.ensures (next _ _ r c.in_ok-put_tasks.ensures (stop _ _ r c.from_residual-in_err-put-3.ensures.1 c.in_err-put-3.ensures)))))

pub put_ring-requires : goal.put_ring-requires
put_ring-requires c =
    subst (λ (ts : List ℕ). (k : ℕ) → k < length ts → get_or ts k 0 < vec_len c.args.sheet.now.tasks) (sym c.as_slice.ensures) (ring_within c.args.sheet.now c.args.figures.now c.requires.planned c.requires.figures)

pub returns : goal.returns
returns c =
    let r = c.put_ring.result in
    same_text _ _ r (printed c.args.sheet.now c.args.figures.now _ c.as_slice.ensures) (next _ _ r c.in_ok-put.ensures (next _ _ r c.in_ok-put_goal.ensures (next _ _ r c.in_ok-put-2.ensures (next _ _ r c.in_ok-put_tasks.ensures (next _ _ r c.in_ok-put-3.ensures c.put_ring.ensures)))))
