-- The first field, the others behind their spaces, and the line end.
use Rattle.std.proofs.Common.{◌≡◌, List, [], ◌∷◌, ◌++◌, map, refl, ap, ◌∙◌, append_assoc, rules}
use Rattle.std.specs.List.{flat_map}
use Rattle.lexer.specs.Text.{end, line_of}
use Rattle.texts.specs.declared.line.Cell.{Cell}
use Rattle.texts.specs.Cells.{cell_text}
use Rattle.texts.proofs.Chains.{next, stop, same_text}
use Rattle.texts.proofs.line.put_line.Goals as goal

line_is : (c : Cell) (cs : List Cell) → cell_text c ++ (flat_map (λ x. 32 ∷ cell_text x) cs ++ end) ≡ line_of (map cell_text (c ∷ cs))
line_is c [] = refl
line_is c (d ∷ ds) =
    ap (λ l. cell_text c ++ (32 ∷ l)) (append_assoc (cell_text d) (flat_map (λ x. 32 ∷ cell_text x) ds) end ∙ line_is d ds)

pub returns-in_err-put_cell : goal.returns-in_err-put_cell
returns-in_err-put_cell c =
    let r = c.from_residual.result in
    rw c.in-Some.ensures.cases.0 (same_text _ _ r (line_is c.in-Some.first.now c.in-Some.rest.now) (stop _ _ r c.from_residual.ensures.1 c.in_err-put_cell.ensures))

pub returns-in_err-put_each : goal.returns-in_err-put_each
returns-in_err-put_each c =
    let r = c.from_residual-in_err-put_each.result in
    rw c.in-Some.ensures.cases.0 (same_text _ _ r (line_is c.in-Some.first.now c.in-Some.rest.now) (next _ _ r c.in_ok-put_cell.ensures (stop _ _ r c.from_residual-in_err-put_each.ensures.1 (c.in_err-put_each.ensures (λ x. 32 ∷ cell_text x) (λ v w x a h. search rules)))))

pub returns : goal.returns
returns c =
    let r = c.put-2.result in
    rw c.in-Some.ensures.cases.0 (same_text _ _ r (line_is c.in-Some.first.now c.in-Some.rest.now) (next _ _ r c.in_ok-put_cell.ensures (next _ _ r (c.in_ok-put_each.ensures (λ x. 32 ∷ cell_text x) (λ v w x a h. search rules)) c.put-2.ensures)))
