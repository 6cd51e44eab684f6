-- The first of the three fields that breaks, or the edge that they say.
use Rattle.std.proofs.Common.{[], ◌∷◌, rules}
use Rattle.headings.specs.declared.column.Column.TheVariants.{From, To, Tokens}
use Rattle.headings.specs.declared.table.Table.TheVariants.{Edges}
use Rattle.sheet_lines.proofs.Columns.{begun, past, stopped}
use Rattle.sheet_lines.proofs.Handed.{handed_on}
use Rattle.sheet_lines.proofs.edge.ends_in.Goals as goal

pub returns-in_err-from : goal.returns-in_err-from
returns-in_err-from c =
    let none = begun c.args.above.now Edges c.args.line.number c.args.line.text.now c.in_ok-values.values.fields (search rules) c.in_ok-values.ensures.1 in
    let r = c.from_residual-in_err-from in
    handed_on r.result _ _ _ r.ensures.1 (stopped (From ∷ []) (To ∷ Tokens ∷ []) none c.in_err-from.ensures)

pub returns-in_err-to : goal.returns-in_err-to
returns-in_err-to c =
    let none = begun c.args.above.now Edges c.args.line.number c.args.line.text.now c.in_ok-values.values.fields (search rules) c.in_ok-values.ensures.1 in
    let one = past (From ∷ []) (To ∷ Tokens ∷ []) none c.in_ok-from.ensures in
    let r = c.from_residual-in_err-to in
    handed_on r.result _ _ _ r.ensures.1 (stopped (To ∷ []) (Tokens ∷ []) one c.in_err-to.ensures)

pub returns-in_err-tokens : goal.returns-in_err-tokens
returns-in_err-tokens c =
    let none = begun c.args.above.now Edges c.args.line.number c.args.line.text.now c.in_ok-values.values.fields (search rules) c.in_ok-values.ensures.1 in
    let one = past (From ∷ []) (To ∷ Tokens ∷ []) none c.in_ok-from.ensures in
    let two = past (To ∷ []) (Tokens ∷ []) one c.in_ok-to.ensures in
    let r = c.from_residual-in_err-tokens in
    handed_on r.result _ _ _ r.ensures.1 (stopped (Tokens ∷ []) [] two c.in_err-tokens.ensures)
