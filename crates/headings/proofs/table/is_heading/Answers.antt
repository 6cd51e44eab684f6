-- A line in order is its fields.
use Rattle.std.proofs.Common.{◌≡◌, map, refl, sym, ap, ◌∙◌}
use Rattle.lexer.specs.Text.{fields, line_of}
use Rattle.cells.proofs.Parts.{line_back}
use Rattle.headings.specs.Columns.{column_word}
use Rattle.headings.specs.Tables.{table_columns, heading}
use Rattle.headings.specs.declared.table.Table.{Table}
use Rattle.headings.specs.declared.table.Table.TheVariants as table
use Rattle.headings.proofs.table.is_heading.Goals as goal

heading_fields : (t : Table) → fields (heading t) ≡ map column_word (table_columns t)
heading_fields table.Goal = refl
heading_fields table.Tasks = refl
heading_fields table.Edges = refl

pub returns : goal.returns
returns c =
    let named = ap (map column_word) c.columns.ensures in
    λ well. (λ h. line_back _ well ∙ ap line_of (c.names_columns.ensures.0 h ∙ named), λ e. c.names_columns.ensures.1 (ap fields e ∙ heading_fields _ ∙ sym named))
