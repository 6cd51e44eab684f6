-- The fields of a call's line, each at its place.
use Rattle.std.specs.Prelude.{◌≡◌, ℕ, true, List, [], ◌∷◌}
use Rattle.lexer.specs.Text.{fields}
use Rattle.cells.specs.Bytes.{parted}
use Rattle.lexer.specs.declared.token.Token.{Token}
use Rattle.calls.specs.declared.fields.CallFields.{CallFields}

-- The token has this part of a line, at this field.
pub record At (line on : ℕ) (t : Token) : Type 0 where
  pub line_is : t.line ≡ line
  pub field_is : t.field ≡ on

-- The line has these three fields, with one space between them.
pub record Split (line : ℕ) (l : List ℕ) (f : CallFields) : Type 0 where
  pub whole : parted 3 l ≡ true
  pub are : fields l ≡ f.word.part.now ∷ f.whom.part.now ∷ f.value.part.now ∷ []
  pub word : At line 1 f.word
  pub whom : At line 2 f.whom
  pub value : At line 3 f.value
