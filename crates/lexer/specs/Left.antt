-- What is left to read, and what is read next.
use Rattle.std.specs.Prelude.{◌≡◌, ℕ, ◌+◌, ◌-◌, ◌^◌, min, List, [], ◌∷◌}
use Rattle.lexer.specs.declared.token.Token.{Token}
use Rattle.lexer.specs.declared.token.Shape.{Shape}
use Rattle.lexer.specs.declared.token.Shape.TheVariants.{Word, Number, LineEnd}
use Rattle.lexer.specs.declared.fields.Fields.{Fields}
use Rattle.lexer.specs.Shapes.{shape_of}

-- A count that stays at the highest u32.
abbrev pub counted : ℕ → ℕ
counted n = min n (2 ^ 32 - 1)

abbrev pub fields_left : Fields → List (List ℕ)
fields_left f = f.parts

-- The token is the first field that is left, at its place.
pub record Took (f : Fields) (t : Token) (g : Fields) : Type 0 where
  pub left : fields_left f ≡ t.part.now ∷ fields_left g
  pub shape : t.shape ≡ shape_of t.part.now
  pub line_is : g.line ≡ f.line
  pub token_line : t.line ≡ f.line
  pub field_is : g.field ≡ counted (f.field + 1)
  pub token_field : t.field ≡ g.field

-- No field is left: the token is the line's end, and nothing moves.
pub record Ended (f : Fields) (t : Token) (g : Fields) : Type 0 where
  pub none : fields_left f ≡ []
  pub part : t.part.now ≡ []
  pub token_line : t.line ≡ f.line
  pub token_field : t.field ≡ 0
  pub same : g ≡ f

-- What a token of a shape says.
abbrev pub NextBy : Shape → Fields → Token → Fields → Type 0
NextBy Word f t g = Took f t g
NextBy Number f t g = Took f t g
NextBy LineEnd f t g = Ended f t g

abbrev pub Next : Fields → Token → Fields → Type 0
Next f t g = NextBy t.shape f t g
