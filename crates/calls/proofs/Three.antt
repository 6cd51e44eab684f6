-- Three fields are read one after another.
use Rattle.std.proofs.Common.{◌≡◌, ℕ, ◌<◌, true, eqb, List, [], ◌∷◌, length, sym, ap, ◌∙◌, arith}
use Rattle.std.proofs.lemmas.List.{nil_from_length}
use Rattle.std.proofs.lemmas.Bool.{and_parts, eqb-true}
use Rattle.lexer.specs.Text.{fields}
use Rattle.lexer.specs.Left.{fields_left, Took, NextBy, Next}
use Rattle.lexer.specs.declared.fields.Fields.{Fields}
use Rattle.lexer.specs.declared.token.Token.{Token}
use Rattle.lexer.specs.declared.token.Shape.{Shape}
use Rattle.lexer.specs.declared.token.Shape.TheVariants.{Word, Number, LineEnd}
use Rattle.cells.specs.Bytes.{filled, parted}
use Rattle.calls.specs.Fields.{Split}

-- a field is left, so that it is the next
took_by : (s : Shape) (f : Fields) (t : Token) (g : Fields) → 0 < length (fields_left f) → NextBy s f t g → Took f t g
took_by Word f t g some n = n
took_by Number f t g some n = n
took_by LineEnd f t g some n = absurd (omega (arith, ap length n.none))

took : (f : Fields) (t : Token) (g : Fields) → 0 < length (fields_left f) → Next f t g → Took f t g
took f t g = took_by t.shape f t g

pub three : (line : ℕ) (l : List ℕ) (f g h k : Fields) (a b c : Token) → parted 3 l ≡ true → fields_left f ≡ fields l → f.line ≡ line → f.field ≡ 0 → Next f a g → Next g b h → Next h c k → Split line l (record { word = a; whom = b; value = c })
three line l f g h k a b c whole left at none p q r =
    let many : length (fields l) ≡ 3 = eqb-true (length (fields l)) 3 (and_parts (filled (fields l)) (eqb (length (fields l)) 3) whole).1 in
    let x = took f a g (omega (arith, ap length left)) p in
    let y = took g b h (omega (arith, ap length left, ap length x.left)) q in
    let z = took h c k (omega (arith, ap length left, ap length x.left, ap length y.left)) r in
    let rest : fields_left k ≡ [] = nil_from_length (fields_left k) (omega (arith, ap length left, ap length x.left, ap length y.left, ap length z.left)) in
    record {
      whole = whole;
      are = sym left ∙ x.left ∙ ap (λ fs. a.part.now ∷ fs) (y.left ∙ ap (λ fs. b.part.now ∷ fs) (z.left ∙ ap (λ fs. c.part.now ∷ fs) rest));
      word = record { line_is = x.token_line ∙ at; field_is = omega (arith, x.field_is, x.token_field) };
      whom = record { line_is = y.token_line ∙ x.line_is ∙ at; field_is = omega (arith, x.field_is, y.field_is, y.token_field) };
      value = record { line_is = z.token_line ∙ y.line_is ∙ x.line_is ∙ at; field_is = omega (arith, x.field_is, y.field_is, z.field_is, z.token_field) };
    }
