-- As many fields as columns, each the word of its column: the pairs first, and then that no field is left.
use Rattle.std.proofs.Common.{◌≡◌, rules, tests, arith, List, length, map, ap, length-take, ◌+◌, ◌∙◌}
use Rattle.std.proofs.lemmas.Bool.Decides.{nat_tests}
use Rattle.std.proofs.lemmas.List.{length-map}
use Rattle.std.proofs.iter.Yields.{fronts}
use Rattle.std.specs.Slice.Iter.{iter_rest}
use Rattle.std.specs.declared.slice.Iter.{Iter}
use Rattle.std.specs.Iterator.Adapters.{zip_second}
use Rattle.headings.specs.declared.column.Column.{Column}
use Rattle.std.proofs.lemmas.Iterator.{YieldsList, YieldsList-from_zip, YieldsList-from_take, same_from_all}
use Rattle.std.proofs.lemmas.Iterator.Consumers.{YieldsList-from_first, YieldsList-from_shown, count_from_yields_List}
use Rattle.lexer.specs.Text.{fields}
use Rattle.headings.specs.Columns.{column_word}
use Rattle.headings.proofs.table.names_columns.Goals as goal

-- the columns, one after another, by their words
words : (s : Iter Column) (cs : List Column) → iter_rest s ≡ cs → YieldsList fronts (λ y. column_word y.now) s (map column_word cs)
words s cs e = rw (← e) (YieldsList-from_shown fronts (λ y. column_word y.now) (λ s. map column_word (iter_rest s)) (λ s t k. length-map (iter_rest s) column_word ∙ k.0) (λ s x t k. ap (map column_word) k) s)

pub returns-else-all : goal.returns-else-all
returns-else-all c =
    let chain = YieldsList-from_zip {s = c.zip.result} (YieldsList-from_first (λ x. x.now) (λ p. p) (fields c.args.line.now) (cc)) (words (zip_second c.zip.result) c.args.columns.now (cc)) in
    (λ t. absurd (grind (arith, nat_tests)), λ e. (same_from_all c.all.new.self _ c.all.result (fields c.args.line.now) (map column_word c.args.columns.now) c.all.ensures.ran chain (ap length e) (λ x q k. search (rules, tests)) (λ x q k. search (rules, tests))).1 e)

pub returns-then-all : goal.returns-then-all
returns-then-all c =
    let chain = YieldsList-from_zip {s = c.zip.result} (YieldsList-from_first (λ x. x.now) (λ p. p) (fields c.args.line.now) (cc)) (words (zip_second c.zip.result) c.args.columns.now (cc)) in
    let rest = YieldsList-from_take {s = c.take.result} (length c.args.columns.now + 1) (YieldsList-from_first (λ x. x.now) (λ p. p) (fields c.args.line.now) (cc)) c.take.ensures.count in
    let many = count_from_yields_List c.take.result c.count.result c.count.ensures.ran rest in
    let few = length-take (length c.args.columns.now + 1) (fields c.args.line.now) in
    let wide = length-map c.args.columns.now column_word in (
      λ t.
          let same : length (fields c.args.line.now) ≡ length (map column_word c.args.columns.now) = grind (arith, nat_tests) in
          (same_from_all c.all.new.self _ c.all.result (fields c.args.line.now) (map column_word c.args.columns.now) c.all.ensures.ran chain same (λ x q k. search (rules, tests)) (λ x q k. search (rules, tests))).0 c.if-all.true,
      λ e. let same = ap length e in grind (arith, nat_tests),
    )
