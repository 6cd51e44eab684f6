-- One arc more of the walk, and the last one.
use Rattle.std.proofs.Common.{◌≡◌, ℕ, ◌+◌, ◌<◌, List, [], ◌∷◌, ◌++◌, length, length-set, take, drop, get_or, sym, ap, ◌∙◌, rules, arith}
use Rattle.std.proofs.lemmas.List.{take_more_set}
use Rattle.walks.proofs.Made.{part_more}
use Rattle.walks.proofs.search.ring.Goals as goal

pub loop-k-preserved : goal.loop-k-preserved
loop-k-preserved c =
    let xs : List ℕ = c.args.best.now.walk in
    let k : ℕ = c.loop-k.k in
    let room : length xs ≡ 16 = search rules in
    let own : length c.loop-k.ring.arcs ≡ 16 = c.loop-k.invariant.0 in
    let sum : c.args.place + c.loop-k.ring.count ≡ k = c.loop-k.invariant.1 in
    let below : k < c.args.best.now.count = c.loop-k-test.true in (
      length-set c.loop-k.ring.arcs c.loop-k.ring.count (get_or xs k 0) ∙ own,
      omega arith,
      take_more_set c.loop-k.ring.arcs c.loop-k.ring.count (get_or xs k 0) (omega (arith, c.requires.count)) ∙ ap (λ (l : List ℕ). l ++ get_or xs k 0 ∷ []) c.loop-k.invariant.2
          ∙ sym (part_more xs c.args.place k (omega arith) (omega (arith, c.requires.count))),
    )

pub returns-clause-arcs : goal.returns-clause-arcs
returns-clause-arcs c =
    let xs : List ℕ = c.args.best.now.walk in
    let e : ℕ = c.args.e in
    let own : length c.loop-k.ring.arcs ≡ 16 = c.loop-k.invariant.0 in
    let sum : c.args.place + c.loop-k.ring.count ≡ c.loop-k.k = c.loop-k.invariant.1 in
    let end : c.loop-k.k ≡ c.args.best.now.count = omega (arith, c.requires.place) in
    take_more_set c.loop-k.ring.arcs c.loop-k.ring.count e (omega (arith, c.requires.count))
    ∙ ap (λ (l : List ℕ). l ++ e ∷ []) (c.loop-k.invariant.2 ∙ ap (λ (k : ℕ). drop c.args.place (take k xs)) end)
