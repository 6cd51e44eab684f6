-- An edge feeds the firing, and its bound is read, or it does not.
use Rattle.std.proofs.Common.{◌≡◌, ℕ, ◌-◌, ◌<◌, vec_items, vec_len, sym, ap, ◌∙◌, arith}
use Rattle.graph.specs.declared.parts.Edge.{Edge}
use Rattle.graph.specs.Edges.{edge_at}
use Rattle.finish.specs.Filling.{entry}
use Rattle.finish.proofs.Steps.{largest_skip, largest_take}
use Rattle.finish.proofs.step.Waits.ready_at.Goals as goal
use Rattle.finish.proofs.step.Waits.ready_at.Goals.{then-edge-v+then-tokens-i, else-edge-v, else-edge-v-via-then-edge-v+else-tokens-i, else-edge-v-via-else-edge-v}

pub loop-edge-preserved : goal.loop-edge-preserved
loop-edge-preserved c =
    let e : ℕ = c.loop-edge.edge-index in
    let es = vec_items c.args.self.now.graph.now.edges in
    let there : e < vec_len c.args.self.now.graph.now.edges = omega (arith, c.loop-edge-test.true, c.deref-edge-items.ensures.len) in
    let same : edge_at c.deref-edge-items.result.now e ≡ edge_at es e = ap (λ xs. edge_at xs e) c.deref-edge-items.ensures.value in
    let same_to = ap (λ (x : Edge). x.to) same in
    let same_tokens = ap (λ (x : Edge). x.tokens) same in
    let same_entry = ap (λ (x : Edge). entry c.args.table.now c.args.self.now.n x.from (c.args.i - x.tokens)) same in
    elim c.if-edge-v.branch [
      | then-edge-v+then-tokens-i w ↦
          largest_take _ _ _ e c.loop-edge.ready _ c.loop-edge.invariant (record { edge = there; into = sym same_to ∙ w.if-edge-v.true; past = omega (arith, w.if-tokens-i.true, same_tokens) }) (omega (arith, w.ready-is, w.max-ready.ensures, same_entry))
      | else-edge-v w ↦
          largest_skip _ _ _ e c.loop-edge.ready _ c.loop-edge.invariant w.ready-is
          (λ p. elim w.else-edge-v.branch [
            | else-edge-v-via-then-edge-v+else-tokens-i w' ↦ omega (arith, w'.if-tokens-i.false, p.past, same_tokens)
            | else-edge-v-via-else-edge-v w' ↦ w'.if-edge-v.false (same_to ∙ p.into)
          ])
    ]
