-- An edge marks a task, or leaves none to mark.
use Rattle.std.proofs.Common.{◌≡◌, ℕ, ◌<◌, false, length, get_or, sym, refl, ◌∙◌, subst, arith}
use Rattle.std.proofs.lemmas.Bool.{true≢false}
use Rattle.graph.specs.Edges.{edge_at}
use Rattle.graph.specs.Reached.{Marked}
use Rattle.graph.proofs.Marks.{grow_mark, grow_pass}
use Rattle.graph.proofs.edges.Edges.grow.Goals as goal
use Rattle.graph.proofs.edges.Edges.grow.Goals.{then-edge-eq0+then-marked-edge+then-not-marked-edge, else-edge-eq0, else-edge-eq0-via-then-edge-eq0+then-marked-edge+else-not-marked-edge, else-edge-eq0-via-then-edge-eq0+else-marked-edge, else-edge-eq0-via-else-edge-eq0}

pub loop-edge-preserved : goal.loop-edge-preserved
loop-edge-preserved c =
    let l = c.loop-edge in
    let es = c.args.self.now.list.now in
    let k : ℕ = l.edge-index in
    let there : k < length es = c.loop-edge-test.true in
    let ends : (edge_at es k).to < 16 = omega (arith, c.args.self.now.ends.to k there, c.args.self.now.few) in
    elim c.if-edge-eq0.branch [
      | then-edge-eq0+then-marked-edge+then-not-marked-edge w ↦
          rw (w.more-is, w.marked-is)
          (grow_mark es c.args.marked.now k l.more l.marked l.invariant (edge_at es k).from (edge_at es k).to
          (record { there = there; from = refl; to = refl; none = w.if-edge-eq0.true }) ends w.if-marked-edge.true w.if-not-marked-edge.true)
      | else-edge-eq0 w ↦
          rw (w.more-is, w.marked-is)
          (grow_pass es c.args.marked.now k l.more l.marked l.invariant
          (λ u x f m. elim w.else-edge-eq0.branch [
            | else-edge-eq0-via-then-edge-eq0+then-marked-edge+else-not-marked-edge w' ↦ subst (λ (y : ℕ). Marked l.marked y) f.to w'.if-not-marked-edge.false
            | else-edge-eq0-via-then-edge-eq0+else-marked-edge w' ↦
                absurd (true≢false (sym m ∙ subst (λ (y : ℕ). get_or l.marked y false ≡ false) f.from w'.if-marked-edge.false))
            | else-edge-eq0-via-else-edge-eq0 w' ↦ absurd (w'.if-edge-eq0.false f.none)
          ]))
    ]
