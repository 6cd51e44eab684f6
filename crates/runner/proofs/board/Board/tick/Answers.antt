-- The board ticks as its state does.
use Rattle.std.proofs.Common.{ℕ, subst, vec_len, vec_items, refl, arith}
use Rattle.runner.specs.Serves.{AllServed}
use Rattle.runner.proofs.Ticks.{ends_are, ticked_alike}
use Rattle.runner.proofs.board.Board.tick.Goals as goal

pub returns-clause-moves : goal.returns-clause-moves
returns-clause-moves c =
    let g = c.args.graph.now in
    let b = c.args.self.now in
    let s = c.serve_all in
    let all : AllServed b.tasks c.ready-ready.result c.args.grants.now (vec_len g.tasks) s.result s.new.tasks =
    subst (λ (n : ℕ). AllServed b.tasks c.ready-ready.result c.args.grants.now n s.result s.new.tasks) c.len.ensures s.ensures in
    ticked_alike g b c.args.grants.now c.ready-ready.result s.result.0 s.result.1 s.new.tasks c.ready-ready.ensures all (vec_items g.edges) c.move_tokens.new.held refl (omega (arith, g.edges.ok.0)) c.move_tokens.ensures.carried

pub returns-clause-ending : goal.returns-clause-ending
returns-clause-ending c =
    let g = c.args.graph.now in
    let b = c.args.self.now in
    let s = c.serve_all in
    let all : AllServed b.tasks c.ready-ready.result c.args.grants.now (vec_len g.tasks) s.result s.new.tasks =
    subst (λ (n : ℕ). AllServed b.tasks c.ready-ready.result c.args.grants.now n s.result s.new.tasks) c.len.ensures s.ensures in
    ends_are g b c.args.grants.now c.ready-ready.result s.result.0 s.result.1 s.new.tasks c.ready-ready.ensures all
