-- The marks that a board keeps of the tasks whose edges in all hold a token.
use Rattle.std.specs.Prelude.{◌≡◌, vec_items}
use Rattle.graph.specs.declared.graph.Graph.{Graph}
use Rattle.runner.specs.declared.board.Board.{Board}
use Rattle.runner.specs.Serves.{Fed}

-- They are right by the edges of the graph.
abbrev pub Marked : Graph → Board → Type 0
Marked g b = Fed (vec_items g.edges) b.held b.fed

-- Tokens and marks are as they were.
abbrev pub KeepsMarks : Board → Board → Type 0
KeepsMarks a b = (b.held ≡ a.held) × (b.fed ≡ a.fed)
