-- Each task has a walk of as many arcs as there were rounds, or keeps to the arcs that set out from it.
use Rattle.std.proofs.Common.{length}
use Rattle.walks.specs.Arcs.{net}
use Rattle.walks.proofs.Turns.{Held}
use Rattle.walks.proofs.Added.{Stands, Turn, state}
use Rattle.walks.proofs.arcs.Arcs.rounds.Given as goal

abbrev pub invariant-loop-round : goal.invariant-loop-round
invariant-loop-round l =
    Stands l.self.list.now l.self.bases.now l.bests
    × Held (net l.self.list.now l.self.bases.now) (state l.self.list.now l.self.bases.now l.bests) l.round (length l.self.list.now)

abbrev pub invariant-loop-e : goal.invariant-loop-e
invariant-loop-e l = Turn l.self.list.now l.self.bases.now l.bests l.round l.e
