-- The step's bound is told, or none from firing 256 on, and one firing more is known.
use Rattle.std.proofs.Common.{refl, arith}
use Rattle.flow.specs.Nets.{net_of}
use Rattle.finish.proofs.Counts.{tells_late, knows_late}
use Rattle.finish.proofs.MoreFirings.{bounds_more, ended_more, tells}
use Rattle.finish.proofs.ledger.Ledger.bound.Goals as goal

pub returns-then-i-ge-MOST_FIRINGS-clause-books : goal.returns-then-i-ge-MOST_FIRINGS-clause-books
returns-then-i-ge-MOST_FIRINGS-clause-books c vm cost α fired h due =
    let n = net_of c.args.graph.now in
    let l = c.args.self.now in
    let many = c.if-i-ge-MOST_FIRINGS.true in
    (tells_late n cost α fired l h c.args.task vm many, knows_late n cost α fired l h c.args.task vm many)

pub returns-clause-books : goal.returns-clause-books
returns-clause-books c vm cost α fired h due =
    let n = net_of c.args.graph.now in
    let l = c.args.self.now in
    let s = c.step-bound in (
      tells n cost α fired l c.args.task _ _ s.result s.new.ready s.new.table h due vm refl c.if-i-ge-MOST_FIRINGS.false c.arrival-arrival.ensures s.ensures.stepped s.ensures.wrote (omega arith) _ c.told.ensures,
      record {
        few = h.few;
        waits = h.waits;
        arrivals = h.arrivals;
        arrived = h.arrived;
        ended = ended_more n cost α fired l c.args.task _ _ s.result s.new.ready s.new.table h due vm refl c.if-i-ge-MOST_FIRINGS.false c.arrival-arrival.ensures s.ensures.stepped (omega arith);
        bounds = bounds_more n cost α fired l c.args.task _ _ s.result s.new.ready s.new.table h due vm refl c.if-i-ge-MOST_FIRINGS.false c.arrival-arrival.ensures s.ensures.stepped;
      },
    )
