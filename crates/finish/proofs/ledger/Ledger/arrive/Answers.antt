-- One arrival more is kept, or 256 are already.
use Rattle.std.proofs.Common.{ap, get_or, ℕ, arith}
use Rattle.finish.proofs.MoreArrivals.{bounds_with_one_more, counted_more, arrivals_more, knows_full}
use Rattle.finish.specs.Ledgers.{first}
use Rattle.finish.proofs.ledger.Ledger.arrive.Goals as goal

pub returns-then-task-ge-MOST_TASKS-clause-admits : goal.returns-then-task-ge-MOST_TASKS-clause-admits
returns-then-task-ge-MOST_TASKS-clause-admits c n cost α fired h = knows_full n cost α fired c.args.self.now c.args.clock c.args.task h (λ v vm e. absurd (omega (arith, h.few)))

pub returns-else-k-lt-MOST_FIRINGS-clause-admits : goal.returns-else-k-lt-MOST_FIRINGS-clause-admits
returns-else-k-lt-MOST_FIRINGS-clause-admits c n cost α fired h =
    knows_full n cost α fired c.args.self.now c.args.clock c.args.task h
    (λ v vm e. omega (arith, h.arrived v vm, ap (λ (u : ℕ). get_or c.args.self.now.arrived u 0) e, c.if-k-lt-MOST_FIRINGS.false))

pub returns-then-k-lt-MOST_FIRINGS-clause-admits : goal.returns-then-k-lt-MOST_FIRINGS-clause-admits
returns-then-k-lt-MOST_FIRINGS-clause-admits c n cost α fired h =
    let l = c.args.self.now in
    record {
      few = h.few;
      waits = h.waits;
      arrivals = arrivals_more n cost α fired l c.args.clock c.args.task h c.min.result (omega arith) (omega (arith, c.min.ensures)) c.if-k-lt-MOST_FIRINGS.true;
      arrived = counted_more n cost α fired l c.args.clock c.args.task h (omega arith) c.if-k-lt-MOST_FIRINGS.true;
      ended = h.ended;
      bounds = bounds_with_one_more α c.args.clock c.args.task n cost 256 (λ v. first (fired v)) l.ready l.bounds h.bounds;
    }
