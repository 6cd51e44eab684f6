-- The memory begins with zeros.
use Rattle.finish.proofs.Zeros.{kept_zeros}
use Rattle.finish.proofs.ledger.Ledger.new.Goals as goal

pub worst_waits-requires-clause-kept : goal.worst_waits-requires-clause-kept
worst_waits-requires-clause-kept g c = kept_zeros 4096

pub invariant_of-result : goal.invariant_of-result
invariant_of-result g c = record {
  arrivals_kept = (kept_zeros 4096).at;
  worst_kept = c.worst_waits.ensures.kept.at;
  ready_kept = (kept_zeros 4096).at;
  bounds_kept = (kept_zeros 4096).at;
}
