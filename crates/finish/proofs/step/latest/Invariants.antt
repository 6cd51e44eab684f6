-- The largest over the firings so far.
use Rattle.std.proofs.Common.{◌+◌, ◌-◌, get_or}
use Rattle.finish.specs.Filling.{IsLargest}
use Rattle.finish.proofs.step.latest.Given as goal

abbrev pub invariant-loop-k : goal.invariant-loop-k
invariant-loop-k l = IsLargest (λ k. Unit {0}) (λ k. get_or l.ready (l.at + k) 0 + get_or l.worst (l.at + (l.i - k)) 0) 0 l.k l.latest
