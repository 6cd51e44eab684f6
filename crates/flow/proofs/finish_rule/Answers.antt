-- The laws of the finish rule, cited.
use Rattle.flow.proofs.Exists.{one_bound, bound_exists}
use Rattle.flow.proofs.FinishRule.{graphs_sound, bound_rises, lead_and_pace_later}
use Rattle.flow.proofs.finish_rule.Goals as goal

pub returns : goal.returns
returns c = record { sound = graphs_sound; one = one_bound; exists = bound_exists; rises = bound_rises; later = lead_and_pace_later }
