-- The finish rule's laws: sound nets, that the bound rises, and lead and pace in place of the worst wait.
use Rattle.std.proofs.Common.{◌≡◌, ℕ, zero, suc, ◌+◌, ◌*◌, ◌<◌, ◌≤◌, get_or, ap, mul-le-mul_right, zero-mul, arith}
use Rattle.servers.specs.Service.{Service, Laws}
use Rattle.flow.specs.Finish.{by_worst, by_lead_and_pace}
use Rattle.flow.specs.FinishLaws.{GraphsSound, BoundRises, LeadAndPaceLater}
use Rattle.flow.proofs.Bounds.{finish_rises, finish_dearer}

pub graphs_sound : GraphsSound
graphs_sound g = record {
  time_pos = λ v h. (g.ranges.times v (omega (arith, g.tasks.ok.0))).0;
  from_task = λ e h. g.ends.from e (omega (arith, g.edges.ok.0));
  to_task = λ e h. g.ends.to e (omega (arith, g.edges.ok.0));
  rank = λ v. get_or g.order.place v 0;
  forward = g.forward;
}

pub bound_rises : BoundRises
bound_rises n α service v laws i j s t l d d' = finish_rises n α (by_worst n service) (λ m k h. laws.worst_rises _ _ (mul-le-mul_right (n.time v) h)) l d d'

-- the pace of m times as much is at most m times the pace
pub paces : (s : Service) → Laws s → (t m : ℕ) → s.pace (m * t) ≤ m * s.pace t
paces s l t zero = omega (arith, ap s.pace (zero-mul t), l.pace_none, zero-mul (s.pace t))
paces s l t (suc m) =
    let e : suc m * t ≡ m * t + t = omega arith in
    omega (arith, ap s.pace e, l.pace_adds (m * t) t, paces s l t m)

pub lead_and_pace_later : LeadAndPaceLater
lead_and_pace_later n sound α service laws v i s t h d d' =
    finish_dearer n α (by_worst n service) (by_lead_and_pace n service) (λ u. u < n.tasks) sound.from_task
    (λ u m b. omega (arith, (laws u b).worst_most (m * n.time u), paces (service u) (laws u b) (n.time u) m))
    h d d'
