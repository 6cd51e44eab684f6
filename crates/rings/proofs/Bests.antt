-- The best ring: how it is followed by the next one, and the figures that it ends in.
use Rattle.std.proofs.Common.{ℕ, ◌*◌, ◌/◌, ◌<◌, ◌≤◌, List, get_or, ◌≡◌, mul_comm, div-lt_iff_lt-mul, arith}
use Rattle.servers.specs.Service.{Service}
use Rattle.flow.specs.Nets.{Net}
use Rattle.flow.specs.Rings.{pace_of, Starts}
use Rattle.rings.specs.declared.cycle.Best.{Best}
use Rattle.rings.specs.declared.cycle.Tried.TheVariants as tried
use Rattle.rings.specs.Cycles.{IsBest, Tells, AreFigures, hops_of}
use Rattle.rings.proofs.Growing.{grows, still_below}
use Rattle.rings.proofs.Walked.{cycle_of}

-- No link is above a ratio, nor above a greater one.
pub links_below : (n : Net) (service : ℕ → Service) (c p c' p' : ℕ) → c * p' < c' * p → ((v : ℕ) → v < n.tasks → p * pace_of n service v ≤ c) → (v : ℕ) → v < n.tasks → p' * pace_of n service v ≤ c'
links_below n service c p c' p' up links v h =
    let w : ℕ = pace_of n service v in
    omega (arith, still_below w c p c' p' (omega (arith, links v h, mul_comm w p)) up, mul_comm w p')

-- A ring above a ratio that no link is above is the best one then.
pub next_best : (n : Net) (service : ℕ → Service) (c p : ℕ) (next : Best) → ((v : ℕ) → v < n.tasks → p * pace_of n service v ≤ c) → Tells n service c p (tried.Slower next) → IsBest n service next
next_best n service c p next links (reaches, short, up) = record {
  ring = reaches;
  short = short;
  links = links_below n service c p next.ratio.cycle next.ratio.parts up links;
}

-- A whole number of parts above the best ratio's.
pub above_best : (c p q m c' p' : ℕ) → 1 ≤ p → c * q / p < m → p' * m ≡ c' * q → 1 ≤ p' → c * p' < c' * p
above_best c p q m c' p' some low same some' = grows c p m q c' p' ((div-lt_iff_lt-mul some).0 low) (omega (arith, mul_comm m p')) some'

-- Start figures at the best ratio make the figures.
pub figures_of_best : (n : Net) (service : ℕ → Service) (best : Best) (starts : List ℕ) → IsBest n service best → Starts n service best.ratio.cycle best.ratio.parts (λ v. get_or starts v 0) →
    AreFigures n service record { ratio = best.ratio; starts = starts; ring = best.ring }
figures_of_best n service best starts is told = record {
  cycle = cycle_of n service best.ratio.cycle best.ratio.parts (hops_of best.ring) (λ v. get_or starts v 0) best.ratio.parts_some best.ratio.lowest is.links is.ring told;
  ring = is.ring;
  short = is.short;
  starts = told;
}
