-- The sample's cycle over parts and start figures.
use Rattle.std.proofs.Common.{◌≡◌, ℕ, zero, suc, ◌+◌, ◌*◌, ◌<◌, ◌≤◌, [], ◌∷◌, get_or, arith}
use Rattle.servers.specs.Service.{Service}
use Rattle.flow.specs.Rings.{edge, pace_of, lead_and_pace_of, on, end, Ring, Enough}
use Rattle.flow.proofs.Potential.{potential}
use Rattle.flow.proofs.RingFigures.{lowest_one}
use Rattle.runs.specs.Sample.{sample_net, sample_start, SampleFigures}

module _ (service : ℕ → Service) (lead_0 : (service 0).lead ≡ 6) (pace_0 : (service 0).pace 6 ≡ 15) (lead_1 : (service 1).lead ≡ 0) (pace_1 : (service 1).pace 9 ≡ 9) where
  first : lead_and_pace_of sample_net service 0 ≡ 21
  first = omega (arith, lead_0, pace_0)

  second : lead_and_pace_of sample_net service 1 ≡ 9
  second = omega (arith, lead_1, pace_1)

  own : (v : ℕ) → v < 2 → 1 * lead_and_pace_of sample_net service v ≤ sample_start v
  own zero h = omega (arith, first)
  own (suc zero) h = omega (arith, second)
  own (suc (suc v)) h = absurd (omega arith)

  edges : (e : ℕ) → e < 2 → sample_start (sample_net.from e) + 1 * lead_and_pace_of sample_net service (sample_net.to e) ≤ sample_start (sample_net.to e) + 30 * sample_net.tokens e
  edges zero h = omega (arith, second)
  edges (suc zero) h = omega (arith, first)
  edges (suc (suc e)) h = absurd (omega arith)

  links : (v : ℕ) → v < 2 → 1 * pace_of sample_net service v ≤ 30
  links zero h = omega (arith, pace_0)
  links (suc zero) h = omega (arith, pace_1)
  links (suc (suc v)) h = absurd (omega arith)

  enough : Enough sample_net service 30 1 sample_start
  enough = record { own = own; edges = edges }

  -- there and back
  ring : Ring sample_net (edge 0 ∷ edge 1 ∷ [])
  ring = record { at = 0; closed = on (edge 0) (omega arith) (end (edge 1) (omega arith)); once = once }
    where
      once : (i j : ℕ) → i < j → j < 2 → ◌≡◌ {A = ℕ} (get_or (1 ∷ 0 ∷ []) i 0) (get_or (1 ∷ 0 ∷ []) j 0) → ⊥
      once zero zero a b e = omega arith
      once zero (suc zero) a b e = omega arith
      once zero (suc (suc j)) a b e = omega arith
      once (suc i) zero a b e = omega arith
      once (suc i) (suc zero) a b e = omega arith
      once (suc i) (suc (suc j)) a b e = omega arith

  least : (other : ℕ → ℕ) → Enough sample_net service 30 1 other → (v : ℕ) → v < 2 → sample_start v ≤ other v
  least other k zero h = omega (arith, k.own 0 (omega arith), first)
  least other k (suc zero) h = omega (arith, k.own 0 (omega arith), k.edges 0 (omega arith), first, second)
  least other k (suc (suc v)) h = absurd (omega arith)

  pub sample_figures : SampleFigures service
  sample_figures = record {
    cycle = record {
      some = omega arith;
      largest = potential sample_net service 30 1 sample_start enough links;
      met = (edge 0 ∷ edge 1 ∷ [], ring, omega (arith, first, second));
      lowest = λ d m k a b. lowest_one d k b;
    };
    starts = record { enough = enough; least = least };
  }
