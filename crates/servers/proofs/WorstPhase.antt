-- Where the waits of a fixed slice are the worst.
use Rattle.std.proofs.Common.{◌≡◌, ℕ, ◌-◌, ◌*◌, ◌<◌, ◌≤◌, ap, ◌∙◌, zero-mul, arith}
use Rattle.servers.specs.Slices.{up, wait_at, worst_of}
use Rattle.servers.specs.SliceLaws.{worst_none, wait_whole, fresh_gap}

module _ (p s : ℕ) (some : 0 < s) (fits : s ≤ p) where
  -- at the end of the slice the wait is the worst
  pub worst_after : s < p → (n : ℕ) → wait_at p s s n ≡ worst_of p s n
  worst_after h n = grind (arith, fresh_gap p s some fits n, worst_none p s some fits)

  -- where the slice is the period, so is any
  pub worst_whole : s ≡ p → (n : ℕ) → wait_at p s 0 n ≡ worst_of p s n
  worst_whole e n =
      let d : p - s ≡ 0 = omega arith in
      let z : (p - s) * up n s ≡ 0 = ap (λ k. k * up n s) d ∙ zero-mul (up n s) in
      omega (arith, wait_whole p s some fits e 0 (omega arith) n)
