-- The figures of a slice: s of every p ticks.
use Rattle.std.specs.Prelude.{ℕ, ◌+◌, ◌-◌, ◌*◌, ◌/◌, cond, ◌==◌, nat_lt}

-- a / b, rounded up
abbrev pub up : ℕ → ℕ → ℕ
up a b = (a + (b - 1)) / b

-- With the first s ticks of each p granted: the ticks until the n-th grant from the start of a period.
abbrev pub fresh : ℕ → ℕ → ℕ → ℕ
fresh p s n = n + (p - s) * (up n s - 1)

-- The ticks until the n-th grant from position at: within this period's slice, or in the periods after it.
abbrev pub wait_at : ℕ → ℕ → ℕ → ℕ → ℕ
wait_at p s at n = cond (n == 0) 0 (cond (nat_lt (s - at) n) ((p - at) + fresh p s (n - (s - at))) n)

-- The worst wait: n, and a gap before each slice that is begun.
abbrev pub worst_of : ℕ → ℕ → ℕ → ℕ
worst_of p s n = n + (p - s) * up n s

abbrev pub pace_of : ℕ → ℕ → ℕ → ℕ
pace_of p s n = up (n * p) s
