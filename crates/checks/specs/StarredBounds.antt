-- The worked finish bounds of one task alone, each as it is computed by the definitions and as it is expected.
use Rattle.std.specs.Prelude.{ℕ, ◌+◌, ◌*◌, List, [], ◌∷◌, ◌++◌}
use Rattle.servers.specs.Service.{Service}
use Rattle.servers.specs.FixedService.{slice_service}
use Rattle.flow.specs.Lone.{lone_bound}
use Rattle.checks.specs.Starred.{fixed_10_4, starred}

-- What m firings of time 6 in a row take at most on fixed_10_4: by the worst wait,
abbrev pub worst_of_6 : ℕ → ℕ
worst_of_6 m = fixed_10_4.worst (m * 6)

-- and by lead and pace
abbrev pub lead_and_pace_of_6 : ℕ → ℕ
lead_and_pace_of_6 m = fixed_10_4.lead + m * fixed_10_4.pace 6

-- The clocks of the arrivals of the worked finish bounds.
abbrev pub arrivals : List ℕ
arrivals = 0 ∷ 5 ∷ 40 ∷ []

-- The same slice in phase 4. Arrival 1 comes before firing 0 ends, so firings 0 and 1 work back to back from clock 0: they end at the wait for 6 grants and for 12, exactly at their finish bounds.
abbrev pub fixed_10_4_in_4 : Service
fixed_10_4_in_4 = slice_service 10 4 4

-- Bounds by the worst wait, then by lead and pace, then the waits in phase 4.
abbrev pub starred_bounds : List (ℕ × ℕ)
starred_bounds =
    (lone_bound worst_of_6 arrivals 0, 18)
    ∷ (lone_bound worst_of_6 arrivals 1, 30)
    ∷ (lone_bound worst_of_6 arrivals 2, 58)
    ∷ (lone_bound lead_and_pace_of_6 arrivals 0, 21)
    ∷ (lone_bound lead_and_pace_of_6 arrivals 1, 36)
    ∷ (lone_bound lead_and_pace_of_6 arrivals 2, 61)
    ∷ (fixed_10_4_in_4.wait 6, 18)
    ∷ (fixed_10_4_in_4.wait 12, 30)
    ∷ []

-- All worked figures, in the one list that is checked.
abbrev pub all_starred : List (ℕ × ℕ)
all_starred = starred ++ starred_bounds
