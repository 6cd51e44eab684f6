-- The worked figures of the rules, each as it is computed by the definitions and as it is expected.
use Rattle.std.specs.Prelude.{ℕ, Bool, true, cond, ◌&&◌, List, [], ◌∷◌, ◌==◌, nat_le}
use Rattle.faults.specs.Numbers.{number_of, reason_by}
use Rattle.servers.specs.Service.{Service}
use Rattle.servers.specs.Figures.{ceiling}
use Rattle.servers.specs.FixedService.{slice_service}
use Rattle.servers.specs.FloatService.{float_at}
use Rattle.layers.specs.InnerService.{within}

-- Each computed figure is the expected one.
abbrev pub all_agree : List (ℕ × ℕ) → Bool
all_agree [] = true
all_agree (p ∷ ps) = p.0 == p.1 && all_agree ps

-- The servers of the worked figures, by their settings; `inner_3_1` is a layer on `fixed_10_4`.
abbrev pub fixed_10_4 : Service
fixed_10_4 = slice_service 10 4 0

abbrev pub float_10_4 : Service
float_10_4 = float_at 10 4 0 0

abbrev pub inner_3_1 : Service
inner_3_1 = within fixed_10_4 (slice_service 3 1 0)

abbrev pub fixed_65535_1 : Service
fixed_65535_1 = slice_service 65535 1 0

-- The number by which a figure is refused, 0 where it is told.
abbrev pub refused_by : ℕ → ℕ
refused_by x = cond (nat_le x ceiling) 0 (number_of (reason_by 12))

-- Figures told, in the order of the rules, and refusals by their number.
abbrev pub starred : List (ℕ × ℕ)
starred =
    (fixed_10_4.worst 0, 0)
    ∷ (fixed_10_4.worst 1, 7)
    ∷ (fixed_10_4.worst 4, 10)
    ∷ (fixed_10_4.worst 5, 17)
    ∷ (fixed_10_4.worst 12, 30)
    ∷ (fixed_10_4.pace 5, 13)
    ∷ (fixed_10_4.pace 6, 15)
    ∷ (fixed_10_4.lead, 6)
    ∷ (float_10_4.worst 1, 13)
    ∷ (float_10_4.worst 4, 16)
    ∷ (float_10_4.worst 5, 23)
    ∷ (float_10_4.lead, 12)
    ∷ (inner_3_1.worst 1, 9)
    ∷ (inner_3_1.worst 2, 18)
    ∷ (inner_3_1.lead, 11)
    ∷ (inner_3_1.pace 1, 8)
    ∷ (fixed_65535_1.worst 15259021, 999999941235)
    ∷ (refused_by (fixed_65535_1.worst 15259021), 0)
    ∷ (refused_by (fixed_65535_1.worst 15259022), 12)
    ∷ []
