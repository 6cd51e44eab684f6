-- A run with the rack forgotten but for its waits: a device of the proofs.
use Rattle.std.proofs.Common.{◌≡◌, ℕ, suc, ◌*◌, ◌<◌, ◌≤◌, Bool, true, false}
use mathlib.Core.List.{Memᴰ}
use Rattle.flow.specs.Nets.{Net}
use Rattle.flow.specs.Finish.{Cost}
use Rattle.runs.specs.States.{State, Finished, new_state, arrived, need_set, ticked}

-- w is the wait of a place's state, z the worst wait of its settings
pub record Waits (z w : ℕ → ℕ) : Type 0 where
  pub none : w 0 ≡ 0
  pub above : (n : ℕ) → n ≤ w n
  pub rises : (m n : ℕ) → m ≤ n → w m ≤ w n
  pub within : (n : ℕ) → w n ≤ z n
  pub worst_none : z 0 ≡ 0
  pub worst_rises : (m n : ℕ) → m ≤ n → z m ≤ z n

-- what one tick of a place makes of its wait
pub record Ticked (granted : Bool) (w w' : ℕ → ℕ) : Type 0 where
  pub given : granted ≡ true → (n : ℕ) → suc (w' n) ≤ w (suc n)
  pub kept : granted ≡ false → (n : ℕ) → 1 ≤ n → suc (w' n) ≤ w n

-- W v n is the wait of n at place v, Z v n the worst wait
pub record Places (g : Net) (Z W : ℕ → ℕ → ℕ) : Type 0 where
  pub waits : (v : ℕ) → v < g.tasks → Waits (Z v) (W v)

pub record PlacesTicked (g : Net) (Z : ℕ → ℕ → ℕ) (grants : ℕ → Bool) (W W' : ℕ → ℕ → ℕ) : Type 0 where
  pub ticks : (v : ℕ) → v < g.tasks → Ticked (grants v) (W v) (W' v)
  pub waits : (v : ℕ) → v < g.tasks → Waits (Z v) (W' v)

-- the states that a run may come to; a tick may grant as it likes, within the laws
pub data Bare (g : Net) (Z : ℕ → ℕ → ℕ) : (ℕ → ℕ → ℕ) → State → Type 0 where
  begin : {W : ℕ → ℕ → ℕ} → Places g Z W → Bare g Z W (new_state g)
  arrives :
      {W : ℕ → ℕ → ℕ} {s : State} →
      Bare g Z W s → (v : ℕ) → v < g.tasks → g.inlet v ≡ true →
      Bare g Z W (arrived s v)
  sets :
      {W : ℕ → ℕ → ℕ} {s : State} →
      Bare g Z W s → (v x : ℕ) → 1 ≤ x → x ≤ g.time v →
      Bare g Z W (need_set s v x)
  ticks :
      {W W' : ℕ → ℕ → ℕ} {s : State} →
      Bare g Z W s → (grants : ℕ → Bool) → PlacesTicked g Z grants W W' →
      Bare g Z W' (ticked g grants s)

-- what m firings of v take at most
abbrev pub cost_of : Net → (ℕ → ℕ → ℕ) → Cost
cost_of g Z v m = Z v (m * g.time v)

-- the record of firing i of v was put out, with a clock of t at the latest
abbrev pub OutBy : State → ℕ → ℕ → ℕ → Type 0
OutBy s v i t = (c : ℕ) × (c ≤ t) × Memᴰ {A = Finished} (record { task = v; firing = i; clock = c }) s.records
