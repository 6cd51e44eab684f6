-- What a server offers a task: its service, the laws that a service keeps, and what a tick does to it.
use Rattle.std.specs.Prelude.{◌≡◌, ℕ, ◌+◌, ◌<◌, ◌≤◌, Bool, true, false}

-- wait n: within so many ticks from now n more are granted, whatever others claim. Of the state.
-- The rest is fixed by the settings. worst n: the longest wait for n grants in any state.
-- lead: the latency, what a server may keep a task waiting at first.
-- pace n: the ticks that n grants take once it is under way, the rate turned over.
pub record Service : Type 0 where
  pub wait : ℕ → ℕ
  pub worst : ℕ → ℕ
  pub lead : ℕ
  pub pace : ℕ → ℕ

pub record Laws (s : Service) : Type 0 where
  pub wait_none : s.wait 0 ≡ 0
  pub wait_least : (n : ℕ) → n ≤ s.wait n
  pub wait_rises : (m n : ℕ) → m ≤ n → s.wait m ≤ s.wait n
  pub wait_most : (n : ℕ) → s.wait n ≤ s.worst n
  pub worst_none : s.worst 0 ≡ 0
  pub worst_rises : (m n : ℕ) → m ≤ n → s.worst m ≤ s.worst n
  pub worst_most : (n : ℕ) → s.worst n ≤ s.lead + s.pace n
  pub pace_none : s.pace 0 ≡ 0
  pub pace_least : (n : ℕ) → n ≤ s.pace n
  pub pace_rises : (m n : ℕ) → m ≤ n → s.pace m ≤ s.pace n
  pub pace_adds : (m n : ℕ) → s.pace (m + n) ≤ s.pace m + s.pace n

-- What a tick leaves of the waits: granted, one grant fewer and a tick sooner; not granted, a tick sooner.
abbrev pub Sooner : Bool → (ℕ → ℕ) → (ℕ → ℕ) → Type 0
Sooner true before after = (n : ℕ) → after n + 1 ≤ before (n + 1)
Sooner false before after = (n : ℕ) → 0 < n → after n + 1 ≤ before n

-- A tick, granted or not, from service s to service t: the waits come sooner, and what the settings fix stays.
pub record Ticks (s : Service) (granted : Bool) (t : Service) : Type 0 where
  pub sooner : Sooner granted s.wait t.wait
  pub same_worst : (n : ℕ) → t.worst n ≡ s.worst n
  pub same_lead : t.lead ≡ s.lead
  pub same_pace : (n : ℕ) → t.pace n ≡ s.pace n

-- A server's meaning over its states S: what each offers, which ticks there are (from a state, claimed, granted, to a state), and its laws.
pub record Model (S : Type 0) : Type 1 where
  pub service : S → Service
  pub steps : S → Bool → Bool → S → Type 0
  pub keeps : (s : S) → Laws (service s)
  pub moves : (a b : S) (claimed granted : Bool) → steps a claimed granted b → Ticks (service a) granted (service b)
