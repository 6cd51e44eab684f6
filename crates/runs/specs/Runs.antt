-- Runs of a net on a rack: every list of calls with its answers, and what it leads to.
use Rattle.std.specs.Prelude.{◌≡◌, ℕ, suc, ◌+◌, ◌-◌, Bool, false, cond, ◌&&◌, List, [], ◌∷◌, ◌++◌, length, ◌==◌, nat_le, nat_lt, slice_index_or, Option, Some, None}
use Rattle.flow.specs.Nets.{Net, Arrivals}
use Rattle.runs.specs.States.{State, Finished, no_arrivals, one_more, new_state, arrived, need_set, ticked, put_out}

-- arrive v: an arrival at task v. need v x: firings of v take x granted ticks from the next one on. tick: one tick, with a claim of others for each place.
pub data Call : Type 0 where
  arrive : ℕ → Call
  need : ℕ → ℕ → Call
  tick : List Bool → Call

-- A call and its answer: it was done, or refused for a reason.
pub data Said : Type 0 where
  done : Call → Said
  refused : Call → ℕ → Said

-- The clock: how many ticks were done.
abbrev pub clock_of : List Said → ℕ
clock_of [] = 0
clock_of (done (arrive v) ∷ said) = clock_of said
clock_of (done (need v x) ∷ said) = clock_of said
clock_of (done (tick claims) ∷ said) = clock_of said + 1
clock_of (refused call reason ∷ said) = clock_of said

-- The arrivals that were accepted, each with the clock at which it was.
abbrev pub arrivals_of : List Said → Arrivals
arrivals_of [] = no_arrivals
arrivals_of (done (arrive v) ∷ said) = one_more (arrivals_of said) (clock_of said) v
arrivals_of (done (need v x) ∷ said) = arrivals_of said
arrivals_of (done (tick claims) ∷ said) = arrivals_of said
arrivals_of (refused call reason ∷ said) = arrivals_of said

-- The state, and the records that lie on the belt, the oldest first.
pub record Whole : Type 0 where
  pub state : State
  pub belt : List Finished

-- Why a call is refused, with a belt of so many slots, or `None` where it is done. The first of these that holds:
-- arrive: 13 no such task, or none with an inlet; 15 already 65,535 wait there.
-- need: 13 no such task; 14 not from 1 to the task's time.
-- tick: 13 not just one claim for each task; 16 the clock stands at 1,000,000,000; 17 fewer free slots than tasks.
abbrev pub why : Net → ℕ → Whole → Call → Option ℕ
why n slots x (arrive v) = cond (nat_lt v n.tasks && n.inlet v) (cond (nat_lt (x.state.waiting v) 65535) None (Some 15)) (Some 13)
why n slots x (need v y) = cond (nat_lt v n.tasks) (cond (nat_le 1 y && nat_le y (n.time v)) None (Some 14)) (Some 13)
why n slots x (tick claims) = cond (length claims == n.tasks) (cond (nat_lt x.state.clock 1000000000) (cond (nat_le n.tasks (slots - length x.belt)) None (Some 17)) (Some 16)) (Some 13)

-- From rack a, its first m places ticked once each, in order, with these claims and grants.
pub data Sweep {R : Type 0} (steps : R → ℕ → Bool → Bool → R → Type 0) (claims : List Bool) (grants : ℕ → Bool) (a : R) : ℕ → R → Type 0 where
  none : Sweep steps claims grants a 0 a
  more : {m : ℕ} {b c : R} → Sweep steps claims grants a m b → steps b m (slice_index_or claims m false) (grants m) c → Sweep steps claims grants a (suc m) c

-- A run of net n on the rack `first`, with a belt of so many slots: what was called and said, the latest first, leads to this rack and this whole.
-- A refused call changes nothing. Between the calls, the oldest records may be taken off the belt.
pub data Run {R : Type 0} (steps : R → ℕ → Bool → Bool → R → Type 0) (n : Net) (first : R) (slots : ℕ) : List Said → R → Whole → Type 0 where
  begin : Run steps n first slots [] first (record { state = new_state n; belt = [] })
  refuses :
      {said : List Said} {a : R} {x : Whole} {k : ℕ} →
      Run steps n first slots said a x → (call : Call) → why n slots x call ≡ Some k →
      Run steps n first slots (refused call k ∷ said) a x
  arrives :
      {said : List Said} {a : R} {x : Whole} →
      Run steps n first slots said a x → (v : ℕ) → why n slots x (arrive v) ≡ None →
      Run steps n first slots (done (arrive v) ∷ said) a (record { state = arrived x.state v; belt = x.belt })
  sets :
      {said : List Said} {a : R} {x : Whole} →
      Run steps n first slots said a x → (v y : ℕ) → why n slots x (need v y) ≡ None →
      Run steps n first slots (done (need v y) ∷ said) a (record { state = need_set x.state v y; belt = x.belt })
  ticks :
      {said : List Said} {a b : R} {x : Whole} →
      Run steps n first slots said a x → (claims : List Bool) (grants : ℕ → Bool) → why n slots x (tick claims) ≡ None → Sweep steps claims grants a n.tasks b →
      Run steps n first slots (done (tick claims) ∷ said) b (record { state = ticked n grants x.state; belt = x.belt ++ put_out n x.state grants n.tasks })
  takes :
      {said : List Said} {a : R} {x : Whole} →
      Run steps n first slots said a x → (gone rest : List Finished) → x.belt ≡ gone ++ rest →
      Run steps n first slots said a (record { state = x.state; belt = rest })
