-- The state of a run of a net, and what a new run, an arrival, a need and a tick make of it.
use Rattle.std.specs.Prelude.{ℕ, zero, suc, ◌+◌, ◌-◌, Bool, true, false, cond, ◌&&◌, List, [], ◌∷◌, ◌++◌, ◌==◌, nat_le}
use Rattle.flow.specs.Nets.{Net, Arrivals}

-- The record of a firing that ended at this clock.
pub record Finished : Type 0 where
  pub task : ℕ
  pub firing : ℕ
  pub clock : ℕ

-- clock: the ticks so far. held: the tokens on each edge. waiting: the arrivals at each inlet that no firing took yet.
-- to_go: the granted ticks that the task's firing under way still needs, 0 where none is. fired: the firings that ended.
-- need: the granted ticks that the task's next firing takes. arrivals: all that were accepted. records: all that were put, the oldest first.
pub record State : Type 0 where
  pub clock : ℕ
  pub held : ℕ → ℕ
  pub waiting : ℕ → ℕ
  pub to_go : ℕ → ℕ
  pub fired : ℕ → ℕ
  pub need : ℕ → ℕ
  pub arrivals : Arrivals
  pub records : List Finished

-- None was accepted yet.
abbrev pub no_arrivals : Arrivals
no_arrivals = record { count = λ v. 0; stamp = λ v k. 0 }

-- At first each edge has its tokens, and each firing takes its task's time.
abbrev pub new_state : Net → State
new_state n = record {
  clock = 0;
  held = n.tokens;
  waiting = λ v. 0;
  to_go = λ v. 0;
  fired = λ v. 0;
  need = n.time;
  arrivals = no_arrivals;
  records = [];
}

-- 1 where it is so, else 0.
abbrev pub one : Bool → ℕ
one b = cond b 1 0

-- One more arrival at v, at this clock.
abbrev pub one_more : Arrivals → ℕ → ℕ → Arrivals
one_more α clock v = record {
  count = λ u. α.count u + one (u == v);
  stamp = λ u k. cond (u == v && k == α.count u) clock (α.stamp u k);
}

-- After an arrival at v.
abbrev pub arrived : State → ℕ → State
arrived s v = record {
  clock = s.clock;
  held = s.held;
  waiting = λ u. s.waiting u + one (u == v);
  to_go = s.to_go;
  fired = s.fired;
  need = s.need;
  arrivals = one_more s.arrivals s.clock v;
  records = s.records;
}

-- With the need of v set to x.
abbrev pub need_set : State → ℕ → ℕ → State
need_set s v x = record {
  clock = s.clock;
  held = s.held;
  waiting = s.waiting;
  to_go = s.to_go;
  fired = s.fired;
  need = λ u. cond (u == v) x (s.need u);
  arrivals = s.arrivals;
  records = s.records;
}

-- Of the first m edges, each one into v holds a token.
unfoldable pub all_hold : Net → State → ℕ → ℕ → Bool
all_hold n s v zero = true
all_hold n s v (suc e) = cond (n.to e == v) (nat_le 1 (s.held e)) true && all_hold n s v e

-- Task v can start a firing: an arrival waits at its inlet, if it has one, and each edge into it holds a token.
unfoldable pub supplied : Net → State → ℕ → Bool
supplied n s v = cond (n.inlet v) (nat_le 1 (s.waiting v)) true && all_hold n s v n.edges

-- At a tick that is granted to v, or not: v starts a firing where none is under way and it can.
abbrev pub starts : Net → State → (ℕ → Bool) → ℕ → Bool
starts n s grants v = cond (grants v) (cond (s.to_go v == 0) (supplied n s v) false) false

-- What v has to go after it: a granted tick serves the firing under way, or the one that starts.
abbrev pub left : Net → State → (ℕ → Bool) → ℕ → ℕ
left n s grants v = cond (grants v) (cond (s.to_go v == 0) (cond (supplied n s v) (s.need v - 1) 0) (s.to_go v - 1)) (s.to_go v)

-- Whether a firing of v ends by it: its last granted tick was this one.
abbrev pub ends : Net → State → (ℕ → Bool) → ℕ → Bool
ends n s grants v = cond (grants v) (cond (s.to_go v == 0) (cond (supplied n s v) (s.need v == 1) false) (s.to_go v == 1)) false

-- The records of the firings that end by it at the first m tasks, in the tasks' order.
unfoldable pub put_out : Net → State → (ℕ → Bool) → ℕ → List Finished
put_out n s grants zero = []
put_out n s grants (suc v) = put_out n s grants v ++ cond (ends n s grants v) (record { task = v; firing = s.fired v; clock = s.clock + 1 } ∷ []) []

-- After a tick with these grants: a firing that starts takes its tokens, one that ends adds its own. So a token added at a tick is taken at a later one at the earliest.
abbrev pub ticked : Net → (ℕ → Bool) → State → State
ticked n grants s = record {
  clock = s.clock + 1;
  held = λ e. s.held e - one (starts n s grants (n.to e)) + one (ends n s grants (n.from e));
  waiting = λ v. s.waiting v - one (starts n s grants v);
  to_go = left n s grants;
  fired = λ v. s.fired v + one (ends n s grants v);
  need = s.need;
  arrivals = s.arrivals;
  records = s.records ++ put_out n s grants n.tasks;
}
