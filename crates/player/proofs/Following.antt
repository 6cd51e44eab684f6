-- How a player goes on with the runs that it follows, at each of its calls.
use Rattle.std.proofs.Common.{◌≡◌, ℕ, zero, suc, replicate, take, ◌-◌, ◌<◌, ◌≤◌, Bool, true, false, cond, ltb, leb, eqb, ◌&&◌, List, [], ◌∷◌, ◌++◌, length, map, Option, Some, None, Ok, Err, Result, Vec, vec_items, vec_len, sym, refl, ap, ap₂, ◌∙◌, subst, append-nil, arith}
use Rattle.std.proofs.lemmas.List.{length-map}
use Rattle.faults.specs.Numbers.{number_of, reason_by}
use Rattle.faults.specs.declared.fault.Fault.{Fault}
use Rattle.servers.specs.Service.{Service}
use Rattle.belt.specs.Turned.{Ring}
use Rattle.belt.specs.Belts.{contents, room}
use Rattle.sheets.specs.declared.sheet.SheetTask.{SheetTask}
use Rattle.sheets.specs.Pages.{names}
use Rattle.sheets.specs.Reads.{entry}
use Rattle.flow.specs.Nets.{Net, Arrivals, net_of}
use Rattle.flow.specs.Finish.{Cost, by_worst}
use Rattle.flow.proofs.FinishRule.{graphs_sound}
use Rattle.finish.specs.Ledgers.{Knows, Admits}
use Rattle.runs.specs.States.{Finished, arrived, need_set, ticked, put_out, one_more}
use Rattle.runs.specs.Runs.{Call, Said, arrive, need, tick, done, refused, arrivals_of, clock_of, Whole, why, Run, refuses, arrives, sets, takes}
use Rattle.runs.proofs.Forget.{Shows, heard}
use Rattle.runner.specs.Boards.{shown, Alike}
use Rattle.runner.specs.Records.{lying}
use Rattle.runner.specs.Records.{told as told_of}
use Rattle.runner.specs.Runners.{Led, Answers, Turns, TickDone, shown_whole, whole_with}
use Rattle.runner.specs.declared.runner.Runner.{Runner}
use Rattle.runner.specs.declared.record.Record.{Record}
use Rattle.runner.proofs.Alikes.{one_net}
use Rattle.runner.proofs.Alone.{same_why}
use Rattle.runner.proofs.Calls.{alike_by, alike_arrived, alike_need}
use Rattle.runner.proofs.Going.{tick_leads, tick_puts}
use Rattle.player.specs.Lines.{Lines, none, with_these, InTurn, Told}
use Rattle.player.specs.Players.{Follows, Does, Puts}
use Rattle.player.specs.declared.player.Player.{Player}
use Rattle.player.proofs.Turns.{Ripe, ripe, NoneLate, none_late, all_in_turn, all_counted, put_short}

-- The reasons against a call have numbers of their own.
numbered : (n : Net) (slots : ℕ) (x : Whole) (call : Call) (k : ℕ) → why n slots x call ≡ Some k → number_of (reason_by k) ≡ k
numbered n slots x (arrive v) k w = go (ltb v n.tasks && n.inlet v) (ltb (x.state.waiting v) 65535) w
  where
    go : (b c : Bool) → ◌≡◌ {A = Option ℕ} (cond b (cond c None (Some 15)) (Some 13)) (Some k) → number_of (reason_by k) ≡ k
    go true true w = absurd cc
    go true false w = let e : 15 ≡ k = cc in rw (← e) refl
    go false c w = let e : 13 ≡ k = cc in rw (← e) refl
numbered n slots x (need v y) k w = go (ltb v n.tasks) (leb 1 y && leb y (n.time v)) w
  where
    go : (b c : Bool) → ◌≡◌ {A = Option ℕ} (cond b (cond c None (Some 14)) (Some 13)) (Some k) → number_of (reason_by k) ≡ k
    go true true w = absurd cc
    go true false w = let e : 14 ≡ k = cc in rw (← e) refl
    go false c w = let e : 13 ≡ k = cc in rw (← e) refl
numbered n slots x (tick claims) k w = go (eqb (length claims) n.tasks) (ltb x.state.clock 1000000000) (leb n.tasks (slots - length x.belt)) w
  where
    go : (b c d : Bool) → ◌≡◌ {A = Option ℕ} (cond b (cond c (cond d None (Some 17)) (Some 16)) (Some 13)) (Some k) → number_of (reason_by k) ≡ k
    go true true true w = absurd cc
    go true true false w = let e : 17 ≡ k = cc in rw (← e) refl
    go true false d w = let e : 16 ≡ k = cc in rw (← e) refl
    go false c d w = let e : 13 ≡ k = cc in rw (← e) refl

module _ {R : Type 0} (places : R → ℕ) (service : R → ℕ → Service) (steps : R → ℕ → Bool → Bool → R → Type 0) where
  -- The reason is that of what the board shows.
  why_shown :
      (a : Runner R) (slots : ℕ) (x : Whole) → Alike (net_of a.graph) (shown a.board) x.state → (call : Call) →
      why (net_of a.graph) slots (record { state = shown a.board; belt = x.belt }) call ≡ why (net_of a.graph) slots x call
  why_shown a slots x like call = sym (same_why (net_of a.graph) (net_of a.graph) (one_net (net_of a.graph)) slots (record { state = shown a.board; belt = x.belt }) x like refl call)

  -- So is the answer.
  refused_so :
      (a : Runner R) (slots : ℕ) (x : Whole) → Alike (net_of a.graph) (shown a.board) x.state → (call : Call) (e : Fault) →
      Answers (why (net_of a.graph) slots (record { state = shown a.board; belt = x.belt }) call) (Err e) → Answers (why (net_of a.graph) slots x call) (Err e)
  refused_so a slots x like call e h = (h.0, sym (why_shown a slots x like call) ∙ h.1, h.2)

  -- What a player has that follows a run.
  pub follows_on :
      (first : R) (slots : ℕ) (said : List Said) (x : Whole) (q : Player R) (n : Net) → net_of q.runner.graph ≡ n → Led places steps first slots said q.runner x → room q.records ≡ slots → x.belt ≡ [] →
      (ended : ℕ → ℕ) → ((v : ℕ) → v < n.tasks → ended v ≡ x.state.fired v) → Knows n (by_worst n (service first)) (arrivals_of said) ended q.ledger →
      Follows places service steps first slots said x q
  follows_on first slots said x q n same led room taken ended ended_are knows = record {
    led = led;
    slots_are = room;
    taken = taken;
    ended = ended;
    ended_are = λ v h. ended_are v (subst (λ (m : Net). v < m.tasks) same h);
    knows = subst (λ (m : Net). Knows m (by_worst m (service first)) (arrivals_of said) ended q.ledger) (sym same) knows;
  }

  -- A refused call leaves the player as it was, but for what is left of the line.
  refused_does :
      (p q : Player R) (call : Call) (e : Fault) → q.tasks ≡ p.tasks → q.runner ≡ p.runner → q.ledger ≡ p.ledger → q.records ≡ p.records →
      ((slots : ℕ) (x : Whole) → Alike (net_of p.runner.graph) (shown p.runner.board) x.state → x.belt ≡ [] → room p.records ≡ slots → Answers (why (net_of p.runner.graph) slots x call) (Err e)) →
      Does places service steps p call (Err e) [] q
  refused_does p q call e tasks runner ledger records reason = record {
    tasks = tasks;
    graph = ap (λ (r : Runner R). r.graph) runner;
    runs = λ first slots said x f.
        let n = net_of p.runner.graph in
        let a = reason slots x f.led.stands f.taken f.slots_are in
        let number : number_of e.reason ≡ a.0 = ap (λ (f : Fault). number_of f.reason) a.2 ∙ numbered n slots x call a.0 a.1 in
        let led : Led places steps first slots (refused call (number_of e.reason) ∷ said) p.runner x = record {
          fits = f.led.fits;
          run = subst (λ (m : ℕ). Run steps n first slots (refused call m ∷ said) p.runner.rack x) (sym number) (refuses f.led.run call a.1);
          stands = f.led.stands;
        } in
        record {
          answers = a;
          whole = x;
          follows = follows_on first slots (refused call (number_of e.reason) ∷ said) x q n (ap (λ (r : Runner R). net_of r.graph) runner) (rw runner led) (ap room records ∙ f.slots_are) f.taken f.ended f.ended_are (rw ledger f.knows);
          put = [];
          records = sym (append-nil x.state.records);
          prints = refl;
        };
  }

  pub arrive_does :
      (p q : Player R) (v : ℕ) → q.tasks ≡ p.tasks → q.records ≡ p.records →
      why (net_of p.runner.graph) 0 (shown_whole p.runner) (arrive v) ≡ None → Turns p.runner (Ok tt) (arrived (shown p.runner.board) v) q.runner → Admits p.ledger v (shown p.runner.board).clock q.ledger →
      Does places service steps p (arrive v) (Ok tt) [] q
  arrive_does p q v tasks records reason turns admits = record {
    tasks = tasks;
    graph = turns.0;
    runs = λ first slots said x f.
        let n = net_of p.runner.graph in
        let none_against : why n slots x (arrive v) ≡ None = sym (why_shown p.runner slots x f.led.stands (arrive v)) ∙ reason in
        let clock : (shown p.runner.board).clock ≡ clock_of said = f.led.stands.clock ∙ (heard f.led.run).0 in
        let y : Whole = record { state = arrived x.state v; belt = x.belt } in
        let led : Led places steps first slots (done (arrive v) ∷ said) q.runner y = record {
          fits = rw turns.0 f.led.fits;
          run = rw (turns.0, turns.1) (arrives f.led.run v none_against);
          stands = rw turns.0 (alike_by n (shown q.runner.board) (arrived (shown p.runner.board) v) (arrived x.state v) turns.2 (alike_arrived n (shown p.runner.board) x.state v f.led.stands));
        } in
        record {
          answers = none_against;
          whole = y;
          follows = follows_on first slots (done (arrive v) ∷ said) y q n (ap net_of turns.0) led (ap room records ∙ f.slots_are) f.taken f.ended f.ended_are
              (subst (λ (c : ℕ). Knows n (by_worst n (service first)) (one_more (arrivals_of said) c v) f.ended q.ledger) clock (admits n _ _ _ f.knows));
          put = [];
          records = sym (append-nil x.state.records);
          prints = none;
        };
  }

  need_done :
      (p q : Player R) (v ticks : ℕ) → q.tasks ≡ p.tasks → q.ledger ≡ p.ledger → q.records ≡ p.records →
      why (net_of p.runner.graph) 0 (shown_whole p.runner) (need v ticks) ≡ None → Turns p.runner (Ok tt) (need_set (shown p.runner.board) v ticks) q.runner →
      Does places service steps p (need v ticks) (Ok tt) [] q
  need_done p q v ticks tasks ledger records reason turns = record {
    tasks = tasks;
    graph = turns.0;
    runs = λ first slots said x f.
        let n = net_of p.runner.graph in
        let none_against : why n slots x (need v ticks) ≡ None = sym (why_shown p.runner slots x f.led.stands (need v ticks)) ∙ reason in
        let y : Whole = record { state = need_set x.state v ticks; belt = x.belt } in
        let led : Led places steps first slots (done (need v ticks) ∷ said) q.runner y = record {
          fits = rw turns.0 f.led.fits;
          run = rw (turns.0, turns.1) (sets f.led.run v ticks none_against);
          stands = rw turns.0 (alike_by n (shown q.runner.board) (need_set (shown p.runner.board) v ticks) (need_set x.state v ticks) turns.2 (alike_need n (shown p.runner.board) x.state v ticks f.led.stands));
        } in
        record {
          answers = none_against;
          whole = y;
          follows = follows_on first slots (done (need v ticks) ∷ said) y q n (ap net_of turns.0) led (ap room records ∙ f.slots_are) f.taken f.ended f.ended_are (rw ledger f.knows);
          put = [];
          records = sym (append-nil x.state.records);
          prints = none;
        };
  }

  pub arrive_refused :
      (p q : Player R) (v : ℕ) (e : Fault) → q.tasks ≡ p.tasks → q.ledger ≡ p.ledger → q.records ≡ p.records →
      Answers (why (net_of p.runner.graph) 0 (shown_whole p.runner) (arrive v)) (Err e) → q.runner ≡ p.runner → Does places service steps p (arrive v) (Err e) [] q
  arrive_refused p q v e tasks ledger records answers same =
      refused_does p q (arrive v) e tasks same ledger records (λ slots x like taken room. refused_so p.runner slots x like (arrive v) e answers)

  pub need_does :
      (p q : Player R) (v ticks : ℕ) (r : Result Unit Fault) → q.tasks ≡ p.tasks → q.ledger ≡ p.ledger → q.records ≡ p.records →
      Answers (why (net_of p.runner.graph) 0 (shown_whole p.runner) (need v ticks)) r → Turns p.runner r (need_set (shown p.runner.board) v ticks) q.runner → Does places service steps p (need v ticks) r [] q
  need_does p q v ticks (Ok tt) tasks ledger records answers turns = need_done p q v ticks tasks ledger records answers turns
  need_does p q v ticks (Err e) tasks ledger records answers same =
      refused_does p q (need v ticks) e tasks same ledger records (λ slots x like taken room. refused_so p.runner slots x like (need v ticks) e answers)

  pub tick_refused :
      {Z : Type 0} (p q : Player R) (claims wanted : List Bool) (e : Fault) (v : Vec ℕ Z) → claims ≡ wanted → q.tasks ≡ p.tasks → q.ledger ≡ p.ledger → q.records ≡ p.records → contents p.records ≡ [] →
      Answers (why (net_of p.runner.graph) (room p.records) (whole_with p.runner (contents p.records)) (tick claims)) (Err e) → q.runner ≡ p.runner → Puts places service steps p (tick wanted) (Err e) v q v
  tick_refused p q claims wanted e v all tasks ledger records clear answers same = record {
    bytes = [];
    added = record { items = sym (append-nil (vec_items v)); room = omega arith };
    does = subst (λ (cs : List Bool). Does places service steps p (tick cs) (Err e) [] q) all
        (refused_does p q (tick claims) e tasks same ledger records
        (λ slots x like taken many.
        refused_so p.runner slots x like (tick claims) e
        (subst (λ (o : Option ℕ). Answers o (Err e)) (ap₂ (λ (k : ℕ) (b : List Finished). why (net_of p.runner.graph) k (record { state = shown p.runner.board; belt = b }) (tick claims)) many (ap lying clear ∙ sym taken)) answers)));
    silent = λ _. refl;
  }

  -- A tick puts few records on an empty belt.
  pub few_put :
      (a : Runner R) (b : Runner R) (before : Ring Record) (claims : List Bool) (after : Ring Record) → contents before ≡ [] → TickDone places steps a before claims b after →
      length (contents after) ≤ 16
  few_put a b before claims after clear d =
      let most : vec_len a.graph.tasks ≤ 16 = omega (arith, a.graph.counts.few, a.graph.tasks.ok.0) in
      omega (
        arith,
        length-map (contents after) told_of,
        ap length d.records,
        ap (λ (rs : List Record). length (lying rs ++ put_out (net_of a.graph) (shown a.board) d.grants (vec_len a.graph.tasks))) clear,
        put_short (net_of a.graph) (shown a.board) d.grants (vec_len a.graph.tasks),
        most,
      )

  module _ (shows : Shows places service steps) where
    tick_done :
        (p q : Player R) (claims : List Bool) (after : Ring Record) (bytes : List ℕ) → q.tasks ≡ p.tasks → contents p.records ≡ [] → room q.records ≡ room after →
        why (net_of p.runner.graph) (room p.records) (whole_with p.runner (contents p.records)) (tick claims) ≡ None → TickDone places steps p.runner p.records claims q.runner after →
        ((cost : Cost) (α : Arrivals) (fired : ℕ → ℕ) → Knows (net_of p.runner.graph) cost α fired p.ledger → InTurn (net_of p.runner.graph) cost α fired (lying (contents after)) →
        Lines (net_of p.runner.graph) cost α (names (map entry (vec_items p.tasks))) (lying (contents after)) bytes × Knows (net_of p.runner.graph) cost α (with_these fired (lying (contents after))) q.ledger) →
        Does places service steps p (tick claims) (Ok tt) bytes q
    tick_done p q claims after bytes tasks clear same_room reason d told = record {
      tasks = tasks;
      graph = d.its_graph;
      runs = λ first slots said x f.
          let n = net_of p.runner.graph in
          let sound = graphs_sound p.runner.graph in
          let lies : x.belt ≡ lying (contents p.records) = f.taken ∙ ap lying (sym clear) in
          let none_against : why n slots x (tick claims) ≡ None =
          sym (why_shown p.runner slots x f.led.stands (tick claims)) ∙ ap₂ (λ (k : ℕ) (b : List Finished). why n k (record { state = shown p.runner.board; belt = b }) (tick claims)) (sym f.slots_are) lies ∙ reason in
          let new : List Finished = put_out n x.state d.grants n.tasks in
          let led = tick_leads places steps p.runner p.records claims service shows q.runner after d first slots said x f.led none_against in
          let lead : x.belt ++ new ≡ new = ap (λ (b : List Finished). b ++ new) f.taken in
          let y : Whole = record { state = ticked n d.grants x.state; belt = [] } in
          let emptied : Led places steps first slots (done (tick claims) ∷ said) q.runner y = record {
            fits = led.fits;
            run = takes led.run (x.belt ++ new) [] (sym (append-nil (x.belt ++ new)));
            stands = led.stands;
          } in
          let put : new ≡ lying (contents after) = ap (λ (rs : List Record). lying rs ++ new) (sym clear) ∙ tick_puts places steps p.runner p.records claims service shows q.runner after d x f.led.stands in
          let run' = subst (λ (m : Net). Run steps m first slots (done (tick claims) ∷ said) q.runner.rack y) (ap net_of d.its_graph) emptied.run in
          let ready : Ripe n (arrivals_of said) x.state d.grants = ripe places steps n sound first f.led.fits slots claims d.grants [] f.led.run run' in
          let cost = by_worst n (service first) in
          let in_time : NoneLate n cost (arrivals_of said) x.state = none_late places service steps shows n sound first f.led.fits slots f.led.run in
          let t = told _ _ f.ended f.knows (subst (λ rs. InTurn n cost (arrivals_of said) f.ended rs) put (all_in_turn n sound cost (arrivals_of said) x.state d.grants ready in_time f.ended f.ended_are)) in
          record {
            answers = none_against;
            whole = y;
            follows = follows_on first slots (done (tick claims) ∷ said) y q n (ap net_of d.its_graph) emptied (same_room ∙ d.same_room ∙ f.slots_are) refl
                (with_these f.ended new) (all_counted n sound cost (arrivals_of said) x.state d.grants ready in_time f.ended f.ended_are)
                (subst (λ (rs : List Finished). Knows n (by_worst n (service first)) (arrivals_of said) (with_these f.ended rs) q.ledger) (sym put) t.1);
            put = new;
            records = refl;
            prints = subst (λ (rs : List Finished). Lines n (by_worst n (service first)) (arrivals_of said) (names (map entry (vec_items p.tasks))) rs bytes) (sym put) t.0;
          };
    }

    pub tick_does :
        {Z : Type 0} (p q : Player R) (claims wanted : List Bool) (after belt : Ring Record) (m : Net) (ts : List SheetTask) (v w : Vec ℕ Z) → claims ≡ wanted → q.tasks ≡ p.tasks → contents p.records ≡ [] → q.records ≡ belt →
        why (net_of p.runner.graph) (room p.records) (whole_with p.runner (contents p.records)) (tick claims) ≡ None → TickDone places steps p.runner p.records claims q.runner after →
        m ≡ net_of q.runner.graph → ts ≡ vec_items p.tasks → Told m (names (map entry ts)) p.ledger after v q.ledger belt w →
        Puts places service steps p (tick wanted) (Ok tt) v q w
    tick_does p q claims wanted after belt m ts v w all tasks clear records reason d net same told =
        let t = subst (λ (k : Net). Told k (names (map entry (vec_items p.tasks))) p.ledger after v q.ledger belt w) (net ∙ ap net_of d.its_graph) (subst (λ us. Told m (names (map entry us)) p.ledger after v q.ledger belt w) same told) in
        record {
          bytes = t.bytes;
          added = t.added;
          does = subst (λ (cs : List Bool). Does places service steps p (tick cs) (Ok tt) t.bytes q) all (tick_done p q claims after t.bytes tasks clear (ap room records ∙ t.same_room) reason d t.lines);
          silent = λ h. cc;
        }

-- The claims of the first tasks.
pub same_claims : (m n : ℕ) (claimed : Bool) → m ≡ n → n ≤ 16 → take m (replicate 16 claimed) ≡ replicate n claimed
same_claims m n claimed e h = ap (λ (k : ℕ). take k (replicate 16 claimed)) e ∙ front n 16 h
  where
    front : (k m : ℕ) → k ≤ m → take k (replicate m claimed) ≡ replicate k claimed
    front zero m h = refl
    front (suc k) zero h = absurd (omega arith)
    front (suc k) (suc m) h = ap (λ (cs : List Bool). claimed ∷ cs) (front k m (omega arith))
