-- A step: what its call printed, and what is then left of the line.
use Rattle.std.proofs.Common.{◌≡◌, ℕ, ◌+◌, ◌-◌, ◌^◌, ◌<◌, ◌≤◌, Bool, List, [], ◌++◌, decimal, length, Ok, Err, Result, IsOk, Vec, vec_items, vec_len, vec_capacity, refl, sym, subst, ap, ◌∙◌, append-nil, length-append, lit<, lit≤, arith}
use Rattle.std.proofs.lemmas.Fmt.{length-decimal-le}
use Rattle.faults.specs.Faults.{fault_line}
use Rattle.faults.specs.Numbers.{number_of}
use Rattle.faults.specs.Words.{word_of}
use Rattle.faults.specs.declared.fault.Fault.{Fault}
use Rattle.faults.specs.declared.layer.Layer.{Layer}
use Rattle.faults.specs.declared.layer.Layer.TheVariants.{Reader, Server, Graph, Runner as RunnerLayer, Belt, Table}
use Rattle.faults.specs.declared.reason.Reason.{Reason}
use Rattle.faults.specs.declared.reason.Reason.TheVariants.{SheetSize, ForeignByte, Heading, FieldCount, NumberRange, Word, NameTaken, UnknownTask, Count, Settings, TokenFreeRing, Ceiling, Missing, NeedRange, InletFull, ClockSpent, SlotsTaken, Length, Times}
use Rattle.servers.specs.Service.{Service}
use Rattle.lexer.specs.Text.{end}
use Rattle.texts.specs.Puts.{Added, Puts as BytesPut}
use Rattle.runs.specs.Runs.{Call}
use Rattle.player.specs.Works.{call_of, left_after, call_room, calls_at_once}
use Rattle.player.specs.Players.{Does, Puts, Appended, Starved, Many, no_call, then, Gone}
use Rattle.player.specs.declared.player.Player.{Player}
use Rattle.texts.proofs.Chains.{both}
use Rattle.player.proofs.Telling.{fits}

word_short : (l : Layer) → length (word_of l) ≤ 6
word_short Reader = lit≤ tt
word_short Server = lit≤ tt
word_short Graph = lit≤ tt
word_short RunnerLayer = lit≤ tt
word_short Belt = lit≤ tt
word_short Table = lit≤ tt

number_small : (r : Reason) → number_of r < 20
number_small SheetSize = lit< tt
number_small ForeignByte = lit< tt
number_small Heading = lit< tt
number_small FieldCount = lit< tt
number_small NumberRange = lit< tt
number_small Word = lit< tt
number_small NameTaken = lit< tt
number_small UnknownTask = lit< tt
number_small Count = lit< tt
number_small Settings = lit< tt
number_small TokenFreeRing = lit< tt
number_small Ceiling = lit< tt
number_small Missing = lit< tt
number_small NeedRange = lit< tt
number_small InletFull = lit< tt
number_small ClockSpent = lit< tt
number_small SlotsTaken = lit< tt
number_small Length = lit< tt
number_small Times = lit< tt

-- A refusal's line is short.
refusal_short : (f : Fault) → f.line < 2 ^ 32 → f.field < 2 ^ 32 → length (fault_line f ++ end) ≤ 78
refusal_short f line field =
    let wide : 2 ^ 32 < 10 ^ 20 = lit< tt in
    let small : 2 ^ 32 < 2 ^ 64 = lit< tt in
    let low : 20 < 10 ^ 20 = lit< tt in
    let tiny : 20 < 2 ^ 64 = lit< tt in
    let n = number_small f.reason in
    let a : length (decimal (number_of f.reason)) ≤ 20 = length-decimal-le 20 (number_of f.reason) (lit< tt) (omega (arith, n, low)) (omega (arith, n, tiny)) in
    let b : length (decimal f.line) ≤ 20 = length-decimal-le 20 f.line (lit< tt) (omega (arith, line, wide)) (omega (arith, line, small)) in
    let c : length (decimal f.field) ≤ 20 = length-decimal-le 20 f.field (lit< tt) (omega (arith, field, wide)) (omega (arith, field, small)) in
    let w = word_short f.layer in
    simp length-append (omega arith)

-- v made room, u: the same items.
pub record Roomy {Z : Type 0} (v u : Vec ℕ Z) : Type 0 where
  pub items : vec_items u ≡ vec_items v
  pub len : vec_len u ≡ vec_len v
  pub more : vec_capacity v ≤ vec_capacity u
  pub space : vec_len u + call_room ≤ vec_capacity u

added_from : {Z : Type 0} (v u w : Vec ℕ Z) (bytes : List ℕ) → Roomy v u → Added u bytes w → Added v bytes w
added_from v u w bytes r a = record { items = a.items ∙ ap (λ (l : List ℕ). l ++ bytes) r.items; room = omega (arith, a.room, r.more) }

-- There is room for a refusal's line.
pub refusal_put :
    {Z : Type 0} (f : Fault) (v u w : Vec ℕ Z) {U E : Type 0} (answer : Result U E) → Roomy v u → f.line < 2 ^ 32 → f.field < 2 ^ 32 → BytesPut u (fault_line f ++ end) answer w → IsOk answer × Added v (fault_line f ++ end) w
refusal_put f v u w answer roomy line field put =
    let r = fits u (fault_line f ++ end) answer w put (omega (arith, refusal_short f line field, roomy.space)) in
    (r.0, added_from v u w (fault_line f ++ end) roomy r.1)

module _ {R : Type 0} (places : R → ℕ) (service : R → ℕ → Service) (steps : R → ℕ → Bool → Bool → R → Type 0) where
  -- What follows a run does so whatever is left of the line.
  same_but_work :
      (p q r : Player R) (call : Call) (answer : Result Unit Fault) (bytes : List ℕ) → r.tasks ≡ q.tasks → r.runner ≡ q.runner → r.ledger ≡ q.ledger → r.records ≡ q.records →
      Does places service steps p call answer bytes q → Does places service steps p call answer bytes r
  same_but_work p q r call answer bytes tasks runner ledger records d = record {
    tasks = tasks ∙ d.tasks;
    graph = ap (λ t. t.graph) runner ∙ d.graph;
    runs = λ first slots said x f.
        let c = d.runs first slots said x f in
        let g = c.follows in
        record {
          answers = c.answers;
          whole = c.whole;
          follows = record {
            led = rw runner g.led;
            slots_are = rw records g.slots_are;
            taken = g.taken;
            ended = g.ended;
            ended_are = rw runner g.ended_are;
            knows = rw (runner, ledger) g.knows;
          };
          put = c.put;
          records = c.records;
          prints = c.prints;
        };
  }

  pub step_done :
      {Z : Type 0} (p q r : Player R) (v u w : Vec ℕ Z) → (p.work.left ≡ 0 → ⊥) → Roomy v u →
      Puts places service steps p (call_of (vec_len p.runner.graph.tasks) p.work.ask) (Ok tt) u q w →
      r.tasks ≡ q.tasks → r.runner ≡ q.runner → r.ledger ≡ q.ledger → r.records ≡ q.records → r.work ≡ left_after (Ok tt) p.work →
      Appended places service steps p v r w
  step_done p q r v u w busy roomy puts tasks runner ledger records work = record {
    bytes = puts.bytes;
    added = added_from v u w puts.bytes roomy puts.added;
    idle = λ h. absurd (busy h);
    busy = λ h. record {
      under_way = h;
      answer = Ok tt;
      does = same_but_work p q r _ (Ok tt) puts.bytes tasks runner ledger records puts.does;
      refusal = tt;
      left = work;
    };
  }

  -- There is room for the refusal's line.
  pub refusal_fits :
      {Z : Type 0} (p q : Player R) (call : Call) (e : Fault) (v u w x : Vec ℕ Z) {U E : Type 0} (answer : Result U E) → Roomy v u → Puts places service steps p call (Err e) u q w →
      e.line < 2 ^ 32 → e.field < 2 ^ 32 → BytesPut w (fault_line e ++ end) answer x → IsOk answer × Added v (fault_line e ++ end) x
  refusal_fits p q call e v u w x answer roomy puts line field put =
      let none : puts.bytes ≡ [] = puts.silent refl in
      let items : vec_items w ≡ vec_items v = puts.added.items ∙ ap (λ (l : List ℕ). vec_items u ++ l) none ∙ append-nil (vec_items u) ∙ roomy.items in
      let f = fits w (fault_line e ++ end) answer x put (omega (arith, refusal_short e line field, puts.added.room, roomy.space, ap length items, w.ok.0, v.ok.0, roomy.len)) in
      (f.0, record { items = f.1.items ∙ ap (λ (l : List ℕ). l ++ (fault_line e ++ end)) items; room = omega (arith, f.1.room, puts.added.room, roomy.more) })

  pub step_refused :
      {Z : Type 0} (p q r : Player R) (e : Fault) (v u w x : Vec ℕ Z) → (p.work.left ≡ 0 → ⊥) →
      Puts places service steps p (call_of (vec_len p.runner.graph.tasks) p.work.ask) (Err e) u q w → Added v (fault_line e ++ end) x →
      r.tasks ≡ q.tasks → r.runner ≡ q.runner → r.ledger ≡ q.ledger → r.records ≡ q.records → r.work ≡ left_after (Err e) p.work →
      Appended places service steps p v r x
  step_refused p q r e v u w x busy puts added tasks runner ledger records work = record {
    bytes = fault_line e ++ end;
    added = added;
    idle = λ h. absurd (busy h);
    busy = λ h. record {
      under_way = h;
      answer = Err e;
      does = same_but_work p q r _ (Err e) (fault_line e ++ end) tasks runner ledger records (refused_bytes puts.does);
      refusal = refl;
      left = work;
    };
  }
    where
      refused_bytes : {call : Call} {bytes bytes' : List ℕ} → Does places service steps p call (Err e) bytes q → Does places service steps p call (Err e) bytes' q
      refused_bytes d = record {
        tasks = d.tasks;
        graph = d.graph;
        runs = λ first slots said x f. let c = d.runs first slots said x f in record { answers = c.answers; whole = c.whole; follows = c.follows; put = c.put; records = c.records; prints = c.prints };
      }

  -- No call yet, and one more.
  pub gone_none : {Z : Type 0} (p : Player R) (v : Vec ℕ Z) (most : ℕ) → Gone places service steps p v most 0 p v
  gone_none p v most = record { bytes = []; added = record { items = sym (append-nil (vec_items v)); room = omega arith }; many = no_call; few = omega arith }

  pub gone_more :
      {Z : Type 0} (p q r : Player R) (v u w : Vec ℕ Z) (most n : ℕ) → Gone places service steps p v most n q u → n < calls_at_once → 0 < q.work.left → vec_len u < most → Appended places service steps q u r w →
      Gone places service steps p v most (n + 1) r w
  gone_more p q r v u w most n g fewer busy space a =
      let len : length (vec_items u) ≡ length (vec_items v) + length g.bytes = ap length g.added.items ∙ length-append (vec_items v) g.bytes in
      let short : length g.bytes < most - vec_len v = omega (arith, len, space, u.ok.0, v.ok.0) in
      record { bytes = g.bytes ++ a.bytes; added = both v g.bytes u a.bytes w g.added a.added; many = then g.many short (a.busy (omega (arith, busy))); few = omega (arith, fewer) }

  -- Where memory lacks, the calls before that were made.
  pub gone_starved :
      {Z : Type 0} (p q r : Player R) (v u w : Vec ℕ Z) (most n : ℕ) → n < calls_at_once → vec_len u < most → Gone places service steps p v most n q u → Starved q u r w →
      Gone places service steps p v most n r w × (n < calls_at_once) × (vec_len w < most) × (vec_capacity w < vec_len w + call_room)
  gone_starved p q r v u w most n fewer room g s = (
    record {
      bytes = g.bytes;
      added = record { items = s.items ∙ g.added.items; room = omega (arith, g.added.room, s.room) };
      many = subst (λ (t : Player R). Many places service steps p (most - vec_len v) n g.bytes t) (sym s.same) g.many;
      few = g.few;
    },
    fewer,
    omega (arith, room, ap length s.items, u.ok.0, w.ok.0),
    omega (arith, s.short, s.room, ap length s.items, u.ok.0, w.ok.0),
  )
