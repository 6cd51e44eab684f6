-- How what is read and worked off carries on what was printed.
use Rattle.std.proofs.Common.{◌≡◌, ℕ, ◌+◌, ◌*◌, ◌<◌, ◌≤◌, ◌⊎◌, inl, inr, Bool, List, [], ◌∷◌, ◌++◌, take, Some, None, Ok, Err, Result, MatchResult, Vec, vec_items, vec_len, vec_capacity, sym, refl, ap, ◌∙◌, subst, append-nil, append_assoc, arith}
use Rattle.std.specs.declared.alloc.AllocError.{AllocError}
use Rattle.faults.specs.Faults.{fault_line}
use Rattle.faults.specs.declared.fault.Fault as fault
use Rattle.servers.specs.Service.{Service}
use Rattle.belt.specs.Belts.{contents, room}
use Rattle.lexer.specs.Text.{end}
use Rattle.cells.specs.Checks.{first}
use Rattle.texts.specs.Puts.{Added}
use Rattle.texts.proofs.Chains.{both}
use Rattle.calls.specs.declared.call_line.CallLine.{CallLine}
use Rattle.ahead.specs.declared.given.Given.{Given}
use Rattle.ahead.specs.declared.given.Given.TheVariants.{Call, Fault}
use Rattle.ahead.specs.Texts.{Whole, end_checks}
use Rattle.ahead.specs.Texts.{Reads as IsRead}
use Rattle.ahead.specs.Steps.{Carried, TooLong}
use Rattle.player.specs.Openings.{Taken}
use Rattle.player.specs.Players.{Many, no_call, then, Went}
use Rattle.player.specs.Works.{call_room, calls_at_once}
use Rattle.player.specs.declared.player.Player.{Player}
use Rattle.session.specs.Played.{Played, taken, stepped, refused}
use Rattle.session.specs.Sessions.{full, line_told, end_line, Idle, PlaysAll, Reads, Prints, Finishes, WorksOff, Worked, Closes}
use Rattle.session.specs.declared.session.Session.{Session}

-- one more, and then the rest
onto : {A : Type 0} (xs : List A) (y : A) (zs : List A) → (xs ++ y ∷ []) ++ zs ≡ xs ++ (y ∷ zs)
onto xs y zs = append_assoc xs (y ∷ []) zs

-- as many calls as are made at once, among all
at_least : {A B : Type 0} (n all : ℕ) → n ≤ all → A ⊎ (B ⊎ (n ≡ calls_at_once)) → A ⊎ (B ⊎ (calls_at_once ≤ all))
at_least n all some (inl a) = inl a
at_least n all some (inr (inl b)) = inr (inl b)
at_least n all some (inr (inr c)) = inr (inr (omega (arith, some, c)))

module _ {R : Type 0} (places : R → ℕ) (service : R → ℕ → Service) (steps : R → ℕ → Bool → Bool → R → Type 0) where
  -- Many calls, one by one.
  played_many :
      (first : Player R) (gs : List Given) (printed : List ℕ) (made : ℕ) (p : Player R) → Played places service steps first gs printed made p → {space n : ℕ} {bytes : List ℕ} {q : Player R} →
      Many places service steps p space n bytes q → Played places service steps first gs (printed ++ bytes) (made + n) q
  played_many first gs printed made p h {q = q} no_call =
      let none : made ≡ made + 0 = omega arith in
      subst (λ k. Played places service steps first gs (printed ++ []) k q) none (subst (λ l. Played places service steps first gs l made q) (sym (append-nil printed)) h)
  played_many first gs printed made p h (then {n = n} {bytes = bytes} {more = more} {r = r} m short s) =
      let one : (made + n) + 1 ≡ made + (n + 1) = omega arith in
      subst (λ k. Played places service steps first gs (printed ++ (bytes ++ more)) k r) one
      (subst (λ l. Played places service steps first gs l ((made + n) + 1) r) (append_assoc printed bytes more) (stepped (played_many first gs printed made p h m) s))

  reads_on : (s : Session R) (bytes : List ℕ) (n : ℕ) (r : Session R) → r.player ≡ s.player → Carried s.ahead s.given bytes n r.ahead r.given → Reads places service steps s bytes n r
  reads_on s bytes n r same c = record {
    few = c.few;
    plays = λ p t printed made h.
        let all : (h.gs ++ contents s.given) ++ c.put ≡ h.gs ++ contents r.given = append_assoc h.gs (contents s.given) c.put ∙ ap (λ l. h.gs ++ l) (sym c.belt) in
        record {
          gs = h.gs;
          reads = subst (λ l. IsRead (t ++ take n bytes) l r.ahead) all (c.reads t (h.gs ++ contents s.given) h.reads);
          played = subst (λ q. Played places service steps p h.gs printed made q) (sym same) h.played;
        };
    player = same;
    same_room = c.same_room;
    none = c.none;
    capacity = c.capacity;
  }

  pub reads_some :
      (s : Session R) (bytes : List ℕ) (r : Session R) (answer : Result ℕ AllocError) → r.player ≡ s.player →
      MatchResult answer (λ n. Carried s.ahead s.given bytes n r.ahead r.given) (λ _. (n : ℕ) × Carried s.ahead s.given bytes n r.ahead r.given × TooLong s.ahead bytes n r.ahead) →
      MatchResult answer (λ n. Reads places service steps s bytes n r) (λ _. (n : ℕ) × Reads places service steps s bytes n r × TooLong s.ahead bytes n r.ahead)
  reads_some s bytes r (Ok n) same c = reads_on s bytes n r same c
  reads_some s bytes r (Err e) same c = (c.0, reads_on s bytes c.0 r same c.1, c.2)

  -- What was read where nothing is left of it.
  read_idle : (s : Session R) → Idle s → (gs : List Given) (t : List ℕ) → IsRead t (gs ++ contents s.given) s.ahead → IsRead t gs s.ahead
  read_idle s idle gs t h = subst (λ l. IsRead t l s.ahead) (ap (λ l. gs ++ l) idle.given ∙ append-nil gs) h

  pub finishes : (s : Session R) → Idle s → ((t more : List ℕ) (gs : List Given) → IsRead t gs s.ahead → Whole (t ++ more) gs) → Finishes places service steps s
  finishes s idle whole p t printed more made h = record { gs = h.gs; last = s.player; made = made; whole = whole t more h.gs (read_idle s idle h.gs t h.reads); played = h.played; idle = idle.player }

  pub closes_so :
      {Z : Type 0} (s : Session R) (v w : Vec ℕ Z) → vec_items w ≡ vec_items v → vec_capacity v ≤ vec_capacity w → first (end_checks s.ahead) ≡ None → ((t : List ℕ) (gs : List Given) → IsRead t gs s.ahead → Whole t gs) →
      Closes places service steps s v w
  closes_so s v w items room none whole =
      let nothing : [] ≡ end_line s.ahead = sym (ap line_told none) in
      record {
        added = subst (λ l. Added v l w) nothing (record { items = items ∙ sym (append-nil (vec_items v)); room = room });
        all = λ idle p t printed made h.
            subst (λ l. PlaysAll places service steps p t (printed ++ l)) nothing
            (record {
              gs = h.gs;
              last = s.player;
              made = made;
              whole = whole t h.gs (read_idle s idle h.gs t h.reads);
              played = subst (λ l. Played places service steps p h.gs l made s.player) (sym (append-nil printed)) h.played;
              idle = idle.player;
            });
      }

  pub closes_refused :
      {Z : Type 0} (s : Session R) (f : fault.Fault) (v w : Vec ℕ Z) → Added v (fault_line f ++ end) w → first (end_checks s.ahead) ≡ Some f → ((t : List ℕ) (gs : List Given) → IsRead t gs s.ahead → Whole t (gs ++ Fault f ∷ [])) →
      Closes places service steps s v w
  closes_refused s f v w added is whole =
      let told : fault_line f ++ end ≡ end_line s.ahead = sym (ap line_told is) in
      record {
        added = subst (λ l. Added v l w) told added;
        all = λ idle p t printed made h.
            subst (λ l. PlaysAll places service steps p t (printed ++ l)) told
            (record {
              gs = h.gs ++ Fault f ∷ [];
              last = s.player;
              made = made;
              whole = whole t h.gs (read_idle s idle h.gs t h.reads);
              played = refused h.played idle.player f;
              idle = idle.player;
            });
      }

  pub worked_call :
      {Z : Type 0} (s : Session R) (given : Given) (line : CallLine) (q r : Player R) (v u w : Vec ℕ Z) (n : ℕ) → given ≡ Call line → s.player.work.left ≡ 0 → Taken s.player line v q u → Went places service steps q u full (Ok n) r w →
      Worked places service steps s given v n (record { player = r; ahead = s.ahead; given = s.given }) w
  worked_call s given line q r v u w n is idle t went =
      let g = went.0 in
      record {
        bytes = t.bytes ++ g.bytes;
        added = both v t.bytes u g.bytes w t.added g.added;
        given = refl;
        ahead = refl;
        played = λ p gs printed made h.
            subst (λ (k : Given). Played places service steps p (gs ++ k ∷ []) (printed ++ (t.bytes ++ g.bytes)) (made + n) r) (sym is)
            (
            subst (λ l. Played places service steps p (gs ++ Call line ∷ []) l (made + n) r) (append_assoc printed t.bytes g.bytes)
            (played_many p (gs ++ Call line ∷ []) (printed ++ t.bytes) made q (taken h idle line t.takes) g.many)
            );
        until = went.1;
        few = g.few;
      }

  pub worked_fault :
      {Z : Type 0} (s : Session R) (given : Given) (f : fault.Fault) (v w : Vec ℕ Z) → given ≡ Fault f → s.player.work.left ≡ 0 → Added v (fault_line f ++ end) w → Worked places service steps s given v 0 s w
  worked_fault s given f v w is idle added = record {
    bytes = fault_line f ++ end;
    added = added;
    given = refl;
    ahead = refl;
    played = λ p gs printed made h.
        let none : made ≡ made + 0 = omega arith in
        subst (λ n. Played places service steps p (gs ++ given ∷ []) (printed ++ (fault_line f ++ end)) n s.player) none
        (subst (λ (k : Given). Played places service steps p (gs ++ k ∷ []) (printed ++ (fault_line f ++ end)) made s.player) (sym is) (refused h idle f));
    until = inl idle;
    few = omega arith;
  }

  -- What is worked off so far by so many calls, in a buffer with room for the rest.
  pub record Working {Z : Type 0} (s : Session R) (v : Vec ℕ Z) (n : ℕ) (r : Session R) (w : Vec ℕ Z) : Type 0 where
    pub bytes : List ℕ
    pub added : Added v bytes w
    pub prints : Prints places service steps s bytes n r
    pub ahead : r.ahead ≡ s.ahead
    pub same_room : room r.given ≡ room s.given
    pub until : (r.player.work.left ≡ 0) ⊎ ((full ≤ vec_len w) ⊎ (calls_at_once ≤ n))
    pub few : n < 2 * calls_at_once
    pub space : full + call_room ≤ vec_capacity w

  -- the line that was under way
  pub working_line :
      {Z : Type 0} (s r : Session R) (v u w : Vec ℕ Z) (n : ℕ) → vec_items u ≡ vec_items v → vec_capacity v ≤ vec_capacity u → full + call_room ≤ vec_capacity u → r.ahead ≡ s.ahead → r.given ≡ s.given →
      Went places service steps s.player u full (Ok n) r.player w → Working s v n r w
  working_line s r v u w n items more space ahead given went =
      let g = went.0 in
      record {
        bytes = g.bytes;
        added = record { items = g.added.items ∙ ap (λ l. l ++ g.bytes) items; room = omega (arith, g.added.room, more) };
        prints = λ p t printed made h. record { gs = h.gs; reads = rw (ahead, given) h.reads; played = played_many p h.gs printed made s.player h.played g.many };
        ahead = ahead;
        same_room = ap room given;
        until = at_least n n (omega arith) went.1;
        few = omega (arith, g.few);
        space = omega (arith, g.added.room, space);
      }

  -- one more line that was read
  pub working_more :
      {Z : Type 0} (s q r : Session R) (g : Given) (t : Session R) (v u w : Vec ℕ Z) (m n : ℕ) → m < calls_at_once → Working s v m q u → contents q.given ≡ g ∷ contents t.given → room t.given ≡ room q.given → t.player ≡ q.player → t.ahead ≡ q.ahead →
      Worked places service steps t g u n r w → Working s v (m + n) r w
  working_more s q r g t v u w m n fewer old next slots player ahead k = record {
    bytes = old.bytes ++ k.bytes;
    added = both v old.bytes u k.bytes w old.added k.added;
    prints = λ p text printed made h.
        let o = old.prints p text printed made h in
        let sum : (made + m) + n ≡ made + (m + n) = omega arith in
        record {
          gs = o.gs ++ g ∷ [];
          reads = rw k.ahead (rw ahead (subst (λ l. IsRead text l q.ahead) (ap (λ l. o.gs ++ l) next ∙ sym (onto o.gs g (contents t.given)) ∙ ap (λ c. (o.gs ++ g ∷ []) ++ contents c) (sym k.given)) o.reads));
          played = subst (λ l. Played places service steps p (o.gs ++ g ∷ []) (printed ++ (old.bytes ++ k.bytes)) l r.player) sum
              (subst (λ l. Played places service steps p (o.gs ++ g ∷ []) l ((made + m) + n) r.player) (append_assoc printed old.bytes k.bytes) (k.played p o.gs (printed ++ old.bytes) (made + m) (rw player o.played)));
        };
    ahead = k.ahead ∙ ahead ∙ old.ahead;
    same_room = ap room k.given ∙ slots ∙ old.same_room;
    until = at_least n (m + n) (omega arith) k.until;
    few = omega (arith, fewer, k.few);
    space = omega (arith, k.added.room, old.space);
  }

  pub worked_off :
      {Z : Type 0} (s r : Session R) (v w : Vec ℕ Z) (n : ℕ) → Working s v n r w → (Idle r ⊎ ((full ≤ vec_len w) ⊎ (calls_at_once ≤ n))) → WorksOff places service steps s v r w
  worked_off s r v w n k until = record { bytes = k.bytes; calls = n; added = k.added; prints = k.prints; ahead = k.ahead; same_room = k.same_room; until = until; few = k.few }
