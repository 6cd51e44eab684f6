-- Lines of records, one after another.
use Rattle.std.proofs.Common.{◌≡◌, ℕ, ◌+◌, ◌*◌, ◌^◌, ◌<◌, ◌≤◌, Bool, true, false, cond, inl, inr, leb, List, [], ◌∷◌, ◌++◌, length, Option, Ok, Err, Result, IsOk, Vec, vec_items, vec_len, vec_capacity, decimal, slice_index_or, sym, refl, ap, ◌∙◌, subst, arith, rules, append-nil, append_assoc, length-append, lit<}
use Rattle.std.proofs.lemmas.List.{map-append}
use Rattle.std.proofs.lemmas.Fmt.{length-decimal-le}
use Rattle.servers.specs.Figures.{ceiling}
use Rattle.servers.specs.Rounding.{le_or_lt}
use Rattle.texts.specs.Puts.{Added, Puts}
use Rattle.lexer.specs.Text.{line_of}
use Rattle.belt.specs.Turned.{Ring}
use Rattle.belt.specs.Belts.{contents, room}
use Rattle.flow.specs.Nets.{Net, Arrivals}
use Rattle.flow.specs.Finish.{Cost, Finish}
use Rattle.finish.specs.Filling.{more}
use Rattle.finish.specs.Ledgers.{Knows, TellsBound, Books}
use Rattle.finish.specs.declared.ledger.Ledger.{Ledger}
use Rattle.runs.specs.States.{Finished}
use Rattle.runner.specs.Records.{told, lying}
use Rattle.runner.specs.declared.record.Record.{Record}
use Rattle.texts.proofs.Chains.{both, len_added}
use Rattle.player.specs.Lines.{record_line, Kept, Lines, none, more_of, with_these, InTime, InTurn, Told}

-- some records have left the belt, and their lines are put
pub record SoFar {Z : Type 0} (n : Net) (names : List (List ℕ)) (l : Ledger) (belt : Ring Record) (v : Vec ℕ Z) (l' : Ledger) (belt' : Ring Record) (w : Vec ℕ Z) : Type 0 where
  pub gone : List Record
  pub split : contents belt ≡ gone ++ contents belt'
  pub bytes : List ℕ
  pub added : Added v bytes w
  pub space : vec_len w + 76 * length (contents belt') ≤ vec_capacity w
  pub same_room : room belt' ≡ room belt
  pub lines :
      (cost : Cost) (α : Arrivals) (fired : ℕ → ℕ) → Knows n cost α fired l → InTurn n cost α fired (lying (contents belt)) →
      Lines n cost α names (lying gone) bytes × Knows n cost α (with_these fired (lying gone)) l' × InTurn n cost α (with_these fired (lying gone)) (lying (contents belt'))

-- Lists of records are seen one by one.
pub lying_append : (xs ys : List Record) → lying (xs ++ ys) ≡ lying xs ++ lying ys
lying_append xs ys = map-append told xs ys

pub with_append : (fired : ℕ → ℕ) (xs ys : List Finished) → with_these fired (xs ++ ys) ≡ with_these (with_these fired xs) ys
with_append fired [] ys = refl
with_append fired (x ∷ xs) ys = with_append (more fired x.task) xs ys

-- A record in time keeps what is told of its bound.
pub kept_by : (n : Net) (cost : Cost) (α : Arrivals) (r : Finished) (bound : ℕ) → TellsBound n cost α r.task r.firing bound → InTime n cost α r → Kept r bound
kept_by n cost α r bound tells in_time = elim (le_or_lt 256 r.firing) [ inl l ↦ inl (tells.late l) | inr l ↦ early (tells.early l) ]
  where
    early : (t : ℕ) × Finish n α cost r.task r.firing t × (bound ≡ cond (leb t ceiling) t 0) → Kept r bound
    early e = go (leb e.0 ceiling) e.2
      where
        go : (b : Bool) → bound ≡ cond b e.0 0 → Kept r bound
        go true q = inr (omega (arith, q, in_time e.0 e.1))
        go false q = inl q

-- A line is short.
line_short :
    (names : List (List ℕ)) (r : Finished) (bound : ℕ) → length (slice_index_or names r.task []) ≤ 12 → r.firing < 2 ^ 64 → r.clock < 2 ^ 64 → bound < 2 ^ 64 →
    length (record_line names r bound) ≤ 76
line_short names r bound name firing clock small =
    let wide : 2 ^ 64 < 10 ^ 20 = lit< tt in
    let a : length (decimal r.firing) ≤ 20 = length-decimal-le 20 r.firing (lit< tt) (omega (arith, firing, wide)) firing in
    let b : length (decimal r.clock) ≤ 20 = length-decimal-le 20 r.clock (lit< tt) (omega (arith, clock, wide)) clock in
    let c : length (decimal bound) ≤ 20 = length-decimal-le 20 bound (lit< tt) (omega (arith, small, wide)) small in
    simp length-append (omega arith)

pub fits : {U E Z : Type 0} (v : Vec ℕ Z) (bytes : List ℕ) (r : Result U E) (w : Vec ℕ Z) → Puts v bytes r w → vec_len v + length bytes ≤ vec_capacity v → IsOk r × Added v bytes w
fits v bytes (Ok _) w h k = (search rules, h)
fits v bytes (Err _) w h k = absurd (omega (arith, h.short))

-- So a record's line is put where there is room for one.
pub record LinePut {U E Z : Type 0} (names : List (List ℕ)) (r : Finished) (bound : ℕ) (v : Vec ℕ Z) (answer : Result U E) (w : Vec ℕ Z) : Type 0 where
  pub well : IsOk answer
  pub short : length (record_line names r bound) ≤ 76
  pub added : Added v (record_line names r bound) w

pub line_put :
    {U E Z : Type 0} (names : List (List ℕ)) (r : Finished) (bound : ℕ) (name : List ℕ) (v : Vec ℕ Z) (answer : Result U E) (w : Vec ℕ Z) →
    name ≡ slice_index_or names r.task [] → length name ≤ 12 → r.firing < 2 ^ 64 → r.clock < 2 ^ 64 → bound < 2 ^ 64 → vec_len v + 76 ≤ vec_capacity v →
    Puts v (line_of (name ∷ decimal r.firing ∷ decimal r.clock ∷ decimal bound ∷ [])) answer w → LinePut names r bound v answer w
line_put names r bound name v answer w is small firing clock told space put =
    let s = line_short names r bound (subst (λ (l : List ℕ). length l ≤ 12) is small) firing clock told in
    let p = subst (λ (l : List ℕ). Puts v (line_of (l ∷ decimal r.firing ∷ decimal r.clock ∷ decimal bound ∷ [])) answer w) is put in
    let f = fits v (record_line names r bound) answer w p (omega (arith, s, space)) in
    record { well = f.0; short = s; added = f.1 }

module _ {Z : Type 0} (n : Net) (names : List (List ℕ)) (l : Ledger) (belt : Ring Record) (v : Vec ℕ Z) where
  pub at_first : vec_len v + 76 * length (contents belt) ≤ vec_capacity v → SoFar n names l belt v l belt v
  at_first space = record {
    gone = [];
    split = refl;
    bytes = [];
    added = record { items = sym (append-nil (vec_items v)); room = omega arith };
    space = space;
    same_room = refl;
    lines = λ cost α fired knows turns. (none, knows, turns);
  }

  module _ (l' : Ledger) (belt' : Ring Record) (w : Vec ℕ Z) (so_far : SoFar n names l belt v l' belt' w) where
    pub at_last : contents belt' ≡ [] → (belt'' : Ring Record) → belt'' ≡ belt' → Told n names l belt v l' belt'' w
    at_last empty belt'' same =
        let all : so_far.gone ≡ contents belt = sym (so_far.split ∙ ap (λ rs. so_far.gone ++ rs) empty ∙ append-nil so_far.gone) in
        record {
          bytes = so_far.bytes;
          added = so_far.added;
          emptied = ap contents same ∙ empty;
          same_room = ap room same ∙ so_far.same_room;
          lines = λ cost α fired knows turns.
              let f = so_far.lines cost α fired knows turns in
              (subst (λ rs. Lines n cost α names (lying rs) so_far.bytes) all f.0, subst (λ rs. Knows n cost α (with_these fired (lying rs)) l') all f.1);
        }

    pub at_turn :
        (r : Record) (belt'' : Ring Record) (bound : ℕ) (l'' : Ledger) (x : Vec ℕ Z) →
        contents belt' ≡ r ∷ contents belt'' → room belt'' ≡ room belt' → (r.task < n.tasks → Books n r.task l' bound l'') →
        {U E : Type 0} (answer : Result U E) → LinePut names (told r) bound w answer x →
        SoFar n names l belt v l'' belt'' x
    at_turn r belt'' bound l'' x next same books answer line =
        let was = so_far in
        let put = line.added in
        let len : vec_len x ≡ vec_len w + length (record_line names (told r) bound) = len_added w _ x put in
        record {
          gone = was.gone ++ r ∷ [];
          split = was.split ∙ ap (λ rs. was.gone ++ rs) next ∙ sym (append_assoc was.gone (r ∷ []) (contents belt''));
          bytes = was.bytes ++ record_line names (told r) bound;
          added = both v was.bytes w (record_line names (told r) bound) x was.added put;
          space = omega (arith, was.space, ap length next, put.room, line.short);
          same_room = same ∙ was.same_room;
          lines = λ cost α fired knows turns.
              let f = was.lines cost α fired knows turns in
              let fired' = with_these fired (lying was.gone) in
              let t = subst (λ rs. InTurn n cost α fired' (lying rs)) next f.2 in
              let b = books t.0 cost α fired' f.1 t.2 in
              let tells : TellsBound n cost α r.task r.firing bound = subst (λ i. TellsBound n cost α r.task i bound) (sym t.1) b.0 in
              let all : lying (was.gone ++ r ∷ []) ≡ lying was.gone ++ told r ∷ [] = lying_append was.gone (r ∷ []) in
              let ends : with_these fired (lying was.gone ++ told r ∷ []) ≡ more fired' r.task = with_append fired (lying was.gone) (told r ∷ []) in (
                subst (λ rs. Lines n cost α names rs (was.bytes ++ record_line names (told r) bound)) (sym all)
                    (more_of f.0 (told r) bound tells (kept_by n cost α (told r) bound tells t.3)),
                subst (λ (rs : List Finished). Knows n cost α (with_these fired rs) l'') (sym all) (subst (λ (g : ℕ → ℕ). Knows n cost α g l'') (sym ends) b.1),
                subst (λ (rs : List Finished). InTurn n cost α (with_these fired rs) (lying (contents belt''))) (sym all) (subst (λ (g : ℕ → ℕ). InTurn n cost α g (lying (contents belt''))) (sym ends) t.4),
              );
        }
