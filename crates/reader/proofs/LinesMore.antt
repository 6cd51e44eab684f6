-- One line more of a table.
use Rattle.std.proofs.Common.{◌≡◌, ℕ, ◌+◌, ◌<◌, true, false, cond, eqb, List, [], ◌∷◌, ◌++◌, map, length, Some, None, sym, ap, ◌∙◌, append_assoc, arith}
use Rattle.std.proofs.lemmas.List.{map_push, append-nil, length_push, length-map}
use Rattle.std.proofs.lemmas.Bool.{leb-false}
use Rattle.faults.specs.Faults.{fault}
use Rattle.faults.specs.declared.fault.Fault.{Fault}
use Rattle.faults.specs.declared.layer.Layer.TheVariants as layer
use Rattle.cells.specs.Bytes.{field}
use Rattle.cells.specs.Checks.{bad, first}
use Rattle.cells.proofs.Firsts.{first_within, first_after, passed}
use Rattle.graph.specs.declared.parts.Edge.{Edge}
use Rattle.sheets.specs.Pages.{Entry, names}
use Rattle.sheets.specs.Checks.{empty, entry_checks, entries_checks, edge_checks, edges_checks, up_to_empty, past_empty, entry_of, edge_of}

pub length_names : (es : List Entry) → length (names es) ≡ length es
length_names es = length-map es (λ e. e.name)

names_push : (es : List Entry) (e : Entry) → names (es ++ e ∷ []) ≡ names es ++ e.name ∷ []
names_push es e = map_push (λ (x : Entry). x.name) es e

-- The tasks es0 stood there before lines ls0; now es do, and lines ls are left, which decide as the whole does.
pub record Entering (es0 : List Entry) (ls0 : List (List ℕ)) (es : List Entry) (ls : List (List ℕ)) : Type 0 where
  pub decide : first (entries_checks (names es0) ls0) ≡ first (entries_checks (names es) ls)
  pub say : es0 ++ map entry_of (up_to_empty ls0) ≡ es ++ map entry_of (up_to_empty ls)
  pub past : past_empty ls0 ≡ past_empty ls

pub entering : (es : List Entry) (ls ms : List (List ℕ)) → ms ≡ ls → Entering es ls es ms
entering es ls ms e = record { decide = ap (λ x. first (entries_checks (names es) x)) (sym e); say = ap (λ x. es ++ map entry_of (up_to_empty x)) (sym e); past = ap past_empty (sym e) }

-- a line of a task, in order or not

line_checks : (es : List Entry) (l : List ℕ) (ls : List (List ℕ)) (at : ℕ) → at ≡ 5 + length es → empty l ≡ false → first (entries_checks (names es) (l ∷ ls)) ≡ first (entry_checks (names es) at l ++ entries_checks (names es ++ field 0 l ∷ []) ls)
line_checks es l ls at a n =
    let more = entries_checks (names es ++ field 0 l ∷ []) ls in
    let number = ap (λ k. 5 + k) (length_names es) ∙ sym a in
    ap (λ b. first (cond b (bad (eqb (length (names es)) 0) 9 (5 + length (names es)) 0 ∷ []) (entry_checks (names es) (5 + length (names es)) l ++ more))) n
    ∙ ap (λ k. first (entry_checks (names es) k l ++ more)) number

pub entered : (es0 : List Entry) (ls0 : List (List ℕ)) (es : List Entry) (l : List ℕ) (ls : List (List ℕ)) (at : ℕ) (e : Entry) → Entering es0 ls0 es (l ∷ ls) → at ≡ 5 + length es → empty l ≡ false → first (entry_checks (names es) at l) ≡ None → e ≡ entry_of l → Entering es0 ls0 (es ++ e ∷ []) ls × (length es < 16)
entered es0 ls0 es l ls at e k a n p r =
    let name : field 0 l ≡ e.name = sym (ap (λ (q : Entry). q.name) r) in
    let more = up_to_empty ls in (
      record {
        decide = k.decide ∙ line_checks es l ls at a n ∙ first_after (entry_checks (names es) at l) (entries_checks (names es ++ field 0 l ∷ []) ls) p
            ∙ ap (λ m. first (entries_checks (names es ++ m ∷ []) ls)) name ∙ ap (λ ns. first (entries_checks ns ls)) (sym (names_push es e));
        say = k.say ∙ ap (λ b. es ++ map entry_of (cond b [] (l ∷ more))) n ∙ ap (λ q. es ++ (q ∷ map entry_of more)) (sym r) ∙ sym (append_assoc es (e ∷ []) (map entry_of more));
        past = k.past ∙ ap (λ b. cond b ls (past_empty ls)) n;
      },
      omega (arith, leb-false 16 (length (names es)) (passed (entry_checks (names es) at l) p).1.0, length_names es),
    )

pub stopped : (es0 : List Entry) (ls0 : List (List ℕ)) (es : List Entry) (l : List ℕ) (ls : List (List ℕ)) (at : ℕ) (f : Fault) → Entering es0 ls0 es (l ∷ ls) → at ≡ 5 + length es → empty l ≡ false → first (entry_checks (names es) at l) ≡ Some f → first (entries_checks (names es0) ls0) ≡ Some f
stopped es0 ls0 es l ls at f k a n p = k.decide ∙ line_checks es l ls at a n ∙ first_within (entry_checks (names es) at l) (entries_checks (names es ++ field 0 l ∷ []) ls) f p

-- the empty line that ends the table
pub record Closed (es0 : List Entry) (ls0 : List (List ℕ)) (es : List Entry) (ls : List (List ℕ)) (at : ℕ) : Type 0 where
  pub decide : first (entries_checks (names es0) ls0) ≡ first (bad (eqb (length es) 0) 9 at 0 ∷ [])
  pub say : es ≡ es0 ++ map entry_of (up_to_empty ls0)
  pub past : ls ≡ past_empty ls0

pub closed : (es0 : List Entry) (ls0 : List (List ℕ)) (es : List Entry) (l : List ℕ) (ls : List (List ℕ)) (at : ℕ) → Entering es0 ls0 es (l ∷ ls) → at ≡ 5 + length es → empty l ≡ true → Closed es0 ls0 es ls at
closed es0 ls0 es l ls at k a n =
    let more = entry_checks (names es) (5 + length (names es)) l ++ entries_checks (names es ++ field 0 l ∷ []) ls in
    let test = ap (λ m. eqb m 0) (length_names es) in
    let number = ap (λ m. 5 + m) (length_names es) ∙ sym a in
    record {
      decide = k.decide ∙ ap (λ b. first (cond b (bad (eqb (length (names es)) 0) 9 (5 + length (names es)) 0 ∷ []) more)) n ∙ (λ i. first (bad (test i) 9 (number i) 0 ∷ []));
      say = sym (k.say ∙ ap (λ b. es ++ map entry_of (cond b [] (l ∷ up_to_empty ls))) n ∙ append-nil es);
      past = sym (k.past ∙ ap (λ b. cond b ls (past_empty ls)) n);
    }

-- the text ends within the table
pub broken_off : (es0 : List Entry) (ls0 : List (List ℕ)) (es : List Entry) (at : ℕ) → Entering es0 ls0 es [] → at ≡ 5 + length es → first (entries_checks (names es0) ls0) ≡ Some (fault 3 layer.Reader at 0)
broken_off es0 ls0 es at k a = k.decide ∙ ap (λ n. Some (fault 3 layer.Reader n 0)) (ap (λ m. 5 + m) (length_names es) ∙ sym a)

-- The same of edges; the tasks' names are ns.
pub record Linking (ns : List (List ℕ)) (es0 : List Edge) (ls0 : List (List ℕ)) (es : List Edge) (ls : List (List ℕ)) : Type 0 where
  pub decide : first (edges_checks ns (length es0) ls0) ≡ first (edges_checks ns (length es) ls)
  pub say : es0 ++ map (edge_of ns) ls0 ≡ es ++ map (edge_of ns) ls

pub linking : (ns : List (List ℕ)) (es : List Edge) (ls ms : List (List ℕ)) → ms ≡ ls → Linking ns es ls es ms
linking ns es ls ms e = record { decide = ap (λ x. first (edges_checks ns (length es) x)) (sym e); say = ap (λ x. es ++ map (edge_of ns) x) (sym e) }

pub linked : (ns : List (List ℕ)) (es0 : List Edge) (ls0 : List (List ℕ)) (es : List Edge) (l : List ℕ) (ls : List (List ℕ)) (at k : ℕ) (e : Edge) → Linking ns es0 ls0 es (l ∷ ls) → at ≡ 7 + (length ns + length es) → k ≡ length es → first (edge_checks ns k at l) ≡ None → e ≡ edge_of ns l → Linking ns es0 ls0 (es ++ e ∷ []) ls × (length es < 48)
linked ns es0 ls0 es l ls at k e g a c p r =
    let q = (λ i. first (edge_checks ns (sym c i) (sym a i) l)) ∙ p in (
      record {
        decide = g.decide ∙ first_after (edge_checks ns (length es) (7 + (length ns + length es)) l) (edges_checks ns (length es + 1) ls) q ∙ ap (λ m. first (edges_checks ns m ls)) (sym (length_push es e));
        say = g.say ∙ ap (λ x. es ++ (x ∷ map (edge_of ns) ls)) (sym r) ∙ sym (append_assoc es (e ∷ []) (map (edge_of ns) ls));
      },
      leb-false 48 (length es) (passed (edge_checks ns (length es) (7 + (length ns + length es)) l) q).1.1.0,
    )

pub unlinked : (ns : List (List ℕ)) (es0 : List Edge) (ls0 : List (List ℕ)) (es : List Edge) (l : List ℕ) (ls : List (List ℕ)) (at k : ℕ) (f : Fault) → Linking ns es0 ls0 es (l ∷ ls) → at ≡ 7 + (length ns + length es) → k ≡ length es → first (edge_checks ns k at l) ≡ Some f → first (edges_checks ns (length es0) ls0) ≡ Some f
unlinked ns es0 ls0 es l ls at k f g a c p =
    g.decide ∙ first_within (edge_checks ns (length es) (7 + (length ns + length es)) l) (edges_checks ns (length es + 1) ls) f ((λ i. first (edge_checks ns (sym c i) (sym a i) l)) ∙ p)

-- no line is left
pub all_linked : (ns : List (List ℕ)) (es0 : List Edge) (ls0 : List (List ℕ)) (es : List Edge) → Linking ns es0 ls0 es [] → (first (edges_checks ns (length es0) ls0) ≡ None) × (es ≡ es0 ++ map (edge_of ns) ls0)
all_linked ns es0 ls0 es g = (g.decide, sym (g.say ∙ append-nil es))
