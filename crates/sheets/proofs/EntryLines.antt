-- A task's line and the task that it writes.
use Rattle.std.proofs.Common.{◌≡◌, ℕ, ◌<◌, ◌≤◌, Bool, true, false, cond, not, eqb, ◌⊎◌, List, [], ◌∷◌, ◌++◌, length, get_or, None, decimal, sym, refl, ap, ◌∙◌, inl, inr, arith}
use Rattle.std.proofs.lemmas.Bool.Decides.{nat_tests}
use Rattle.std.proofs.lemmas.Bool.{not-false, not_from_true, leb-false, lt-leb}
use Rattle.servers.specs.Settings.{LegalFixed}
use Rattle.servers.specs.declared.settings.Settings.{Settings}
use Rattle.kinds.specs.AnyKinds.{LegalAny}
use Rattle.kinds.specs.Words.{kind_word}
use Rattle.kinds.specs.declared.kind.Kind.{Kind}
use Rattle.kinds.specs.declared.kind.Kind.TheVariants.{Own, Fixed, Float}
use Rattle.layers.specs.Stacks.{NoLayer}
use Rattle.lexer.specs.Text.{fields, line_of}
use Rattle.cells.specs.Bytes.{well, field}
use Rattle.cells.specs.Values.{value, named}
use Rattle.cells.specs.Checks.{first}
use Rattle.cells.proofs.Firsts.{passed, all_none}
use Rattle.cells.proofs.Parts.{line_back}
use Rattle.sheets.specs.Pages.{Entry, settings_cells, entry_cells, entry_line}
use Rattle.sheets.specs.Legal.{LegalEntry}
use Rattle.sheets.specs.Checks.{taken, legal_server, entry_of, entry_checks}
use Rattle.sheets.proofs.Servers.{legal_server_decides}
use Rattle.sheets.proofs.Cells.{cells_are, fields_count, parted_at, number_is, number_at, value_at, decimal_cell, name_cell, kind_is, kind_at, kind_back, kind_cell, LineBack, line_is}

-- A task whose line is in order.
pub record Fine (e : Entry) : Type 0 where
  pub legal : LegalEntry e
  pub least : 1 ≤ e.time
  pub most : e.time ≤ 65535

pub record EntryRead (ns : List (List ℕ)) (l : List ℕ) : Type 0 where
  pub is : entry_line (entry_of l) ≡ l
  pub fine : Fine (entry_of l)
  pub free : taken ns (field 0 l) ≡ false
  pub room : length ns < 16

bit : (n : ℕ) → n ≤ 1 → cond (eqb n 1) 1 0 ≡ n
bit n h = grind (arith, nat_tests)

-- a line that passes its checks is the written form of what it says
pub entry_read : (ns : List (List ℕ)) (line : ℕ) (l : List ℕ) → first (entry_checks ns line l) ≡ None → EntryRead ns l
entry_read ns line l e =
    let p = passed (entry_checks ns line l) e in
    let w = not-false (well l) p.0 in
    let n = fields_count 10 l p.1.1.0 in
    let q = p.1.1.1 in
    let name = not-false (named (field 0 l)) q.0 in
    let time = number_is 1 65535 (field 1 l) q.1.0 in
    let kind = kind_is (field 2 l) q.1.1.0 in
    let r = q.1.1.1 in
    let period = number_is 1 65535 (field 3 l) r.0 in
    let slice = number_is 1 65535 (field 4 l) r.1.0 in
    let phase = number_is 0 65534 (field 5 l) r.1.1.0 in
    let s = r.1.1.1 in
    let inner = number_is 0 65535 (field 6 l) s.0 in
    let inslice = number_is 0 65535 (field 7 l) s.1.0 in
    let inphase = number_is 0 65534 (field 8 l) s.1.1.0 in
    let inlet = number_is 0 1 (field 9 l) s.1.1.1.0 in
    let flag = ap decimal (bit (value (field 9 l)) inlet.most) ∙ inlet.is in
    let server = (legal_server_decides (entry_of l)).0 (not-false (legal_server (entry_of l)) s.1.1.1.1.1.0) in
    let same : entry_cells (entry_of l) ≡ fields l = (λ i. field 0 l ∷ time.is i ∷ kind i ∷ period.is i ∷ slice.is i ∷ phase.is i ∷ inner.is i ∷ inslice.is i ∷ inphase.is i ∷ flag i ∷ []) ∙ sym (cells_are 0 10 (fields l) n) in
    record {
      is = ap line_of same ∙ sym (line_back l w);
      fine = record { legal = record { name = name; server = server.0; layer = server.1 }; least = time.least; most = time.most };
      free = s.1.1.1.1.0;
      room = leb-false 16 (length ns) p.1.0;
    }

-- The numbers of settings, as their columns take them.
pub record InRange (low : ℕ) (s : Settings) : Type 0 where
  pub long : low ≤ s.period
  pub period : s.period ≤ 65535
  pub some : low ≤ s.slice
  pub slice : s.slice ≤ 65535
  pub phase : s.phase ≤ 65534

fixed_range : (s : Settings) → LegalFixed s → InRange 1 s
fixed_range s h = record { long = omega arith; period = omega arith; some = omega arith; slice = omega arith; phase = omega arith }

server_range : (k : Kind) (s : Settings) → LegalAny k s → InRange 1 s
server_range Own s h = record { long = omega arith; period = omega arith; some = omega arith; slice = omega arith; phase = omega arith }
server_range Fixed s h = fixed_range s h
server_range Float s h = fixed_range s (h.0, omega arith)

layer_range : (s : Settings) → NoLayer s ⊎ LegalFixed s → InRange 0 s
layer_range s (inl h) = record { long = omega arith; period = omega arith; some = omega arith; slice = omega arith; phase = omega arith }
layer_range s (inr h) = let r = fixed_range s h in record { long = omega arith; period = r.period; some = omega arith; slice = r.slice; phase = r.phase }

flag_small : (b : Bool) → cond b 1 0 ≤ 1
flag_small true = omega arith
flag_small false = omega arith

flag_back : (b : Bool) → eqb (cond b 1 0) 1 ≡ b
flag_back true = refl
flag_back false = refl

-- what a task is written as
pub entry_back : (e : Entry) → Fine e → LineBack (entry_cells e)
entry_back e f =
    let s = server_range e.kind e.slice f.legal.server in
    let t = layer_range e.layer f.legal.layer in
    let name = name_cell e.name f.legal.name in
    let time = decimal_cell e.time (omega (arith, f.most)) in
    let period = decimal_cell e.slice.period (omega (arith, s.period)) in
    let slice = decimal_cell e.slice.slice (omega (arith, s.slice)) in
    let phase = decimal_cell e.slice.phase (omega (arith, s.phase)) in
    let inner = decimal_cell e.layer.period (omega (arith, t.period)) in
    let inslice = decimal_cell e.layer.slice (omega (arith, t.slice)) in
    let inphase = decimal_cell e.layer.phase (omega (arith, t.phase)) in
    let inlet = decimal_cell (cond e.inlet 1 0) (omega (arith, flag_small e.inlet)) in
    line_is e.name (decimal e.time ∷ kind_word e.kind ∷ (settings_cells e.slice ++ (settings_cells e.layer ++ (decimal (cond e.inlet 1 0) ∷ []))))
    (name, (time, (kind_cell e.kind, (period, (slice, (phase, (inner, (inslice, (inphase, (inlet, tt))))))))))

pub entry_same : (e : Entry) → Fine e → entry_of (entry_line e) ≡ e
entry_same e f =
    let s = server_range e.kind e.slice f.legal.server in
    let t = layer_range e.layer f.legal.layer in
    let l = entry_line e in
    let at = λ (k : ℕ). ap (λ x. get_or x k []) (entry_back e f).cut in
    let time = value_at e.time (field 1 l) (at 1) (omega (arith, f.most)) in
    let kind = kind_back e.kind (field 2 l) (at 2) in
    let period = value_at e.slice.period (field 3 l) (at 3) (omega (arith, s.period)) in
    let slice = value_at e.slice.slice (field 4 l) (at 4) (omega (arith, s.slice)) in
    let phase = value_at e.slice.phase (field 5 l) (at 5) (omega (arith, s.phase)) in
    let inner = value_at e.layer.period (field 6 l) (at 6) (omega (arith, t.period)) in
    let inslice = value_at e.layer.slice (field 7 l) (at 7) (omega (arith, t.slice)) in
    let inphase = value_at e.layer.phase (field 8 l) (at 8) (omega (arith, t.phase)) in
    let inlet = ap (λ n. eqb n 1) (value_at (cond e.inlet 1 0) (field 9 l) (at 9) (omega (arith, flag_small e.inlet))) ∙ flag_back e.inlet in
    λ i. record { name = at 0 i; time = time i; kind = kind i; slice = record { period = period i; slice = slice i; phase = phase i }; layer = record { period = inner i; slice = inslice i; phase = inphase i }; inlet = inlet i }

pub entry_clear : (ns : List (List ℕ)) (line : ℕ) (e : Entry) → Fine e → taken ns e.name ≡ false → length ns < 16 → first (entry_checks ns line (entry_line e)) ≡ None
entry_clear ns line e f free room =
    let l = entry_line e in
    let b = entry_back e f in
    let c = b.cut in
    let s = server_range e.kind e.slice f.legal.server in
    let t = layer_range e.layer f.legal.layer in
    let at = λ (k : ℕ). ap (λ x. get_or x k []) b.cut in
    let shape = parted_at 10 l (entry_cells e) c b.filled refl in
    let name = ap (λ x. not (named (get_or x 0 []))) c ∙ not_from_true (named e.name) f.legal.name in
    let time = number_at 1 65535 e.time (field 1 l) (at 1) (omega arith) f.least f.most in
    let kind = kind_at e.kind (field 2 l) (at 2) in
    let period = number_at 1 65535 e.slice.period (field 3 l) (at 3) (omega arith) s.long s.period in
    let slice = number_at 1 65535 e.slice.slice (field 4 l) (at 4) (omega arith) s.some s.slice in
    let phase = number_at 0 65534 e.slice.phase (field 5 l) (at 5) (omega arith) (omega arith) s.phase in
    let inner = number_at 0 65535 e.layer.period (field 6 l) (at 6) (omega arith) t.long t.period in
    let inslice = number_at 0 65535 e.layer.slice (field 7 l) (at 7) (omega arith) t.some t.slice in
    let inphase = number_at 0 65534 e.layer.phase (field 8 l) (at 8) (omega arith) (omega arith) t.phase in
    let inlet = number_at 0 1 (cond e.inlet 1 0) (field 9 l) (at 9) (omega arith) (omega arith) (flag_small e.inlet) in
    let new = ap (λ x. taken ns (get_or x 0 [])) c ∙ free in
    let server = ap (λ x. not (legal_server x)) (entry_same e f) ∙ not_from_true (legal_server e) ((legal_server_decides e).1 (f.legal.server, f.legal.layer)) in
    all_none (entry_checks ns line l)
    (not_from_true (well l) b.fine, (lt-leb 16 (length ns) room, (shape, (name, (time, (kind, (period, (slice, (phase, (inner, (inslice, (inphase, (inlet, (new, (server, tt)))))))))))))))
