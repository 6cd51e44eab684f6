-- The heading, and one task line after another, up to the empty line.
use Rattle.std.proofs.Common.{◌≡◌, ◌+◌, ◌<◌, Bool, true, false, not, [], ◌∷◌, ◌++◌, length, get_or, drop, Some, sym, refl, ap, ◌∙◌, subst, arith}
use Rattle.std.proofs.lemmas.List.{length_push}
use Rattle.cells.specs.Checks.{bad, first}
use Rattle.cells.proofs.Firsts.{first_within, first_after}
use Rattle.headings.specs.declared.table.Table.TheVariants as table
use Rattle.headings.specs.Tables.{heading}
use Rattle.sheets.specs.Pages.{Entry, names}
use Rattle.sheets.specs.Offers.{Made}
use Rattle.sheets.specs.Reads.{entry}
use Rattle.sheets.specs.Checks.{exact_checks, entries_checks, entry_checks}
use Rattle.sheet_lines.proofs.Handed.{handed_on, handed_back}
use Rattle.reader.specs.Numbered.{left}
use Rattle.reader.specs.TableChecks.{task_table}
use Rattle.reader.proofs.LinesMore.{Entering, entering, entered, stopped, closed, broken_off}
use Rattle.reader.proofs.Numbered.{at_stand}
use Rattle.reader.proofs.tables.task_table.Goals as goal
use Rattle.reader.proofs.tables.task_table.Goals.{In_ok-heading, In_ok-line, In_ok-served}

pub returns-in_err-heading : goal.returns-in_err-heading
returns-in_err-heading c =
    let es = c.args.entries.now in
    let ls = left c.args.lines.now in
    let r = c.from_residual in
    handed_on r.result _ (task_table (names es) ls) _ r.ensures.1
    (first_within (exact_checks (heading table.Tasks) 4 (get_or ls 0 [])) (entries_checks (names es) (drop 1 ls)) _
    (at_stand (exact_checks (heading table.Tasks)) 4 ls c.args.lines.now (record { lines = refl; number = c.requires.number }) ∙ c.in_err-heading.ensures))

-- the heading is in order
headed : (c : In_ok-heading) → first (task_table (names c.args.entries.now) (left c.args.lines.now)) ≡ first (entries_checks (names c.args.entries.now) (drop 1 (left c.args.lines.now)))
headed c =
    let es = c.args.entries.now in
    let ls = left c.args.lines.now in
    first_after (exact_checks (heading table.Tasks) 4 (get_or ls 0 [])) (entries_checks (names es) (drop 1 ls))
    (at_stand (exact_checks (heading table.Tasks)) 4 ls c.args.lines.now (record { lines = refl; number = c.requires.number }) ∙ c.in_ok-heading.ensures.0)

pub loop-line-init : goal.loop-line-init
loop-line-init c =
    let none = ap length c.requires.none in
    let p = c.in_ok-heading.ensures.1 in
    record {
      entering = entering c.args.entries.now (drop 1 (left c.args.lines.now)) _ p.lines;
      number = omega (arith, none, p.number, c.requires.number);
      few = omega (arith, none);
    }

-- what is known with the line at hand in front
now : (c : In_ok-line) → Entering c.args.entries.now (drop 1 (left c.args.lines.now)) c.loop-line.entries (c.in_ok-line.line.text.now ∷ left c.wanted.new.self)
now c = subst (Entering c.args.entries.now (drop 1 (left c.args.lines.now)) c.loop-line.entries) c.in_ok-line.ensures.line c.loop-line.invariant.entering

at : (c : In_ok-line) → c.in_ok-line.line.number ≡ 5 + length c.loop-line.entries
at c = c.in_ok-line.ensures.number ∙ c.loop-line.invariant.number

pub returns-in_err-line : goal.returns-in_err-line
returns-in_err-line c =
    let h = goal.at.returns-in_err-line c in
    let es = c.loop-line.entries in
    let k = c.in_err-line.ensures in
    let all = subst (Entering c.args.entries.now (drop 1 (left c.args.lines.now)) es) k.0 c.loop-line.invariant.entering in
    let r = c.from_residual-in_err-line in
    handed_on r.result _ (task_table (names c.args.entries.now) (left c.args.lines.now)) _ r.ensures.1
    (headed h.In_ok-heading ∙ broken_off c.args.entries.now _ es _ all c.loop-line.invariant.number ∙ ap Some (sym k.1))

twice : (b : Bool) → b ≡ not (not b)
twice true = refl
twice false = refl

pub returns-then-is_gap : goal.returns-then-is_gap
returns-then-is_gap c =
    let h = goal.at.returns-then-is_gap c in
    let es = c.loop-line.entries in
    let few = c.loop-line.invariant.few in
    let k = c.in_ok-line.ensures in
    let number = c.loop-line.invariant.number in
    let end = closed c.args.entries.now (drop 1 (left c.args.lines.now)) es c.in_ok-line.line.text.now _ c.in_ok-line.line.number (now h.In_ok-line) (at h.In_ok-line) (sym c.if-is_gap.ensures) in
    let count = ap (λ b. first (bad b 9 c.in_ok-line.line.number 0 ∷ [])) (sym c.is_empty.ensures ∙ twice _) in
    handed_back c.must.result _ _ _ _ (headed h.In_ok-heading ∙ end.decide ∙ count) (λ _ _. (end.say, record { lines = end.past; number = omega (arith, few, number, k.next) })) c.must.ensures

pub returns-in_err-served : goal.returns-in_err-served
returns-in_err-served c =
    let h = goal.at.returns-in_err-served c in
    let l = c.in_ok-line.line in
    let broken = ap (λ ns. first (entry_checks ns l.number l.text.now)) (sym c.above.ensures.names) ∙ c.in_err-served.ensures in
    let r = c.from_residual-in_err-served in
    handed_on r.result _ (task_table (names c.args.entries.now) (left c.args.lines.now)) _ r.ensures.1
    (headed h.In_ok-heading ∙ stopped c.args.entries.now _ c.loop-line.entries l.text.now _ l.number _ (now h.In_ok-line) (at h.In_ok-line) (sym c.if-is_gap.ensures) broken)

-- the line's task is in order
turn : (c : In_ok-served) → Entering c.args.entries.now (drop 1 (left c.args.lines.now)) (c.loop-line.entries ++ entry c.in_ok-served.served.task ∷ []) (left c.wanted.new.self) × (length c.loop-line.entries < 16)
turn c =
    let l = c.in_ok-line.line in
    let fine = ap (λ ns. first (entry_checks ns l.number l.text.now)) (sym c.above.ensures.names) ∙ c.in_ok-served.ensures.0 in
    let before = subst (Entering c.args.entries.now (drop 1 (left c.args.lines.now)) c.loop-line.entries) c.in_ok-line.ensures.line c.loop-line.invariant.entering in
    entered c.args.entries.now _ c.loop-line.entries l.text.now _ l.number (entry c.in_ok-served.served.task) before (c.in_ok-line.ensures.number ∙ c.loop-line.invariant.number) (sym c.if-is_gap.ensures) fine c.in_ok-served.ensures.1.0

pub push-requires-clause-room : goal.push-requires-clause-room
push-requires-clause-room c = let h = goal.at.push-requires-clause-room c in (turn h.In_ok-served).1

pub push-requires-clause-made : goal.push-requires-clause-made
push-requires-clause-made c = subst (λ (e : Entry). Made e c.in_ok-served.served.server) (sym c.in_ok-served.ensures.1.0) c.in_ok-served.ensures.1.1

pub loop-line-preserved : goal.loop-line-preserved
loop-line-preserved c =
    let h = goal.at.loop-line-preserved c in
    let more = turn h.In_ok-served in
    let room = more.1 in
    let many = ap length c.push.ensures ∙ length_push c.loop-line.entries (entry c.in_ok-served.served.task) in
    let k = c.in_ok-line.ensures in
    record {
      entering = subst (λ es. Entering c.args.entries.now (drop 1 (left c.args.lines.now)) es (left c.wanted.new.self)) (sym c.push.ensures) more.0;
      number = omega (arith, room, many, k.next, c.loop-line.invariant.number);
      few = omega (arith, room, many);
    }
