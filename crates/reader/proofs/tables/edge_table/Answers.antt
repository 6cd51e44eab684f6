-- The heading, and one edge line after another.
use Rattle.std.proofs.Common.{◌≡◌, ◌+◌, [], length, get_or, drop, sym, refl, ap, ◌∙◌, subst, arith, rules}
use Rattle.std.proofs.lemmas.List.{length_push}
use Rattle.cells.specs.Checks.{first}
use Rattle.cells.proofs.Firsts.{first_within, first_after}
use Rattle.headings.specs.declared.table.Table.TheVariants as table
use Rattle.headings.specs.Tables.{heading}
use Rattle.sheets.specs.Pages.{names}
use Rattle.sheets.specs.Checks.{exact_checks, edges_checks, edge_checks, edge_of}
use Rattle.sheet_lines.proofs.Handed.{handed_on}
use Rattle.reader.specs.declared.numbered_lines.NumberedLines.{NumberedLines}
use Rattle.reader.specs.Numbered.{left}
use Rattle.reader.specs.TableChecks.{edge_table}
use Rattle.reader.proofs.LinesMore.{Linking, length_names, linking, linked, unlinked, all_linked}
use Rattle.reader.proofs.Numbered.{at_stand}
use Rattle.reader.proofs.tables.edge_table.Goals as goal
use Rattle.reader.proofs.tables.edge_table.Goals.{In_ok-heading, In_ok-edge}

pub returns-in_err-heading : goal.returns-in_err-heading
returns-in_err-heading c =
    let ns = names c.args.entries.now in
    let ls = left c.args.lines.now in
    let number = c.requires.number ∙ ap (λ k. 6 + k) (sym (length_names c.args.entries.now)) in
    let r = c.from_residual in
    handed_on r.result _ (edge_table ns (length c.args.edges.now) ls) _ r.ensures.1
    (first_within (exact_checks (heading table.Edges) (6 + length ns) (get_or ls 0 [])) (edges_checks ns (length c.args.edges.now) (drop 1 ls)) _
    (at_stand (exact_checks (heading table.Edges)) (6 + length ns) ls c.args.lines.now (record { lines = refl; number = number }) ∙ c.in_err-heading.ensures))

-- the heading is in order
headed : (c : In_ok-heading) → first (edge_table (names c.args.entries.now) (length c.args.edges.now) (left c.args.lines.now)) ≡ first (edges_checks (names c.args.entries.now) (length c.args.edges.now) (drop 1 (left c.args.lines.now)))
headed c =
    let ns = names c.args.entries.now in
    let ls = left c.args.lines.now in
    let number = c.requires.number ∙ ap (λ k. 6 + k) (sym (length_names c.args.entries.now)) in
    first_after (exact_checks (heading table.Edges) (6 + length ns) (get_or ls 0 [])) (edges_checks ns (length c.args.edges.now) (drop 1 ls))
    (at_stand (exact_checks (heading table.Edges)) (6 + length ns) ls c.args.lines.now (record { lines = refl; number = number }) ∙ c.in_ok-heading.ensures.0)

pub loop-line-init : goal.loop-line-init
loop-line-init c =
    let p = c.in_ok-heading.ensures.1 in
    let none = ap length c.requires.none in
    let few = c.above-above.ensures.few in
    let same : c.into_iter-line-iterator.result.now ≡ c.heading.new.self = search rules in
    let number = ap (λ (s : NumberedLines). s.number) same ∙ p.number in
    record {
      linking = linking (names c.args.entries.now) c.args.edges.now _ _ (ap left same ∙ p.lines);
      number = omega (arith, none, few, number, c.requires.number, length_names c.args.entries.now);
      few = omega (arith, none);
    }

pub returns-in_err-edge : goal.returns-in_err-edge
returns-in_err-edge c =
    let ns = names c.args.entries.now in
    let ls = left c.args.lines.now in
    let es = c.loop-line.edges in
    let k = c.in-Some.ensures.steps in
    let l = c.in-Some.line in
    let now = subst (Linking ns c.args.edges.now (drop 1 ls) es) k.line c.loop-line.invariant.linking in
    let at = k.number ∙ c.loop-line.invariant.number in
    let broken = ap (λ ms. first (edge_checks ms c.len.result l.number l.text.now)) (sym c.above-above.ensures.names) ∙ c.in_err-edge.ensures in
    let r = c.from_residual-in_err-edge in
    handed_on r.result _ (edge_table ns (length c.args.edges.now) ls) _ r.ensures.1
    (headed (goal.at.returns-in_err-edge c).In_ok-heading ∙ unlinked ns c.args.edges.now (drop 1 ls) es _ _ _ _ _ now at c.len.ensures.value broken)

pub loop-line-preserved : goal.loop-line-preserved
loop-line-preserved c =
    let ns = names c.args.entries.now in
    let ls = left c.args.lines.now in
    let es = c.loop-line.edges in
    let k = c.in-Some.ensures.steps in
    let l = c.in-Some.line in
    let now = subst (Linking ns c.args.edges.now (drop 1 ls) es) k.line c.loop-line.invariant.linking in
    let at = k.number ∙ c.loop-line.invariant.number in
    let e = c.in_ok-edge.ensures in
    let fine = ap (λ ms. first (edge_checks ms c.len.result l.number l.text.now)) (sym c.above-above.ensures.names) ∙ e.0 in
    let says = e.1 ∙ ap (λ ms. edge_of ms l.text.now) c.above-above.ensures.names in
    let more = linked ns c.args.edges.now (drop 1 ls) es _ _ _ _ c.in_ok-edge.edge now at c.len.ensures.value fine says in
    let room = more.1 in
    let few = c.above-above.ensures.few in
    let many = ap length c.push.ensures ∙ length_push es c.in_ok-edge.edge in
    record {
      linking = subst (λ x. Linking ns c.args.edges.now (drop 1 ls) x (left c.next.new.self.now)) (sym c.push.ensures) more.0;
      number = omega (arith, room, few, many, k.next, c.loop-line.invariant.number, length_names c.args.entries.now);
      few = omega (arith, room, many);
    }

pub returns : goal.returns
returns c =
    let ns = names c.args.entries.now in
    let ls = left c.args.lines.now in
    let all = all_linked ns c.args.edges.now (drop 1 ls) c.loop-line.edges (subst (Linking ns c.args.edges.now (drop 1 ls) c.loop-line.edges) c.in-None.ensures.steps.0 c.loop-line.invariant.linking) in (
      headed (goal.at.returns c).In_ok-heading ∙ all.0,
      all.1,
    )
