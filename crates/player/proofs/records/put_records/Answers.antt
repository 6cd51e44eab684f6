-- One line more, and all of them.
use Rattle.std.proofs.Common.{◌+◌, ◌<◌, ◌≤◌, ◌^◌, length, arith, rules, map, vec_len, vec_capacity, ap}
use Rattle.sheets.specs.Pages.{names}
use Rattle.sheets.specs.Reads.{entry}
use Rattle.runner.specs.Records.{told}
use Rattle.player.proofs.Telling.{at_first, at_turn, at_last, line_put}
use Rattle.player.proofs.records.put_records.Goals as goal

pub loop-record-init : goal.loop-record-init
loop-record-init c = at_first _ _ _ _ _ c.requires

pub unwrap-requires : goal.unwrap-requires
unwrap-requires c =
    let r = c.in-Some.record in
    let firing : c.in-Some.record.firing < 2 ^ 64 = search rules in
    let clock : c.in-Some.record.clock < 2 ^ 64 = search rules in
    let bound : c.bound-bound.result < 2 ^ 64 = search rules in
    let space : vec_len c.loop-record.out + 76 ≤ vec_capacity c.loop-record.out = omega (arith, c.loop-record.invariant.space, ap length c.in-Some.ensures.0) in
    (line_put (names (map entry c.args.tasks.now)) (told r) c.bound-bound.result c.name_at.result.now c.loop-record.out c.put_line.result c.put_line.new.out c.name_at.ensures.is c.name_at.ensures.short firing clock bound space c.put_line.ensures).well

pub loop-record-preserved : goal.loop-record-preserved
loop-record-preserved c =
    let r = c.in-Some.record in
    let firing : c.in-Some.record.firing < 2 ^ 64 = search rules in
    let clock : c.in-Some.record.clock < 2 ^ 64 = search rules in
    let bound : c.bound-bound.result < 2 ^ 64 = search rules in
    let space : vec_len c.loop-record.out + 76 ≤ vec_capacity c.loop-record.out = omega (arith, c.loop-record.invariant.space, ap length c.in-Some.ensures.0) in
    let line = line_put (names (map entry c.args.tasks.now)) (told r) c.bound-bound.result c.name_at.result.now c.loop-record.out c.put_line.result c.put_line.new.out c.name_at.ensures.is c.name_at.ensures.short firing clock bound space c.put_line.ensures in
    at_turn _ _ _ _ _ _ _ _ c.loop-record.invariant r _ c.bound-bound.result _ _ c.in-Some.ensures.0 c.in-Some.ensures.1 c.bound-bound.ensures.books c.put_line.result line

pub returns : goal.returns
returns c = at_last _ _ _ _ _ _ _ _ c.loop-record.invariant c.in_default.ensures.0 _ c.in_default.ensures.1
