-- What `get` finds.
use Rattle.std.proofs.Common.{◌≡◌, ℕ, zero, suc, ◌<◌, ◌≤◌, List, [], ◌∷◌, map, length, get_or, Option, Some, None, IfSome, MatchOption, Bor, refl, ap, ◌∙◌, arith, rules}
use Rattle.names.specs.Names.{name_bytes}
use Rattle.sheets.specs.declared.sheet.SheetTask.{SheetTask}
use Rattle.sheets.specs.Pages.{names}
use Rattle.sheets.specs.Reads.{entry}
use Rattle.player.proofs.lookup.name_at.Goals as goal

within : (ts : List SheetTask) (i : ℕ) (t : SheetTask) → i < length ts → t ≡ get_or ts i t → name_bytes t.name ≡ get_or (names (map entry ts)) i []
within [] i t h e = absurd (omega arith)
within (u ∷ ts) zero t h e = ap (λ x. name_bytes x.name) e
within (u ∷ ts) (suc i) t h e = within ts i t (omega arith) e

past : (ts : List SheetTask) (i : ℕ) → length ts ≤ i → [] ≡ get_or (names (map entry ts)) i []
past [] i h = refl
past (u ∷ ts) zero h = absurd (omega arith)
past (u ∷ ts) (suc i) h = past ts i (omega arith)

named : (ts : List SheetTask) (i : ℕ) (o : Option (Bor SheetTask)) (name : List ℕ) → MatchOption o (name ≡ []) (λ x. name ≡ name_bytes x.now.name) → IfSome o (λ x. x.now ≡ get_or ts i x.now) → MatchOption o (length ts ≤ i) (λ x. i < length ts) → name ≡ get_or (names (map entry ts)) i []
named ts i (Some x) name n e h = n ∙ within ts i x.now h e
named ts i None name n e h = n ∙ past ts i h

pub returns-clause-is : goal.returns-clause-is
returns-clause-is c =
    let ts = c.args.tasks.now in
    let f = c.get.ensures.lookup in
    let name : MatchOption c.get.result (c.map_or.result.now ≡ []) (λ x. c.map_or.result.now ≡ name_bytes x.now.name) = search rules in
    let there : MatchOption c.get.result (length c.args.tasks.now ≤ c.args.place) (λ x. c.args.place < length c.args.tasks.now) = grind (arith) in
    named ts c.args.place c.get.result _ name f.1 there
