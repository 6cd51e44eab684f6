-- A line that is taken, or whose name no task has.
use Rattle.std.proofs.Common.{◌≡◌, ℕ, List, [], ◌++◌, map, Option, Some, None, MatchOption, Vec, vec_items, refl, sym, ap, ◌∙◌, subst, append-nil}
use Rattle.faults.specs.Faults.{fault, fault_line}
use Rattle.faults.specs.declared.layer.Layer.TheVariants as layer
use Rattle.lexer.specs.Text.{end}
use Rattle.sheets.specs.declared.sheet.SheetTask.{SheetTask}
use Rattle.sheets.specs.Pages.{names}
use Rattle.sheets.specs.Reads.{entry}
use Rattle.texts.specs.Puts.{Added}
use Rattle.calls.specs.declared.call_line.CallLine.{CallLine}
use Rattle.player.specs.Works.{work_in}
use Rattle.player.specs.Openings.{Only, Taken}
use Rattle.player.specs.declared.player.Player.{Player}
use Rattle.player.specs.declared.work.Work.{Work}
use Rattle.player.proofs.Stepping.{Roomy}

module _ {R Z : Type 0} (p q : Player R) (line : CallLine) (v w : Vec ℕ Z) (work : Work) (only : Only p work q) (ts : List SheetTask) (same : ts ≡ vec_items p.tasks) where
  asked : (o : Option Work) → o ≡ work_in (names (map entry ts)) line → work_in (names (map entry (vec_items p.tasks))) line ≡ o
  asked o e = ap (λ us. work_in (names (map entry us)) line) (sym same) ∙ sym e

  pub line_taken : Some work ≡ work_in (names (map entry ts)) line → Roomy v w → Taken p line v q w
  line_taken is roomy = record {
    bytes = [];
    added = record { items = roomy.items ∙ sym (append-nil (vec_items v)); room = roomy.more };
    takes = record {
      work = work;
      only = only;
      is = subst (λ o. MatchOption o ((work.left ≡ 0) × ([] ≡ fault_line (fault 13 layer.Runner 0 0) ++ end)) (λ u. (work ≡ u) × (◌≡◌ {A = List ℕ} [] []))) (sym (asked (Some work) is)) (refl, refl);
    };
  }

  pub line_refused : None ≡ work_in (names (map entry ts)) line → work.left ≡ 0 → Added v (fault_line (fault 13 layer.Runner 0 0) ++ end) w → Taken p line v q w
  line_refused is idle added = record {
    bytes = fault_line (fault 13 layer.Runner 0 0) ++ end;
    added = added;
    takes = record {
      work = work;
      only = only;
      is = subst (λ o. MatchOption o ((work.left ≡ 0) × (fault_line (fault 13 layer.Runner 0 0) ++ end ≡ fault_line (fault 13 layer.Runner 0 0) ++ end)) (λ u. (work ≡ u) × (fault_line (fault 13 layer.Runner 0 0) ++ end ≡ []))) (sym (asked None is)) (idle, refl);
    };
  }
