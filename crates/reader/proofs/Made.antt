-- One task more, with its server and what a graph keeps of it.
use Rattle.std.proofs.Common.{◌≡◌, List, [], ◌∷◌, ◌++◌, map, sym, ap, ◌∙◌, subst}
use Rattle.std.proofs.lemmas.List.{map_push}
use Rattle.kinds.specs.declared.any_kind.AnyKind.{AnyKind}
use Rattle.layers.specs.declared.stack.Stack.{Stack}
use Rattle.graph.specs.declared.parts.Task.{Task}
use Rattle.sheets.specs.declared.sheet.SheetTask.{SheetTask}
use Rattle.sheets.specs.Pages.{Entry, task_of}
use Rattle.sheets.specs.Offers.{Made, AllMade}
use Rattle.sheets.specs.Reads.{entry}
use Rattle.reader.specs.Matched.{Matched}

all_made_push : (es : List Entry) (ss : List (Stack AnyKind)) (e : Entry) (s : Stack AnyKind) → AllMade es ss → Made e s → AllMade (es ++ e ∷ []) (ss ++ s ∷ [])
all_made_push [] [] e s a m = (m, tt)
all_made_push [] (x ∷ ss) e s a m = absurd a
all_made_push (x ∷ es) [] e s a m = absurd a
all_made_push (x ∷ es) (y ∷ ss) e s a m = (a.0, all_made_push es ss e s a.1 m)

pub matched_push : (ts us : List SheetTask) (ps qs : List Task) (ss rs : List (Stack AnyKind)) (t : SheetTask) (s : Stack AnyKind) → Matched ts ps ss → Made (entry t) s → us ≡ ts ++ t ∷ [] → qs ≡ ps ++ task_of (entry t) ∷ [] → rs ≡ ss ++ s ∷ [] → Matched us qs rs
matched_push ts us ps qs ss rs t s k m u q r =
    let pushed = ap (map entry) u ∙ map_push entry ts t in
    record {
      parts = q ∙ ap (λ x. x ++ task_of (entry t) ∷ []) k.parts ∙ sym (map_push task_of (map entry ts) (entry t)) ∙ ap (map task_of) (sym pushed);
      made = subst (λ es. AllMade es rs) (sym pushed) (subst (AllMade (map entry ts ++ entry t ∷ [])) (sym r) (all_made_push (map entry ts) ss (entry t) s k.made m));
    }
