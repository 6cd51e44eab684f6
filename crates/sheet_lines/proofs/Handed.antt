-- What a `?` hands on.
use Rattle.std.proofs.Common.{◌≡◌, List, IsErrAnd, Some, Ok, Err, Result, sym, ap, ◌∙◌, subst}
use Rattle.std.proofs.lemmas.Result.{err_from_is_err_and}
use Rattle.faults.specs.declared.fault.Fault.{Fault}
use Rattle.cells.specs.Checks.{Check, Meets, first}

pub handed_on : {X : Type 0} (r : Result X Fault) (f : Fault) (cs : List Check) (P : X → Type 0) → IsErrAnd r (λ e. e ≡ f) → first cs ≡ Some f → Meets r cs P
handed_on r f cs P e k = let p = err_from_is_err_and r e in subst (λ s. Meets s cs P) (sym (p.1 ∙ ap Err p.2)) k

-- an answer after checks that decide the same
pub handed_back : {X : Type 0} (r : Result X Fault) (cs ds : List Check) (P Q : X → Type 0) → first cs ≡ first ds → ((x : X) → P x → Q x) → Meets r ds P → Meets r cs Q
handed_back (Ok x) cs ds P Q e k m = (e ∙ m.0, k x m.1)
handed_back (Err f) cs ds P Q e k m = e ∙ m
