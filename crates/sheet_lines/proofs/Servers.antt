-- The server that legal settings make, and the refusal of others.
use Rattle.std.proofs.Common.{◌≡◌, ℕ, Bool, true, false, cond, not, Some, None, Ok, Err, Decides, Result, sym, refl, ap, ◌∙◌}
use Rattle.faults.specs.Faults.{fault}
use Rattle.faults.specs.declared.fault.Fault.{Fault}
use Rattle.faults.specs.declared.layer.Layer.TheVariants.{Server}
use Rattle.cells.specs.Checks.{Meets}
use Rattle.kinds.specs.AnyKinds.{LegalAny, IsAny}
use Rattle.kinds.specs.declared.any_kind.AnyKind.{AnyKind}
use Rattle.layers.specs.Stacks.{MakesStack}
use Rattle.layers.specs.declared.stack.Stack.{Stack}
use Rattle.sheets.specs.Pages.{Entry}
use Rattle.sheets.specs.Offers.{Made}
use Rattle.sheets.specs.Checks.{legal_server}
use Rattle.sheets.proofs.Servers.{legal_server_decides}
use Rattle.sheet_lines.specs.Groups.{server_checks}

false_from : {P : Type 0} (b : Bool) → Decides b P → (P → ⊥) → b ≡ false
false_from true d k = absurd (k (d.0 refl))
false_from false d k = refl

-- what the maker of a stack answers over a legal server
pub server_meets : (e : Entry) (b : AnyKind) (at : ℕ) (r : Result (Stack AnyKind) Fault) → LegalAny e.kind e.slice → IsAny e.kind e.slice b → MakesStack b e.layer at r → Meets r (server_checks at e) (Made e)
server_meets e b at (Ok s) l k m = (ap (λ x. cond (not x) (Some (fault 10 Server at 0)) None) ((legal_server_decides e).1 (l, m.0)), (b, k, m.1))
server_meets e b at (Err f) l k m =
    ap (λ x. cond (not x) (Some (fault 10 Server at 0)) None) (false_from (legal_server e) (legal_server_decides e) (λ h. m.1 h.1)) ∙ ap Some (sym m.0)
