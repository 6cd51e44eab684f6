-- The test of a task's settings decides which are legal, and the server that they make offers what they say.
use Rattle.std.proofs.Common.{◌≡◌, ℕ, zero, suc, ◌<◌, true, false, cond, ◌||◌, ◌⊎◌, List, [], ◌∷◌, length, Decides, sym, refl, ap, ◌∙◌, arith}
use Rattle.std.proofs.lemmas.Bool.Decides.{nat_tests, Decides-and, Decides-or}
use Rattle.std.proofs.lemmas.Bool.{cond-true, cond-false}
use Rattle.servers.specs.Service.{Service}
use Rattle.servers.specs.FixedService.{slice_service}
use Rattle.servers.specs.FloatService.{float_at}
use Rattle.servers.specs.Settings.{LegalFixed, LegalSlice}
use Rattle.servers.specs.declared.settings.Settings.{Settings}
use Rattle.kinds.specs.AnyKinds.{LegalAny, IsAny, any_service}
use Rattle.kinds.specs.declared.kind.Kind.{Kind}
use Rattle.kinds.specs.declared.kind.Kind.TheVariants.{Own, Fixed, Float}
use Rattle.kinds.specs.declared.any_kind.AnyKind.{AnyKind}
use Rattle.kinds.specs.declared.any_kind.AnyKind.TheVariants as any
use Rattle.layers.specs.InnerService.{within}
use Rattle.layers.specs.Stacks.{NoLayer, IsStack, stack_service}
use Rattle.layers.specs.declared.stack.Stack.{Stack}
use Rattle.layers.specs.declared.stack.Stack.TheVariants.{Bare, Layered}
use Rattle.rows.specs.Rows.{row_service}
use Rattle.sheets.specs.Pages.{Entry}
use Rattle.sheets.specs.Offers.{kind_service, no_layer, offered, Made, AllMade}
use Rattle.sheets.specs.Legal.{entry_at}
use Rattle.sheets.specs.Checks.{legal_fixed, legal_kind, legal_server}

slice_yes : (s : Settings) → legal_fixed s ≡ true → LegalSlice s
slice_yes s h = record { some = grind (arith, nat_tests); within = grind (arith, nat_tests); short = grind (arith, nat_tests) }

fixed_decides : (s : Settings) → Decides (legal_fixed s) (LegalFixed s)
fixed_decides s = (λ h. (slice_yes s h, grind (arith, nat_tests)), λ h. grind (arith, nat_tests))

no_layer_decides : (s : Settings) → Decides (no_layer s) (NoLayer s)
no_layer_decides s = (λ h. (grind (arith, nat_tests), grind (arith, nat_tests), grind (arith, nat_tests)), λ h. grind (arith, nat_tests))

kind_decides : (k : Kind) (s : Settings) → Decides (legal_kind k s) (LegalAny k s)
kind_decides Own s = (λ h. (grind (arith, nat_tests), grind (arith, nat_tests), grind (arith, nat_tests)), λ h. grind (arith, nat_tests))
kind_decides Fixed s = fixed_decides s
kind_decides Float s = (λ h. (slice_yes s (grind (arith, nat_tests)), grind (arith, nat_tests)), λ h. grind (arith, nat_tests))

pub legal_server_decides : (e : Entry) → Decides (legal_server e) (LegalAny e.kind e.slice × (NoLayer e.layer ⊎ LegalFixed e.layer))
legal_server_decides e =
    Decides-and (legal_kind e.kind e.slice) (no_layer e.layer || legal_fixed e.layer) (kind_decides e.kind e.slice)
    (Decides-or (no_layer e.layer) (legal_fixed e.layer) (no_layer_decides e.layer) (fixed_decides e.layer))

any_is : (k : Kind) (s : Settings) (b : AnyKind) → IsAny k s b → any_service b ≡ kind_service k s
any_is Own s (any.Own o) m = refl
any_is Own s (any.Fixed f) m = absurd m
any_is Own s (any.Float f) m = absurd m
any_is Fixed s (any.Own o) m = absurd m
any_is Fixed s (any.Fixed f) m = λ i. slice_service (m.0 i) (m.1 i) (m.2 i)
any_is Fixed s (any.Float f) m = absurd m
any_is Float s (any.Own o) m = absurd m
any_is Float s (any.Fixed f) m = absurd m
any_is Float s (any.Float f) m = λ i. float_at (m.0 i) (m.1 i) (m.2 i) (m.3 i)

stack_is : (x : Service) (b : AnyKind) (l : Settings) (s : Stack AnyKind) → any_service b ≡ x → IsStack b l s → stack_service any_service s ≡ cond (no_layer l) x (within x (slice_service l.period l.slice l.phase))
stack_is x b l (Bare c) e m = ap any_service m.1 ∙ e ∙ sym (cond-true (no_layer l) x _ ((no_layer_decides l).1 m.0))
stack_is x b l (Layered j) e m =
    let some = m.0.0.some in
    let not_none : no_layer l ≡ false = grind (arith, nat_tests) in
    let h = m.2 in
    let under : any_service j.below ≡ x = ap any_service m.1 ∙ e in
    (λ i. within (under i) (slice_service (h.0 i) (h.1 i) (h.2 i))) ∙ sym (cond-false (no_layer l) x _ not_none)

-- a server that is made of a task's settings offers what they say
pub offered_is : (e : Entry) (s : Stack AnyKind) → Made e s → stack_service any_service s ≡ offered e
offered_is e s m = stack_is (kind_service e.kind e.slice) m.0 e.layer s (any_is e.kind e.slice m.0 m.1) m.2

-- as many servers as tasks
pub all_made_length : (es : List Entry) (ss : List (Stack AnyKind)) → AllMade es ss → length ss ≡ length es
all_made_length [] [] a = refl
all_made_length [] (s ∷ ss) a = absurd a
all_made_length (e ∷ es) [] a = absurd a
all_made_length (e ∷ es) (s ∷ ss) a = ap suc (all_made_length es ss a.1)

-- the server at a place offers what the task there has written
pub offered_at : (es : List Entry) (ss : List (Stack AnyKind)) (v : ℕ) → AllMade es ss → v < length es → row_service (stack_service any_service) ss v ≡ offered (entry_at es v)
offered_at [] ss v a h = absurd (omega arith)
offered_at (e ∷ es) [] v a h = absurd a
offered_at (e ∷ es) (s ∷ ss) zero a h = offered_is e s a.0
offered_at (e ∷ es) (s ∷ ss) (suc v) a h = offered_at es ss v a.1 (omega arith)
