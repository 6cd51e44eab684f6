-- What the verdict says.
use Rattle.std.proofs.Common.{◌≡◌, ℕ, ◌*◌, ◌≤◌, ◌⊎◌, inl, inr, ap, ◌∙◌, true, false, cond}
use Rattle.std.proofs.Math.Logic.{◌↔◌}
use Rattle.std.proofs.lemmas.Bool.{cases_Bool}
use Rattle.flow.specs.Verdicts.{keeps}
use Rattle.flow.proofs.Verdicts.{keeps_by_cycle}
use Rattle.ratios.specs.Ratios.{verdict_of}
use Rattle.ratios.specs.declared.verdict.Verdict.{Verdict}
use Rattle.ratios.specs.declared.verdict.Verdict.TheVariants.{Keeps, Late}

pub judged : (goal c p : ℕ) (v : Verdict) → v ≡ verdict_of goal c p → (v ≡ Keeps) ↔ (c ≤ goal * p)
judged goal c p v is = (
  λ e. go e (cases_Bool (keeps goal c p)),
  λ h. is ∙ ap (λ b. cond b Keeps Late) ((keeps_by_cycle goal c p).1 h),
)
  where
    go : v ≡ Keeps → (keeps goal c p ≡ true) ⊎ (keeps goal c p ≡ false) → c ≤ goal * p
    go e (inl y) = (keeps_by_cycle goal c p).0 y
    go e (inr y) =
        let late : v ≡ Late = is ∙ ap (λ b. cond b Keeps Late) y in
        absurd (cc)
