-- A numeral within its bounds, or the refusal.
use Rattle.std.proofs.Common.{◌≡◌, ℕ, Bool, true, false, not, List, [], ◌∷◌, Option, None, Some, Result, refl, rules, tests}
use Rattle.std.specs.Bool.{then_some}
use Rattle.std.specs.Option.{MatchOption, ok_or}
use Rattle.faults.specs.declared.fault.Fault.{Fault}
use Rattle.cells.specs.Values.{value, numeral, within, number}
use Rattle.cells.specs.Checks.{Meets}
use Rattle.cells.proofs.cell.number_in.Goals as goal

kept : (b : Bool) (x : ℕ) (t : Fault) → Meets (ok_or (then_some b x) t) (record { broken = not b; told = t } ∷ []) (λ n. n ≡ x)
kept true x t = (refl, refl)
kept false x t = refl

-- R says what the test gives
within_bounds : (bs : List ℕ) (low high : ℕ) (R : ℕ → Bool → Type 0) (o p : Option ℕ) (f t : Fault) (r : Result ℕ Fault) → MatchOption o (numeral bs ≡ false) (λ n. (numeral bs ≡ true) × (n ≡ value bs)) → MatchOption o (p ≡ None) (λ x. (b : Bool) × R x b × (p ≡ then_some b x)) → ((x : ℕ) (b : Bool) → R x b → b ≡ within low high x) → r ≡ ok_or p f → f ≡ t → Meets r (record { broken = not (number low high bs); told = t } ∷ []) (λ n. n ≡ value bs)
within_bounds bs low high R None p f t r m k test e g = rw (e, k, g, m) refl
within_bounds bs low high R (Some x) p f t r m k test e g = rw (e, k.2, g, m.0, ← m.1, test x k.0 k.1) (kept (within low high x) x t)

pub returns : goal.returns
returns c = within_bounds c.args.t.part.now c.args.low c.args.high _ c.number_of.result c.filter.result c.refused.result _ _ c.number_of.ensures c.filter.ensures (λ x b k. search (rules, tests)) c.ok_or.ensures.value c.refused.ensures
