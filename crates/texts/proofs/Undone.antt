-- What was put, or was taken back, is appended or not.
use Rattle.std.proofs.Common.{◌≡◌, ℕ, List, Ok, Err, Result, Vec, sym, ◌∙◌, subst}
use Rattle.texts.specs.Puts.{Added, Short, Puts, Undone, Appends}

-- s and u: what was shown to the call that put it, and what that left
pub appended : {U E Z : Type 0} {v w s u : Vec ℕ Z} (x : Vec ℕ Z) (bs : List ℕ) (r : Result U E) → s ≡ v → u ≡ w → Puts s bs r u → Undone v w r x → Appends v bs r x
appended {v = v} {s = s} x bs (Ok _) d e p h = subst (λ y. Added y bs x) d (subst (λ y. Added s bs y) (e ∙ sym h) p)
appended {v = v} {w = w} {s = s} x bs (Err _) d e p h =
    let q : Short v bs w = subst (λ y. Short y bs w) d (subst (λ y. Short s bs y) e p) in
    record { items = h ∙ q.kept; short = q.short }
