-- What a belt hands out is in order a front of what it accepted.
use Rattle.std.proofs.Common.{◌≡◌, List, [], ◌∷◌, ◌++◌, Some, None, Ok, Err, sym, ap, ◌∙◌, append_assoc, append-nil}
use Rattle.belt.specs.Turned.{Ring}
use Rattle.belt.specs.Belts.{contents, room}
use Rattle.belt.specs.Histories.{Call, put, take, History, accepted, handed_out, InOrder}

module _ {T : Type 0} where
  -- From any belt: what was inside and what is accepted then are what is handed out and what stays inside.
  passed_on : (ks : List (Call T)) (b d : Ring T) → History b ks d → contents b ++ accepted ks ≡ handed_out ks ++ contents d
  passed_on [] b d h = append-nil (contents b) ∙ ap contents (sym h)
  passed_on (put x (Ok u) ∷ ks) b d h =
      sym (append_assoc (contents b) (x ∷ []) (accepted ks)) ∙ ap (λ l. l ++ accepted ks) (sym h.1.1) ∙ passed_on ks h.0 d h.2
  passed_on (put x (Err e) ∷ ks) b d h = ap (λ r. contents r ++ accepted ks) (sym h.1.3) ∙ passed_on ks h.0 d h.2
  passed_on (take None ∷ ks) b d h = ap (λ r. contents r ++ accepted ks) (sym h.1.1) ∙ passed_on ks h.0 d h.2
  passed_on (take (Some x) ∷ ks) b d h = ap (λ l. l ++ accepted ks) h.1.0 ∙ ap (λ l. x ∷ l) (passed_on ks h.0 d h.2)

  same_room : (ks : List (Call T)) (b d : Ring T) → History b ks d → room d ≡ room b
  same_room [] b d h = ap room h
  same_room (put x (Ok u) ∷ ks) b d h = same_room ks h.0 d h.2 ∙ h.1.2
  same_room (put x (Err e) ∷ ks) b d h = same_room ks h.0 d h.2 ∙ ap room h.1.3
  same_room (take None ∷ ks) b d h = same_room ks h.0 d h.2 ∙ ap room h.1.1
  same_room (take (Some x) ∷ ks) b d h = same_room ks h.0 d h.2 ∙ h.1.1

  pub in_order : (b : Ring T) → contents b ≡ [] → InOrder b
  in_order b e ks d h = (ap (λ l. l ++ accepted ks) (sym e) ∙ passed_on ks b d h, same_room ks b d h)
