-- One record more, or none.
use Rattle.std.proofs.Common.{◌≡◌, ℕ, ◌+◌, ◌-◌, ◌<◌, Bool, true, false, cond, List, [], ◌∷◌, ◌++◌, length, Ok, Err, Option, Result, sym, ◌∙◌, ap, add-one, arith, append_assoc, append-nil, length-append}
use Rattle.std.proofs.lemmas.List.{map-append}
use Rattle.belt.specs.Turned.{Ring}
use Rattle.belt.specs.Belts.{contents, room, Put}
use Rattle.belt.specs.declared.returned.Returned.{Returned}
use Rattle.runs.specs.States.{State, Finished}
use Rattle.runner.specs.declared.record.Record.{Record}
use Rattle.runner.specs.Records.{told, lying, ended}

pub put_room : (b c : Ring Record) (x : Record) (r : Result Unit (Returned Record)) → Put b x r c → room c ≡ room b
put_room b c x (Ok _) p = p.2
put_room b c x (Err _) p = ap room p.3

pub put_there : (b c : Ring Record) (x : Record) (r : Result Unit (Returned Record)) → Put b x r c → length (contents b) < room b → contents c ≡ contents b ++ x ∷ []
put_there b c x (Ok _) p h = p.1
put_there b c x (Err _) p h = absurd (omega (arith, p.0))

pub put_length : (rs rs' : List Record) (x : Record) → rs' ≡ rs ++ x ∷ [] → length rs' ≡ length rs + 1
put_length rs rs' x e = ap length e ∙ length-append rs (x ∷ [])

module _ (s : State) (ends : ℕ → Bool) (base : List Finished) (n : ℕ) where
  pub put_on :
      (rs rs' : List Record) (x : Record) → rs' ≡ rs ++ x ∷ [] → ends n ≡ true → told x ≡ record { task = n; firing = s.fired n - 1; clock = s.clock } →
      lying rs ≡ base ++ ended s ends n → lying rs' ≡ base ++ ended s ends (n + 1)
  put_on rs rs' x e q t old =
      ap lying e ∙ map-append told rs (x ∷ []) ∙ ap (λ (ws : List Finished). ws ++ told x ∷ []) old
      ∙ ap (λ (f : Finished). (base ++ ended s ends n) ++ f ∷ []) t
      ∙ append_assoc base (ended s ends n) (record { task = n; firing = s.fired n - 1; clock = s.clock } ∷ [])
      ∙ sym (ap (λ (k : ℕ). base ++ ended s ends k) (add-one n) ∙ ap (λ (b : Bool). base ++ (ended s ends n ++ cond b (record { task = n; firing = s.fired n - 1; clock = s.clock } ∷ []) [])) q)

  pub put_off : (rs : List Record) → ends n ≡ false → lying rs ≡ base ++ ended s ends n → lying rs ≡ base ++ ended s ends (n + 1)
  put_off rs q old =
      old ∙ ap (λ (ws : List Finished). base ++ ws) (sym (append-nil (ended s ends n)))
      ∙ sym (ap (λ (k : ℕ). base ++ ended s ends k) (add-one n) ∙ ap (λ (b : Bool). base ++ (ended s ends n ++ cond b (record { task = n; firing = s.fired n - 1; clock = s.clock } ∷ []) [])) q)
