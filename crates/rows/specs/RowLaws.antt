-- What stands at a place of a row, and the laws that a row keeps where each server does.
use Rattle.std.specs.Prelude.{◌≡◌, ℕ, zero, suc, ◌<◌, ◌≢◌, Bool, List, [], ◌∷◌, map, length, get_or, Result, slice_index_or, slice_set}
use Rattle.std.proofs.Common.{sym, ap, ◌∙◌, arith}
use Rattle.std.proofs.lemmas.List.{get_or-map, map-set, length-map, get_or-set_same, get_or-set_other}
use Rattle.faults.specs.declared.fault.Fault.{Fault}
use Rattle.servers.specs.Figures.{Tells}
use Rattle.servers.specs.Service.{Service, Laws, Ticks}
use Rattle.servers.specs.OwnLaws.{own_laws}
use Rattle.racks.specs.Places.{Asked}
use Rattle.rows.specs.Rows.{row_service, none_there, RowSteps}

module _ {S : Type 0} (service : S → Service) where
  -- at a place that holds x
  pub row_at : (xs : List S) (k : ℕ) (x : S) → k < length xs → x ≡ slice_index_or xs k x → row_service service xs k ≡ service x
  row_at xs k x h e = get_or-map service xs k x none_there h ∙ ap service (sym e)

  -- a figure that the server at k tells is the one at place k
  pub row_asks : (figure : Service → ℕ) (xs : List S) (k n : ℕ) (x : S) (r : Result ℕ Fault) → k < n → n ≡ length xs → x ≡ slice_index_or xs k x → Tells (figure (service x)) r → Asked n k (figure (row_service service xs k)) r
  row_asks figure xs k n x r h l e t =
      let at = row_at xs k x (omega arith) e in
      record { missing = λ over. absurd (omega arith); there = λ _. rw at t }

  pub row_same : (xs : List S) (k : ℕ) (y : S) → k < length xs → row_service service (slice_set xs k y) k ≡ service y
  row_same xs k y h =
      ap (λ ps. get_or ps k none_there) (map-set service xs k y)
      ∙ get_or-set_same (map service xs) k (service y) none_there (omega (arith, length-map xs service))

  pub row_other : (xs : List S) (k j : ℕ) (y : S) → j ≢ k → row_service service (slice_set xs k y) j ≡ row_service service xs j
  row_other xs k j y ne =
      ap (λ ps. get_or ps j none_there) (map-set service xs k y) ∙ get_or-set_other (map service xs) k j (service y) none_there ne

  -- A tick leaves the services at the other places as they were.
  pub row_others : {steps : S → Bool → Bool → S → Type 0} {xs ys : List S} {k : ℕ} {c g : Bool} → RowSteps steps xs k c g ys → (j : ℕ) → j ≢ k → row_service service ys j ≡ row_service service xs j
  row_others {xs = xs} {k = k} m j ne = rw m.is (row_other xs k j m.after ne)

module _ {S : Type 0} {service : S → Service} where
  pub row_keeps : ((x : S) → Laws (service x)) → (xs : List S) (k : ℕ) → Laws (row_service service xs k)
  row_keeps keeps [] k = own_laws (record {})
  row_keeps keeps (x ∷ xs) zero = keeps x
  row_keeps keeps (x ∷ xs) (suc k) = row_keeps keeps xs k

  -- A tick moves the service at its place as one of the server there does.
  pub row_moves :
      {steps : S → Bool → Bool → S → Type 0} → ((a b : S) (c g : Bool) → steps a c g b → Ticks (service a) g (service b)) →
      (xs ys : List S) (k : ℕ) (c g : Bool) → RowSteps steps xs k c g ys → Ticks (row_service service xs k) g (row_service service ys k)
  row_moves moves xs ys k c g m =
      rw (row_at service xs k m.before m.there m.was, m.is, row_same service xs k m.after m.there) (moves m.before m.after c g m.ticks)
