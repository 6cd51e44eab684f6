-- One task more is served.
use Rattle.std.proofs.Common.{◌≡◌, ℕ, ◌+◌, ◌<◌, Bool, false, List, length, set, sym, refl, ◌∙◌, inl, inr, arith, length-set, get_or-set_same, get_or-set_other, le_refl}
use Rattle.std.proofs.lemmas.Bool.{cases_eq}
use Rattle.runner.specs.declared.task.TaskRecord.{TaskRecord}
use Rattle.runner.specs.Tasks.{task_in, no_record}
use Rattle.runner.specs.Serves.{Served, AllServed, marked}

served_at : (t t' : TaskRecord) (ready granted a b a' b' : Bool) (u u' : TaskRecord) → t' ≡ t → a' ≡ a → b' ≡ b → u' ≡ u → Served t ready granted (a, b) u → Served t' ready granted (a', b') u'
served_at t t' ready granted a b a' b' u u' p q r s h = rw (p, q, r, s) h

pub served_more :
    (ts us : List TaskRecord) (ready grants starts ends : List Bool) (n : ℕ) (a b : Bool) (u : TaskRecord) →
    length us ≡ 16 → length starts ≡ 16 → length ends ≡ 16 → n < 16 →
    AllServed ts ready grants n (starts, ends) us → Served (task_in us n) (marked ready n) (marked grants n) (a, b) u →
    (length (set us n u) ≡ 16) × (length (set starts n a) ≡ 16) × (length (set ends n b) ≡ 16) × AllServed ts ready grants (n + 1) (set starts n a, set ends n b) (set us n u)
served_more ts us ready grants starts ends n a b u lu ls le there all served = (
  length-set us n u ∙ lu,
  length-set starts n a ∙ ls,
  length-set ends n b ∙ le,
  record {
    served = λ v h. elim (cases_eq v n) [
      | inl e ↦
          rw e (served_at (task_in us n) (task_in ts n) (marked ready n) (marked grants n) a b _ _ u _ (sym (all.rest n (le_refl n)))
          (get_or-set_same starts n a false (omega arith)) (get_or-set_same ends n b false (omega arith)) (get_or-set_same us n u no_record (omega arith)) served)
      | inr e ↦
          served_at (task_in ts v) (task_in ts v) (marked ready v) (marked grants v) (marked starts v) (marked ends v) _ _ (task_in us v) _ refl
          (get_or-set_other starts n v a false e) (get_or-set_other ends n v b false e) (get_or-set_other us n v u no_record e) (all.served v (omega arith))
    ];
    rest = λ v h. get_or-set_other us n v u no_record (λ e. omega arith) ∙ all.rest v (omega arith);
  },
)
