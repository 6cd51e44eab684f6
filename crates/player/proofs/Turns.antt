-- The records of a tick are of firings that were due.
use Rattle.std.proofs.Common.{◌≡◌, ℕ, zero, suc, ◌+◌, ◌-◌, ◌<◌, ◌≤◌, Bool, true, false, cond, eqb, ◌⊎◌, inl, inr, List, [], ◌∷◌, ◌++◌, length, sym, refl, ap, ◌∙◌, subst, append-nil, length-append, arith}
use mathlib.Core.List.Memᴰ
use mathlib.Core.List.{Memᴰ}
use Rattle.std.proofs.lemmas.Bool.{cases_eq}
use Rattle.std.proofs.lemmas.Bool.Decides.{nat_tests}
use Rattle.servers.specs.Service.{Service}
use Rattle.servers.specs.Rounding.{le_or_lt}
use Rattle.flow.specs.Nets.{Net, Sound, Arrivals}
use Rattle.flow.specs.Finish.{Cost, Feeds, Finish, by_worst}
use Rattle.finish.specs.Filling.{more}
use Rattle.finish.specs.Ledgers.{Due}
use Rattle.runs.specs.States.{State, Finished, one, ends, put_out, ticked}
use Rattle.runs.specs.Runs.{Said, done, tick, arrivals_of, Whole, Run}
use Rattle.runs.specs.Claims.{Ended, HadTokens}
use Rattle.runs.proofs.Base.{out_now}
use Rattle.runs.proofs.Order.{put_of}
use Rattle.runs.proofs.Forget.{Shows, worsts, heard, steady, forget}
use Rattle.runs.proofs.Kept.{on_time}
use Rattle.runs.proofs.Early.{not_early, ended_counts}
use Rattle.player.specs.Lines.{with_these, InTime, InTurn}
use Rattle.player.proofs.Telling.{with_append}

-- What firing `fired v` of each task v that ends needs was there before.
pub record Ripe (n : Net) (α : Arrivals) (s : State) (grants : ℕ → Bool) : Type 0 where
  pub fed : (v e : ℕ) → v < n.tasks → ends n s grants v ≡ true → Feeds n v (s.fired v) e → s.fired v - n.tokens e < s.fired (n.from e)
  pub came : (v : ℕ) → v < n.tasks → ends n s grants v ≡ true → n.inlet v ≡ true → s.fired v < α.count v

module _ {R : Type 0} (places : R → ℕ) (steps : R → ℕ → Bool → Bool → R → Type 0) (n : Net) (sound : Sound n) (first : R) (fits : n.tasks ≤ places first) (slots : ℕ) where
  -- It was, in every run, since no firing ends early.
  pub ripe :
      {said : List Said} {a b : R} {x : Whole} (claims : List Bool) (grants : ℕ → Bool) (belt : List Finished) → Run steps n first slots said a x →
      Run steps n first slots (done (tick claims) ∷ said) b (record { state = ticked n grants x.state; belt = belt }) → Ripe n (arrivals_of said) x.state grants
  ripe {said} {a} {b} {x} claims grants belt before after =
      let s = x.state in
      let had : (v : ℕ) → v < n.tasks → ends n s grants v ≡ true → HadTokens n (done (tick claims) ∷ said) (ticked n grants s) v (s.fired v) (s.clock + 1) =
      λ v h e. not_early places steps n sound first fits slots _ b _ after v (s.fired v) (s.clock + 1) (out_now n s grants v (s.fired v) h (omega arith) (omega (arith, ap one e))) in
      record {
        fed = λ v e h q feeds. let t = (had v h q).fed e feeds in was (n.from e) (s.fired v - n.tokens e) t.0 t.1 (Memᴰ.append_cases s.records t.2);
        came = λ v h q i. ((had v h q).came i).0;
      }
    where
      was : (u j d : ℕ) → d < x.state.clock + 1 → Ended x.state u j d ⊎ Memᴰ {A = Finished} (record { task = u; firing = j; clock = d }) (put_out n x.state grants n.tasks) → j < x.state.fired u
      was u j d l (inl k) = ended_counts steps n sound first slots before u j d k
      was u j d l (inr k) = absurd (omega (arith, (put_of n x.state grants n.tasks u j d k).3))

-- The clock is below every bound of a task's next firing.
abbrev pub NoneLate : Net → Cost → Arrivals → State → Type 0
NoneLate n cost α s = (v t : ℕ) → v < n.tasks → Finish n α cost v (s.fired v) t → s.clock < t

-- So it is in every run, by the figures of the rack on which it began.
pub none_late :
    {R : Type 0} (places : R → ℕ) (service : R → ℕ → Service) (steps : R → ℕ → Bool → Bool → R → Type 0) → Shows places service steps → (n : Net) → Sound n → (first : R) → n.tasks ≤ places first → (slots : ℕ) →
    {said : List Said} {a : R} {x : Whole} → Run steps n first slots said a x → NoneLate n (by_worst n (service first)) (arrivals_of said) x.state
none_late places service steps shows n sound first fits slots {said} {a} {x} run v t h d = elim (le_or_lt t x.state.clock) [ inl l ↦ absurd (omega (arith, ended l)) | inr l ↦ l ]
  where
    ended : t ≤ x.state.clock → x.state.fired v < x.state.fired v
    ended l =
        let b = forget places service steps shows n first slots fits run (worsts service first) (λ u m k. (steady places service steps shows n first fits slots said a x run u k).worst m) in
        (on_time n sound (worsts service first) b v (x.state.fired v) t h (subst (λ (α : Arrivals). Finish n α (by_worst n (service first)) v (x.state.fired v) t) (sym (heard run).1) d) l).0

-- Some records, and then others.
turns_append : (n : Net) (cost : Cost) (α : Arrivals) (fired : ℕ → ℕ) (xs ys : List Finished) → InTurn n cost α fired xs → InTurn n cost α (with_these fired xs) ys → InTurn n cost α fired (xs ++ ys)
turns_append n cost α fired [] ys h k = k
turns_append n cost α fired (x ∷ xs) ys h k = (h.0, h.1, h.2, h.3, turns_append n cost α (more fired x.task) xs ys h.4 k)

module _ (n : Net) (sound : Sound n) (cost : Cost) (α : Arrivals) (s : State) (grants : ℕ → Bool) (ready : Ripe n α s grants) (in_time : NoneLate n cost α s) (ended : ℕ → ℕ) (same : (v : ℕ) → v < n.tasks → ended v ≡ s.fired v) where
  -- The records of the first k tasks, and how many firings ended with them.
  record Upto (k : ℕ) : Type 0 where
    pub turns : InTurn n cost α ended (put_out n s grants k)
    pub counted : (v : ℕ) → v < n.tasks → v < k → with_these ended (put_out n s grants k) v ≡ s.fired v + one (ends n s grants v)
    pub still : (v : ℕ) → v < n.tasks → k ≤ v → with_these ended (put_out n s grants k) v ≡ s.fired v

  none_yet : Upto 0
  unfolding put_out
  none_yet = record { turns = tt; counted = λ v h l. absurd (omega arith); still = λ v h l. same v h }

  one_more_task : (k : ℕ) → k < n.tasks → Upto k → Upto (suc k)
  unfolding put_out
  one_more_task k there old = go (ends n s grants k) refl
    where
      before : ℕ → ℕ
      before = with_these ended (put_out n s grants k)

      at_least : (v : ℕ) → v < n.tasks → s.fired v ≤ before v
      at_least v h = elim (le_or_lt k v) [ inl l ↦ omega (arith, old.still v h l) | inr l ↦ omega (arith, old.counted v h l) ]

      r : Finished
      r = record { task = k; firing = s.fired k; clock = s.clock + 1 }

      now : before k ≡ s.fired k
      now = old.still k there (omega arith)

      due : ends n s grants k ≡ true → Due n α before k
      due q = record {
        fed = record {
          by = λ e feeds.
              let feeds' : Feeds n k (s.fired k) e = subst (λ (m : ℕ). Feeds n k m e) now feeds in
              omega (arith, ready.fed k e there q feeds', at_least (n.from e) (sound.from_task e feeds.edge), now);
        };
        came = λ i. omega (arith, ready.came k there q i, now);
      }

      soon : InTime n cost α r
      soon t d = omega (arith, in_time k t there d)

      go : (b : Bool) → ends n s grants k ≡ b → Upto (suc k)
      go true e =
          let puts : put_out n s grants k ++ r ∷ [] ≡ put_out n s grants k ++ cond (ends n s grants k) (r ∷ []) [] = ap (λ b. put_out n s grants k ++ cond b (r ∷ []) []) (sym e) in
          let then : (v : ℕ) → with_these ended (put_out n s grants k ++ cond (ends n s grants k) (r ∷ []) []) v ≡ more before k v =
          λ v. ap (λ (rs : List Finished). with_these ended rs v) (sym puts) ∙ ap (λ (f : ℕ → ℕ). f v) (with_append ended (put_out n s grants k) (r ∷ [])) in
          record {
            turns = subst (λ rs. InTurn n cost α ended rs) puts (turns_append n cost α ended (put_out n s grants k) (r ∷ []) old.turns (there, sym now, due e, soon, tt));
            counted = λ v h l. then v ∙ elim (cases_eq v k) [ inl q ↦ here v q e | inr q ↦ there_before v q ∙ old.counted v h (omega arith) ];
            still = λ v h l. then v ∙ there_before v (λ q. omega arith) ∙ old.still v h (omega arith);
          }
        where
          here : (v : ℕ) → v ≡ k → ends n s grants k ≡ true → more before k v ≡ s.fired v + one (ends n s grants v)
          here v q e = rw q (let t : eqb k k ≡ true = grind (arith, nat_tests) in rw (t, e) (omega (arith, now)))

          there_before : (v : ℕ) → (v ≡ k → ⊥) → more before k v ≡ before v
          there_before v q = let t : eqb v k ≡ false = grind (arith, nat_tests) in rw t refl
      go false e =
          let puts : put_out n s grants k ≡ put_out n s grants k ++ cond (ends n s grants k) (r ∷ []) [] = sym (ap (λ b. put_out n s grants k ++ cond b (r ∷ []) []) e ∙ append-nil (put_out n s grants k)) in
          let then : (v : ℕ) → with_these ended (put_out n s grants k ++ cond (ends n s grants k) (r ∷ []) []) v ≡ before v =
          λ v. ap (λ (rs : List Finished). with_these ended rs v) (sym puts) in
          record {
            turns = subst (λ rs. InTurn n cost α ended rs) puts old.turns;
            counted = λ v h l. then v ∙ elim (cases_eq v k) [ inl q ↦ idle v q e | inr q ↦ old.counted v h (omega arith) ];
            still = λ v h l. then v ∙ old.still v h (omega arith);
          }
        where
          idle : (v : ℕ) → v ≡ k → ends n s grants k ≡ false → before v ≡ s.fired v + one (ends n s grants v)
          idle v q e = rw q (rw e (omega (arith, now)))

  upto : (k : ℕ) → k ≤ n.tasks → Upto k
  upto zero h = none_yet
  upto (suc k) h = one_more_task k (omega arith) (upto k (omega arith))

  pub all_in_turn : InTurn n cost α ended (put_out n s grants n.tasks)
  all_in_turn = (upto n.tasks (omega arith)).turns

  pub all_counted : (v : ℕ) → v < n.tasks → with_these ended (put_out n s grants n.tasks) v ≡ (ticked n grants s).fired v
  all_counted v h = (upto n.tasks (omega arith)).counted v h h

-- A tick puts one record of each task at most.
pub put_short : (n : Net) (s : State) (grants : ℕ → Bool) (k : ℕ) → length (put_out n s grants k) ≤ k
unfolding put_out
put_short n s grants zero = omega arith
put_short n s grants (suc k) = omega (arith, put_short n s grants k, length-append (put_out n s grants k) (cond (ends n s grants k) (record { task = k; firing = s.fired k; clock = s.clock + 1 } ∷ []) []), at_most (ends n s grants k))
  where
    at_most : (b : Bool) → length {A = Finished} (cond b (record { task = k; firing = s.fired k; clock = s.clock + 1 } ∷ []) []) ≤ 1
    at_most true = omega arith
    at_most false = omega arith
