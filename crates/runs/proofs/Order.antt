-- The records are put in order: of each task by firing, and by clock.
use Rattle.std.proofs.Common.{◌≡◌, ℕ, zero, suc, ◌+◌, ◌-◌, ◌<◌, ◌≤◌, Bool, true, false, cond, eqb, ◌⊎◌, List, [], ◌∷◌, ◌++◌, length, map, get_or, ⊎_elim, sym, refl, ap, ◌∙◌, subst, inl, inr, append_assoc, append-nil, add-one, arith, length-append, eqb-true}
use mathlib.Core.List.Memᴰ
use mathlib.Core.List.{Memᴰ}
use Rattle.std.proofs.lemmas.Bool.Decides.{nat_tests}
use Rattle.std.proofs.lemmas.List.{map-append, length-map, get_or_append_left, get_or-append_right}
use Rattle.flow.specs.Nets.{Net}
use Rattle.servers.specs.Rounding.{le_or_lt}
use Rattle.runs.specs.States.{State, Finished, one, ends, put_out, ticked}
use Rattle.runs.specs.Runs.{Said, Whole, Run, begin, refuses, arrives, sets, ticks, takes}
use Rattle.runs.specs.Claims.{firings_of, numbers, record_clock, Records}
use Rattle.runs.proofs.Forget.{heard}

-- the j-th clock of two lists, one after the other
abbrev Split : List Finished → List Finished → ℕ → Type 0
Split xs ys j = ((j < length xs) × (record_clock (xs ++ ys) j ≡ record_clock xs j)) ⊎ ((length xs ≤ j) × (record_clock (xs ++ ys) j ≡ record_clock ys (j - length xs)))

split : (xs ys : List Finished) (j : ℕ) → Split xs ys j
split xs ys j =
    let clocks : List Finished → List ℕ = map (λ (r : Finished). r.clock) in
    let both : record_clock (xs ++ ys) j ≡ get_or (clocks xs ++ clocks ys) j 0 = ap (λ ks. get_or ks j 0) (map-append (λ (r : Finished). r.clock) xs ys) in
    let same : length (clocks xs) ≡ length xs = length-map xs (λ (r : Finished). r.clock) in
    ⊎_elim
    (λ l. inr (l, both ∙ get_or-append_right (clocks xs) (clocks ys) (length xs) j 0 same l))
    (λ l. inl (l, both ∙ get_or_append_left (clocks xs) (clocks ys) 0 j (omega arith)))
    (le_or_lt (length xs) j)

firings_append : (v : ℕ) (xs ys : List Finished) → firings_of v (xs ++ ys) ≡ firings_of v xs ++ firings_of v ys
firings_append v [] ys = refl
firings_append v (x ∷ xs) ys = go (eqb x.task v) (firings_append v xs ys)
  where
    go : (b : Bool) → firings_of v (xs ++ ys) ≡ firings_of v xs ++ firings_of v ys →
        cond b (x.firing ∷ firings_of v (xs ++ ys)) (firings_of v (xs ++ ys)) ≡ cond b (x.firing ∷ firings_of v xs) (firings_of v xs) ++ firings_of v ys
    go true e = ap (λ (l : List ℕ). x.firing ∷ l) e
    go false e = e

module _ (n : Net) (s : State) (grants : ℕ → Bool) where
  abbrev put_at : ℕ → List Finished
  put_at v = cond (ends n s grants v) (record { task = v; firing = s.fired v; clock = s.clock + 1 } ∷ []) []

  put_clock : (m j : ℕ) → j < length (put_out n s grants m) → record_clock (put_out n s grants m) j ≡ s.clock + 1
  unfolding put_out
  put_clock zero j h = absurd (omega arith)
  put_clock (suc m) j h = go (split (put_out n s grants m) (put_at m) j) (put_clock m j)
    where
      at_last : (b : Bool) (k : ℕ) → k < length {A = Finished} (cond b (record { task = m; firing = s.fired m; clock = s.clock + 1 } ∷ []) []) → record_clock (cond b (record { task = m; firing = s.fired m; clock = s.clock + 1 } ∷ []) []) k ≡ s.clock + 1
      at_last true zero l = refl
      at_last true (suc k) l = absurd (omega arith)
      at_last false k l = absurd (omega arith)

      go : Split (put_out n s grants m) (put_at m) j →
          (j < length (put_out n s grants m) → record_clock (put_out n s grants m) j ≡ s.clock + 1) → record_clock (put_out n s grants m ++ put_at m) j ≡ s.clock + 1
      go (inl (l, e)) old = e ∙ old l
      go (inr (l, e)) old = e ∙ at_last (ends n s grants m) (j - length (put_out n s grants m)) (omega (arith, length-append (put_out n s grants m) (put_at m)))

  put_other : (v m : ℕ) → (m ≡ v → ⊥) → firings_of v (put_at m) ≡ []
  put_other v m apart = go (ends n s grants m) (eqb m v) refl
    where
      go : (b c : Bool) → eqb m v ≡ c → firings_of v (cond b (record { task = m; firing = s.fired m; clock = s.clock + 1 } ∷ []) []) ≡ []
      go false c e = refl
      go true false e = ap (λ (d : Bool). cond d (s.fired m ∷ []) []) e
      go true true e = absurd (apart (eqb-true m v e))

  put_none : (v m : ℕ) → m ≤ v → firings_of v (put_out n s grants m) ≡ []
  unfolding put_out
  put_none v zero h = refl
  put_none v (suc m) h = firings_append v (put_out n s grants m) (put_at m) ∙ ap (λ (l : List ℕ). l ++ firings_of v (put_at m)) (put_none v m (omega arith)) ∙ put_other v m (λ e. omega arith)

  put_one : (v m : ℕ) → v < m → firings_of v (put_out n s grants m) ≡ cond (ends n s grants v) (s.fired v ∷ []) []
  unfolding put_out
  put_one v zero h = absurd (omega arith)
  put_one v (suc m) h = firings_append v (put_out n s grants m) (put_at m) ∙ go (le_or_lt m v) (put_one v m)
    where
      own : (b : Bool) → firings_of v (cond b (record { task = v; firing = s.fired v; clock = s.clock + 1 } ∷ []) []) ≡ cond b (s.fired v ∷ []) []
      own false = refl
      own true = ap (λ (d : Bool). cond d (s.fired v ∷ []) []) (let e : eqb v v ≡ true = grind (arith, nat_tests) in e)

      go : (m ≤ v) ⊎ (v < m) → (v < m → firings_of v (put_out n s grants m) ≡ cond (ends n s grants v) (s.fired v ∷ []) []) → firings_of v (put_out n s grants m) ++ firings_of v (put_at m) ≡ cond (ends n s grants v) (s.fired v ∷ []) []
      go (inl l) old =
          let q : v ≡ m = omega arith in
          ap (λ (k : List ℕ). k ++ firings_of v (put_at m)) (put_none v m l) ∙ subst (λ (k : ℕ). firings_of v (put_at k) ≡ cond (ends n s grants v) (s.fired v ∷ []) []) q (own (ends n s grants v))
      go (inr l) old =
          ap (λ (k : List ℕ). k ++ firings_of v (put_at m)) (old l) ∙ ap (λ (k : List ℕ). cond (ends n s grants v) (s.fired v ∷ []) [] ++ k) (put_other v m (λ e. omega arith)) ∙ append-nil (cond (ends n s grants v) (s.fired v ∷ []) [])

  -- whose records are put at a tick
  pub put_of : (m v i c : ℕ) → Memᴰ {A = Finished} (record { task = v; firing = i; clock = c }) (put_out n s grants m) → (v < m) × (ends n s grants v ≡ true) × (i ≡ s.fired v) × (c ≡ s.clock + 1)
  unfolding put_out
  put_of zero v i c h = absurd (Memᴰ.not-nil h)
  put_of (suc m) v i c h = go (Memᴰ.append_cases (put_out n s grants m) h) (put_of m v i c)
    where
      at_last : (b : Bool) → ends n s grants m ≡ b → Memᴰ {A = Finished} (record { task = v; firing = i; clock = c }) (cond b (record { task = m; firing = s.fired m; clock = s.clock + 1 } ∷ []) []) →
          (v < suc m) × (ends n s grants v ≡ true) × (i ≡ s.fired v) × (c ≡ s.clock + 1)
      at_last true q h =
          let e = Memᴰ.eq_of_singleton h in
          let t : v ≡ m = ap (λ (r : Finished). r.task) e in
          (omega arith, ap (ends n s grants) t ∙ q, ap (λ (r : Finished). r.firing) e ∙ ap s.fired (sym t), ap (λ (r : Finished). r.clock) e)
      at_last false q h = absurd (Memᴰ.not-nil h)

      go : Memᴰ {A = Finished} (record { task = v; firing = i; clock = c }) (put_out n s grants m) ⊎ Memᴰ {A = Finished} (record { task = v; firing = i; clock = c }) (put_at m) →
          (Memᴰ {A = Finished} (record { task = v; firing = i; clock = c }) (put_out n s grants m) → (v < m) × (ends n s grants v ≡ true) × (i ≡ s.fired v) × (c ≡ s.clock + 1)) →
          (v < suc m) × (ends n s grants v ≡ true) × (i ≡ s.fired v) × (c ≡ s.clock + 1)
      go (inl k) old = let r = old k in (omega (arith, r.0), r.1, r.2, r.3)
      go (inr k) old = at_last (ends n s grants m) refl k

numbers_more : (f : ℕ) (b : Bool) → numbers f ++ cond b (f ∷ []) [] ≡ numbers (f + one b)
numbers_more f true = ap numbers (sym (add-one f))
numbers_more f false = append-nil (numbers f) ∙ ap numbers (let e : f ≡ f + 0 = omega arith in e)

-- the records of a state with this clock and these counts of firings
record Order (n : Net) (clock : ℕ) (fired : ℕ → ℕ) (rs : List Finished) : Type 0 where
  pub firings : (v : ℕ) → v < n.tasks → firings_of v rs ≡ numbers (fired v)
  pub tasks : (v i c : ℕ) → Memᴰ {A = Finished} (record { task = v; firing = i; clock = c }) rs → v < n.tasks
  pub from_1 : (j : ℕ) → j < length rs → 1 ≤ record_clock rs j
  pub to_now : (j : ℕ) → j < length rs → record_clock rs j ≤ clock
  pub never_falls : (j k : ℕ) → j ≤ k → k < length rs → record_clock rs j ≤ record_clock rs k

order_ticked : (n : Net) (s : State) (grants : ℕ → Bool) → Order n s.clock s.fired s.records → Order n (s.clock + 1) (ticked n grants s).fired (ticked n grants s).records
order_ticked n s grants o = record {
  firings = λ v h. firings_append v old new ∙ ap (λ (l : List ℕ). l ++ firings_of v new) (o.firings v h) ∙ ap (λ (l : List ℕ). numbers (s.fired v) ++ l) (put_one n s grants v n.tasks h) ∙ numbers_more (s.fired v) (ends n s grants v);
  tasks = λ v i c h. elim (Memᴰ.append_cases old h) [ inl k ↦ o.tasks v i c k | inr k ↦ (put_of n s grants n.tasks v i c k).0 ];
  from_1 = λ j h. low j h (split old new j);
  to_now = λ j h. high j h (split old new j);
  never_falls = λ j k h l. rise j k h l (split old new j) (split old new k);
}
  where
    old : List Finished
    old = s.records

    new : List Finished
    new = put_out n s grants n.tasks

    now : (j : ℕ) → j < length (old ++ new) → length old ≤ j → record_clock new (j - length old) ≡ s.clock + 1
    now j h l = put_clock n s grants n.tasks (j - length old) (omega (arith, length-append old new))

    low : (j : ℕ) → j < length (old ++ new) → Split old new j → 1 ≤ record_clock (old ++ new) j
    low j h (inl (l, e)) = omega (arith, o.from_1 j l)
    low j h (inr (l, e)) = omega (arith, now j h l)

    high : (j : ℕ) → j < length (old ++ new) → Split old new j → record_clock (old ++ new) j ≤ s.clock + 1
    high j h (inl (l, e)) = omega (arith, o.to_now j l)
    high j h (inr (l, e)) = omega (arith, now j h l)

    rise : (j k : ℕ) → j ≤ k → k < length (old ++ new) → Split old new j → Split old new k → record_clock (old ++ new) j ≤ record_clock (old ++ new) k
    rise j k h l (inl (a, d)) (inl (b, e)) = omega (arith, o.never_falls j k h b)
    rise j k h l (inl (a, d)) (inr (b, e)) = omega (arith, o.to_now j a, now k l b)
    rise j k h l (inr (a, d)) (inl (b, e)) = absurd (omega arith)
    rise j k h l (inr (a, d)) (inr (b, e)) = omega (arith, now j (omega arith) a, now k l b)

module _ {R : Type 0} (steps : R → ℕ → Bool → Bool → R → Type 0) (n : Net) (first : R) (slots : ℕ) where
  order : {said : List Said} {a : R} {x : Whole} → Run steps n first slots said a x → Order n x.state.clock x.state.fired x.state.records
  order begin = record {
    firings = λ v h. refl;
    tasks = λ v i c h. absurd (Memᴰ.not-nil h);
    from_1 = λ j h. absurd (omega arith);
    to_now = λ j h. absurd (omega arith);
    never_falls = λ j k h l. absurd (omega arith);
  }
  order (refuses run call w) = order run
  order (arrives run v w) = order run
  order (sets run v y w) = order run
  order (ticks {x = x} run claims grants w sweep) = order_ticked n x.state grants (order run)
  order (takes run gone rest h) = order run

  belt : {said : List Said} {a : R} {x : Whole} → Run steps n first slots said a x → (taken : List Finished) × (x.state.records ≡ taken ++ x.belt)
  belt begin = ([], refl)
  belt (refuses run call w) = belt run
  belt (arrives run v w) = belt run
  belt (sets run v y w) = belt run
  belt (ticks {x = x} run claims grants w sweep) =
      let o = belt run in
      let new : List Finished = put_out n x.state grants n.tasks in
      (o.0, ap (λ (rs : List Finished). rs ++ new) o.1 ∙ append_assoc o.0 x.belt new)
  belt (takes run gone rest h) =
      let o = belt run in
      (o.0 ++ gone, o.1 ∙ ap (λ (rs : List Finished). o.0 ++ rs) h ∙ sym (append_assoc o.0 gone rest))

pub records : {R : Type 0} (places : R → ℕ) (steps : R → ℕ → Bool → Bool → R → Type 0) → Records places steps
records places steps n sound first fits slots said a x run =
    let o = order steps n first slots run in
    record {
      firings = o.firings;
      tasks = o.tasks;
      from_1 = o.from_1;
      to_now = λ j h. omega (arith, o.to_now j h, (heard run).0);
      never_falls = o.never_falls;
      on_belt = belt steps n first slots run;
    }
