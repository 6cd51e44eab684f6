-- One task on a fixed slice is served no sooner than its bound says, at the phase that is worst for it.
use Rattle.std.proofs.Common.{◌≡◌, ℕ, zero, suc, ◌+◌, ◌-◌, ◌*◌, ◌<◌, ◌≤◌, min, Bool, true, false, cond, ◌&&◌, eqb, ltb, ◌⊎◌, sym, refl, ap, ◌∙◌, inl, inr, mul-le-mul_right, zero-mul, add-one, arith, ltb-false, ltb-true}
use mathlib.Core.List.Memᴰ
use mathlib.Core.List.{Memᴰ}
use Rattle.std.proofs.lemmas.Bool.Decides.{nat_tests}
use Rattle.servers.specs.Slices.{wait_at, worst_of}
use Rattle.servers.specs.SliceLaws.{worst_rises, wait_rises, moved_on, granted_next, passed_next}
use Rattle.flow.specs.Nets.{Sound}
use Rattle.runs.specs.States.{State, Finished, one, supplied, starts, left, ends, put_out, new_state, arrived, need_set, ticked}
use Rattle.servers.specs.Rounding.{le_or_lt}
use Rattle.runs.proofs.Moves.{supplied_decides, Move, rests, goes, begins, lacks, move, begun}
use Rattle.runs.proofs.Window.{rest, rest_cases}
use Rattle.runs.proofs.Base.{Base, base_start, base_needs, base_arrived, base_ticked}
use Rattle.runs.proofs.Order.{put_of}
use Rattle.runs.specs.Claims.{Ended}
use Rattle.flow.specs.Lone.{lone}

-- the position at each clock
abbrev pub next : ℕ → ℕ → ℕ
next p at = cond (ltb (at + 1) p) (at + 1) 0

pub posn : ℕ → ℕ → ℕ → ℕ
posn p φ zero = φ
posn p φ (suc c) = next p (posn p φ c)

pub posn_none : (p φ : ℕ) → posn p φ 0 ≡ φ
unfolding posn
posn_none p φ = refl

pub posn_step : (p φ c : ℕ) → posn p φ (c + 1) ≡ next p (posn p φ c)
unfolding posn
posn_step p φ c = ap (posn p φ) (add-one c)

next_below : (p at : ℕ) → 0 < p → next p at < p
next_below p at h = grind (arith, nat_tests)

pub posn_below : (p φ : ℕ) → φ < p → (c : ℕ) → posn p φ c < p
unfolding posn
posn_below p φ h zero = h
posn_below p φ h (suc c) = next_below p (posn p φ c) (omega arith)

abbrev prev : ℕ → ℕ → ℕ
prev p at = cond (eqb at 0) (p - 1) (at - 1)

prev_below : (p at : ℕ) → at < p → prev p at < p
prev_below p at h = grind (arith, nat_tests)

next_prev : (p at : ℕ) → at < p → next p (prev p at) ≡ at
next_prev p at h = grind (arith, nat_tests)

-- a phase that comes to a position at a clock
pub phase : (p : ℕ) → (c at : ℕ) → at < p → (φ : ℕ) × (φ < p) × (posn p φ c ≡ at)
unfolding posn
phase p zero at h = (at, h, refl)
phase p (suc c) at h =
    let r = phase p c (prev p at) (prev_below p at h) in
    (r.0, r.1, ap (next p) r.2 ∙ next_prev p at h)

module _ (p s : ℕ) (some : 0 < s) (fits : s ≤ p) (T : ℕ) (pos : 1 ≤ T) (φ : ℕ) (below : φ < p) where
  -- the exact wait at a clock
  abbrev w : ℕ → ℕ → ℕ
  w c n = wait_at p s (posn p φ c) n

  given_later : (c n : ℕ) → ltb (posn p φ c) s ≡ true → w c (n + 1) ≤ w (c + 1) n + 1
  given_later c n e = omega (arith, granted_next p s some fits (posn p φ c) (posn p φ (c + 1)) (posn_below p φ below c) (moved_on (posn p φ c) p (posn p φ (c + 1)) (posn_step p φ c)) (ltb-true (posn p φ c) s e) n)

  kept_later : (c n : ℕ) → ltb (posn p φ c) s ≡ false → 0 < n → w c n ≤ w (c + 1) n + 1
  kept_later c n e h = omega (arith, passed_next p s some fits (posn p φ c) (posn p φ (c + 1)) (posn_below p φ below c) (moved_on (posn p φ c) p (posn p φ (c + 1)) (posn_step p φ c)) (ltb-false (posn p φ c) s e) n h)

  -- what has to be served until firing i ends
  module _ (i : ℕ) where
    abbrev rem_of : ℕ → ℕ → ℕ
    rem_of f togo = (i - f) * T + rest T togo

    fewer : (grant sup : Bool) (togo need lf st en f : ℕ) → need ≡ T → f + en ≤ i → Move grant sup togo need lf st en →
        ((grant ≡ false) × (rem_of (f + en) lf ≡ rem_of f togo)) ⊎ ((grant ≡ true) × (rem_of f togo ≡ rem_of (f + en) lf + 1)) ⊎ ((grant ≡ true) × (rem_of (f + en) lf ≡ rem_of f togo))
    fewer grant sup togo need lf st en f nt le (rests a b c d) =
        let q : f + en ≡ f = omega arith in
        inl (a, ap (λ (n : ℕ). (i - n) * T + rest T lf) q ∙ ap (λ (n : ℕ). (i - f) * T + rest T n) b)
    fewer grant sup togo need lf st en f nt le (goes a b c d e) = inr (inl (a, by (rest_cases T lf) (rest_cases T togo)))
      where
        by : (((lf ≡ 0) × (rest T lf ≡ T)) ⊎ ((1 ≤ lf) × (rest T lf ≡ lf))) → (((togo ≡ 0) × (rest T togo ≡ T)) ⊎ ((1 ≤ togo) × (rest T togo ≡ togo))) → rem_of f togo ≡ rem_of (f + en) lf + 1
        by x (inl (y, z)) = absurd (omega arith)
        by (inl (x, r)) (inr (y, z)) = let q = ap (λ (n : ℕ). n * T) (let q : i - f ≡ (i - (f + en)) + 1 = omega arith in q) in omega arith
        by (inr (x, r)) (inr (y, z)) = let q = ap (λ (n : ℕ). n * T) (let q : i - f ≡ i - (f + en) = omega arith in q) in omega arith
    fewer grant sup togo need lf st en f nt le (begins a b u c d e) = inr (inl (a, by (rest_cases T lf) (rest_cases T togo)))
      where
        by : (((lf ≡ 0) × (rest T lf ≡ T)) ⊎ ((1 ≤ lf) × (rest T lf ≡ lf))) → (((togo ≡ 0) × (rest T togo ≡ T)) ⊎ ((1 ≤ togo) × (rest T togo ≡ togo))) → rem_of f togo ≡ rem_of (f + en) lf + 1
        by x (inr (y, z)) = absurd (omega arith)
        by (inl (x, r)) (inl (y, z)) = let q = ap (λ (n : ℕ). n * T) (let q : i - f ≡ (i - (f + en)) + 1 = omega arith in q) in omega arith
        by (inr (x, r)) (inl (y, z)) = let q = ap (λ (n : ℕ). n * T) (let q : i - f ≡ i - (f + en) = omega arith in q) in omega arith
    fewer grant sup togo need lf st en f nt le (lacks a b u c d e) =
        let q : f + en ≡ f = omega arith in
        let r : lf ≡ togo = omega arith in
        inr (inr (a, ap (λ (n : ℕ). (i - n) * T + rest T lf) q ∙ ap (λ (n : ℕ). (i - f) * T + rest T n) r))

    -- a firing that ends had one tick to go
    last_one : (grant sup : Bool) (togo need lf st en : ℕ) → need ≡ T → en ≡ 1 → Move grant sup togo need lf st en → (grant ≡ true) × (rest T togo ≡ 1)
    last_one grant sup togo need lf st en nt e1 (rests a b c d) = absurd (omega arith)
    last_one grant sup togo need lf st en nt e1 (goes a b c d e) = (a, let cs = rest_cases T togo in omega arith)
    last_one grant sup togo need lf st en nt e1 (begins a b u c d e) = (a, let cs = rest_cases T togo in omega arith)
    last_one grant sup togo need lf st en nt e1 (lacks a b u c d e) = absurd (omega arith)

    rem_some : (f togo : ℕ) → 0 < rem_of f togo
    rem_some f togo = let cs = rest_cases T togo in omega arith

    module _ (k a t : ℕ) (ki : k ≤ i) (tight : t ≡ a + worst_of p s ((i - k + 1) * T)) (there : (n : ℕ) → w a n ≡ worst_of p s n) where
      abbrev Known : State → Type 0
      Known σ = k < σ.arrivals.count 0 → σ.arrivals.stamp 0 k ≡ a

      pub record Low (σ : State) : Type 0 where
        pub base : Base (lone T) σ
        pub need : σ.need 0 ≡ T
        pub began : (j : ℕ) → j < σ.fired 0 + min 1 (σ.to_go 0) → σ.arrivals.stamp 0 j < σ.clock
        pub low : Known σ → a ≤ σ.clock → σ.fired 0 ≤ i → t ≤ σ.clock + w σ.clock (rem_of (σ.fired 0) (σ.to_go 0))
        pub late : Known σ → (c : ℕ) → Ended σ 0 i c → t ≤ c

      -- at a, none of the firings from k on has begun
      none_begun : (σ : State) → Base (lone T) σ → ((j : ℕ) → j < σ.fired 0 + min 1 (σ.to_go 0) → σ.arrivals.stamp 0 j < σ.clock) → σ.clock ≤ a → Known σ → σ.fired 0 + min 1 (σ.to_go 0) ≤ k
      none_begun σ b began le known = go (le_or_lt (σ.fired 0 + min 1 (σ.to_go 0)) k)
        where
          go : (σ.fired 0 + min 1 (σ.to_go 0) ≤ k) ⊎ (k < σ.fired 0 + min 1 (σ.to_go 0)) → σ.fired 0 + min 1 (σ.to_go 0) ≤ k
          go (inl h) = h
          go (inr h) = absurd (omega (arith, began k h, known (omega (arith, b.wait_count 0 (omega arith) refl))))

      opened : (σ : State) → Base (lone T) σ → ((j : ℕ) → j < σ.fired 0 + min 1 (σ.to_go 0) → σ.arrivals.stamp 0 j < σ.clock) → σ.clock ≡ a → Known σ → σ.fired 0 ≤ i →
          t ≤ σ.clock + w σ.clock (rem_of (σ.fired 0) (σ.to_go 0))
      opened σ b began now known le =
          let few = none_begun σ b began (omega arith) known in
          let more : (i - k + 1) * T ≤ rem_of (σ.fired 0) (σ.to_go 0) = go few (rest_cases T (σ.to_go 0)) in
          let same : w σ.clock (rem_of (σ.fired 0) (σ.to_go 0)) ≡ w a (rem_of (σ.fired 0) (σ.to_go 0)) = ap (λ (c : ℕ). w c (rem_of (σ.fired 0) (σ.to_go 0))) now in
          omega (arith, there (rem_of (σ.fired 0) (σ.to_go 0)), worst_rises p s some fits _ _ more)
        where
          go : σ.fired 0 + min 1 (σ.to_go 0) ≤ k → (((σ.to_go 0 ≡ 0) × (rest T (σ.to_go 0) ≡ T)) ⊎ ((1 ≤ σ.to_go 0) × (rest T (σ.to_go 0) ≡ σ.to_go 0))) → (i - k + 1) * T ≤ rem_of (σ.fired 0) (σ.to_go 0)
          go few (inl (x, y)) = let m : i - k + 1 ≤ i - σ.fired 0 + 1 = omega arith in omega (arith, mul-le-mul_right T m)
          go few (inr (x, y)) = let m : i - k + 1 ≤ i - σ.fired 0 = omega arith in omega (arith, mul-le-mul_right T m)

      pub low_start : Sound (lone T) → Low (new_state (lone T))
      low_start sound = record {
        base = base_start (lone T) sound;
        need = refl;
        began = λ j h. absurd (omega arith);
        low = λ known h le. opened (new_state (lone T)) (base_start (lone T) sound) (λ j h. absurd (omega arith)) (omega arith) known le;
        late = λ known c m. absurd (Memᴰ.not-nil m);
      }

      pub low_needs : (σ : State) (v n : ℕ) → n ≡ T → Low σ → Low (need_set σ v n)
      low_needs σ v n e l = record {
        base = base_needs (lone T) σ v n (omega arith) (omega arith) l.base;
        need = let old : σ.need 0 ≡ T = l.need in go (eqb 0 v);
        began = l.began;
        low = l.low;
        late = l.late;
      }
        where
          go : (b : Bool) → cond b n (σ.need 0) ≡ T
          go true = e
          go false = l.need

      pub low_arrived : (σ : State) (v : ℕ) → Low σ → Low (arrived σ v)
      low_arrived σ v l = record {
        base = base_arrived (lone T) σ v l.base;
        need = l.need;
        began = λ j h.
            let old : σ.arrivals.stamp 0 j < σ.clock = l.began j h in
            let c : σ.waiting 0 + (σ.fired 0 + min 1 (σ.to_go 0)) ≡ σ.arrivals.count 0 = l.base.wait_count 0 (omega arith) refl in
            let m : j < σ.arrivals.count 0 = omega arith in
            kept j m old;
        low = λ known. l.low (before known);
        late = λ known. l.late (before known);
      }
        where
          kept : (j : ℕ) → j < σ.arrivals.count 0 → σ.arrivals.stamp 0 j < σ.clock → cond (eqb 0 v && eqb j (σ.arrivals.count 0)) σ.clock (σ.arrivals.stamp 0 j) < σ.clock
          kept j m old = grind (arith, nat_tests)

          before : Known (arrived σ v) → Known σ
          before known h =
              let new : cond (eqb 0 v && eqb k (σ.arrivals.count 0)) σ.clock (σ.arrivals.stamp 0 k) ≡ a = known (omega arith) in
              grind (arith, nat_tests)

      module _ (sound : Sound (lone T)) (σ : State) (gr : ℕ → Bool) (grants : gr 0 ≡ ltb (posn p φ σ.clock) s) (l : Low σ) where
        abbrev f : ℕ
        f = σ.fired 0

        abbrev en : ℕ
        en = one (ends (lone T) σ gr 0)

        abbrev lf : ℕ
        lf = left (lone T) σ gr 0

        moved : Move (gr 0) (supplied (lone T) σ 0) (σ.to_go 0) (σ.need 0) lf (one (starts (lone T) σ gr 0)) en
        moved = move (lone T) σ gr 0 (l.base.need_pos 0 (omega arith))

        began' : (j : ℕ) → j < f + en + min 1 lf → σ.arrivals.stamp 0 j < σ.clock + 1
        began' j h = go (le_or_lt (f + min 1 (σ.to_go 0)) j) moved (begun _ _ _ _ _ _ _ f moved)
          where
            go : (f + min 1 (σ.to_go 0) ≤ j) ⊎ (j < f + min 1 (σ.to_go 0)) → {st : ℕ} → Move (gr 0) (supplied (lone T) σ 0) (σ.to_go 0) (σ.need 0) lf st en → f + en + min 1 lf ≡ f + min 1 (σ.to_go 0) + st → σ.arrivals.stamp 0 j < σ.clock + 1
            go (inr m) mv e = omega (arith, l.began j m)
            go (inl m) (rests _ _ z _) e = absurd (omega arith)
            go (inl m) (goes _ _ _ z _) e = absurd (omega arith)
            go (inl m) (lacks _ _ _ _ z _) e = absurd (omega arith)
            go (inl m) (begins _ _ sup _ z _) e =
                let has : 1 ≤ σ.waiting 0 = ((supplied_decides (lone T) σ 0).0 sup).inlet refl in
                let c : σ.waiting 0 + (σ.fired 0 + min 1 (σ.to_go 0)) ≡ σ.arrivals.count 0 = l.base.wait_count 0 (omega arith) refl in
                let n : j < σ.arrivals.count 0 = omega arith in
                omega (arith, l.base.stamped 0 j (omega arith) n)

        base' : Base (lone T) (ticked (lone T) gr σ)
        base' = base_ticked (lone T) sound σ gr l.base

        low' : Known σ → a ≤ σ.clock + 1 → f + en ≤ i → t ≤ σ.clock + 1 + w (σ.clock + 1) (rem_of (f + en) lf)
        low' known h le = go (le_or_lt a σ.clock)
          where
            step : a ≤ σ.clock →
                ((gr 0 ≡ false) × (rem_of (f + en) lf ≡ rem_of f (σ.to_go 0))) ⊎ ((gr 0 ≡ true) × (rem_of f (σ.to_go 0) ≡ rem_of (f + en) lf + 1)) ⊎ ((gr 0 ≡ true) × (rem_of (f + en) lf ≡ rem_of f (σ.to_go 0))) →
                t ≤ σ.clock + 1 + w (σ.clock + 1) (rem_of (f + en) lf)
            step m (inl (q, e)) =
                let old = l.low known m (omega arith) in
                omega (arith, kept_later σ.clock (rem_of f (σ.to_go 0)) (sym grants ∙ q) (rem_some f (σ.to_go 0)), ap (w (σ.clock + 1)) e)
            step m (inr (inl (q, e))) =
                let old = l.low known m (omega arith) in
                omega (arith, given_later σ.clock (rem_of (f + en) lf) (sym grants ∙ q), ap (w σ.clock) e)
            step m (inr (inr (q, e))) =
                let old = l.low known m (omega arith) in
                omega (arith, given_later σ.clock (rem_of (f + en) lf) (sym grants ∙ q), ap (w σ.clock) e, wait_rises p s some fits (posn p φ σ.clock) (posn_below p φ below σ.clock) (rem_of (f + en) lf) (rem_of (f + en) lf + 1) (omega arith))

            go : (a ≤ σ.clock) ⊎ (σ.clock < a) → t ≤ σ.clock + 1 + w (σ.clock + 1) (rem_of (f + en) lf)
            go (inl m) = step m (fewer (gr 0) (supplied (lone T) σ 0) (σ.to_go 0) (σ.need 0) lf _ en f l.need le moved)
            go (inr m) = opened (ticked (lone T) gr σ) base' began' (omega arith) known le

        late' : Known σ → (c : ℕ) → Ended (ticked (lone T) gr σ) 0 i c → t ≤ c
        late' known c m = go (Memᴰ.append_cases σ.records m)
          where
            now : (ends (lone T) σ gr 0 ≡ true) × (f ≡ i) × (c ≡ σ.clock + 1) → (a ≤ σ.clock) ⊎ (σ.clock < a) → t ≤ c
            now (e, q, r) (inl h) =
                let o = last_one (gr 0) (supplied (lone T) σ 0) (σ.to_go 0) (σ.need 0) lf _ en l.need (ap one e) moved in
                let z : i - f ≡ 0 = omega arith in
                let y : (i - f) * T ≡ 0 = ap (λ (n : ℕ). n * T) z ∙ zero-mul T in
                let x : rem_of f (σ.to_go 0) ≡ 0 + 1 = omega (arith, o.1) in
                omega (arith, l.low known h (omega arith), given_later σ.clock 0 (sym grants ∙ o.0), ap (w σ.clock) x)
            now (e, q, r) (inr h) =
                let one_more : en ≡ 1 = ap one e in
                let few = none_begun (ticked (lone T) gr σ) base' began' (omega arith) known in
                absurd (omega arith)

            go : Ended σ 0 i c ⊎ Memᴰ {A = Finished} (record { task = 0; firing = i; clock = c }) (put_out (lone T) σ gr 1) → t ≤ c
            go (inl old) = l.late known c old
            go (inr new) = let o = put_of (lone T) σ gr 1 0 i c new in now (o.1, sym o.2, o.3) (le_or_lt a σ.clock)

        pub low_ticked : Low (ticked (lone T) gr σ)
        low_ticked = record { base = base'; need = l.need; began = began'; low = low'; late = late' }
