-- A place's window over one tick.
use Rattle.std.proofs.Common.{◌≡◌, ℕ, suc, ◌+◌, ◌-◌, ◌*◌, ◌≤◌, Bool, true, false, cond, eqb, ◌⊎◌, refl, ap, inl, inr, mul-le-mul_right, arith}
use Rattle.std.proofs.lemmas.Bool.Decides.{nat_tests}
use Rattle.runs.proofs.Bare.{Waits, Ticked}
use Rattle.runs.proofs.Moves.{Move, rests, goes, begins, lacks}

-- the ticks that the firing under way, or else the next one, may still take
pub rest : ℕ → ℕ → ℕ
rest time togo = cond (eqb togo 0) time togo

pub rest_cases : (time togo : ℕ) → ((togo ≡ 0) × (rest time togo ≡ time)) ⊎ ((1 ≤ togo) × (rest time togo ≡ togo))
unfolding rest
rest_cases time togo = go (eqb togo 0) refl
  where
    go : (b : Bool) → eqb togo 0 ≡ b → ((togo ≡ 0) × (cond b time togo ≡ time)) ⊎ ((1 ≤ togo) × (cond b time togo ≡ togo))
    go true q = inl (grind (arith, nat_tests), refl)
    go false q = inr (grind (arith, nat_tests), refl)

pub same_span : (f k t en : ℕ) → (f - k + 1) * t ≤ (f + en - k + 1) * t
same_span f k t en = let h : f - k + 1 ≤ f + en - k + 1 = omega arith in mul-le-mul_right t h

pub next_span : (f k t en : ℕ) → k ≤ f → en ≡ 1 → (f - k + 1) * t + t ≤ (f + en - k + 1) * t
next_span f k t en h q =
    let p : suc (f - k + 1) ≤ f + en - k + 1 = omega arith in
    omega (arith, mul-le-mul_right t p)

pub first_span : (f t : ℕ) → t ≤ (f - f + 1) * t
first_span f t = let p : 1 ≤ f - f + 1 = omega arith in omega (arith, mul-le-mul_right t p)

-- A window opens: at its start nothing is behind.
pub open_window : (z w : ℕ → ℕ) (c a f time togo : ℕ) → Waits z w → 1 ≤ time → togo ≤ time → c ≤ a → (x : ℕ) → c + w (rest time togo + x) ≤ a + z ((f - f + 1) * time + x)
open_window z w c a f time togo ws pos fits le x =
    let cs = rest_cases time togo in
    let r : rest time togo ≤ time = omega arith in
    let n : rest time togo + x ≤ time + x = omega arith in
    let m : time + x ≤ (f - f + 1) * time + x = omega (arith, first_span f time) in
    omega (arith, ws.rises _ _ n, ws.within (time + x), ws.worst_rises _ _ m)

-- The window of a task is kept over a tick, unless the task lacked tokens.
module _ (grant sup : Bool) (z w w' : ℕ → ℕ) (c a f k time togo need left st en : ℕ)
    (ws : Waits z w) (ws' : Waits z w') (step : Ticked grant w w') (pos : 1 ≤ time) (need_fits : need ≤ time) (since : k ≤ f)
    (held : (x : ℕ) → c + w (rest time togo + x) ≤ a + z ((f - k + 1) * time + x)) where
  -- granted, and at most one tick less is to go
  given : grant ≡ true → suc left ≤ rest time togo → en ≡ 1 - left → (x : ℕ) → c + 1 + w' (rest time left + x) ≤ a + z ((f + en - k + 1) * time + x)
  given grant less ends x = go (rest_cases time left)
    where
      go : ((left ≡ 0) × (rest time left ≡ time)) ⊎ ((1 ≤ left) × (rest time left ≡ left)) → c + 1 + w' (rest time left + x) ≤ a + z ((f + en - k + 1) * time + x)
      go (inl (p, q)) =
          let e : en ≡ 1 = omega arith in
          let n : suc (rest time left + x) ≤ rest time togo + (time + x) = omega arith in
          let m : (f - k + 1) * time + (time + x) ≤ (f + en - k + 1) * time + x = omega (arith, next_span f k time en since e) in
          omega (arith, step.given grant (rest time left + x), ws.rises _ _ n, held (time + x), ws.worst_rises _ _ m)
      go (inr (p, q)) =
          let n : suc (rest time left + x) ≤ rest time togo + x = omega arith in
          let m : (f - k + 1) * time + x ≤ (f + en - k + 1) * time + x = omega (arith, same_span f k time en) in
          omega (arith, step.given grant (rest time left + x), ws.rises _ _ n, held x, ws.worst_rises _ _ m)

  pub slide : Move grant sup togo need left st en → (togo ≡ 0 → sup ≡ true) → (x : ℕ) → c + 1 + w' (rest time left + x) ≤ a + z ((f + en - k + 1) * time + x)
  slide (rests no_grant stays _ none) has x =
      let cs = rest_cases time togo in
      let r : 1 ≤ rest time togo + x = omega arith in
      let e : rest time left ≡ rest time togo = ap (rest time) stays in
      let n : rest time left + x ≤ rest time togo + x = omega arith in
      let m : (f - k + 1) * time + x ≤ (f + en - k + 1) * time + x = omega (arith, same_span f k time en) in
      omega (arith, step.kept no_grant (rest time togo + x) r, ws'.rises _ _ n, held x, ws.worst_rises _ _ m)
  slide (goes grant busy less _ ends) has x =
      let cs = rest_cases time togo in
      let l : suc left ≤ rest time togo = omega arith in
      given grant l ends x
  slide (begins grant idle _ less _ ends) has x =
      let cs = rest_cases time togo in
      let l : suc left ≤ rest time togo = omega arith in
      given grant l ends x
  slide (lacks grant idle lack _ _ _) has x = let h = has idle in absurd cc
