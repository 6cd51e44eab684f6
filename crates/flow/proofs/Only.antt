-- F is the only relation that obeys the rule.
use Rattle.std.proofs.Common.{ℕ, zero, suc, ◌+◌, ◌-◌, ◌<◌, ◌≤◌, arith}
use Rattle.flow.specs.Nets.{Net, Sound, Arrivals}
use Rattle.flow.specs.Finish.{Cost, Feeds, ReadyLargest, FinishLargest, Finish, finish}

-- What the rule says of P at (v, i, t), where P u j x stands for F(u,j) = x
pub record Rule (g : Net) (α : Arrivals) (cost : Cost) (P : ℕ → ℕ → ℕ → Type 0) (v i t : ℕ) : Type 0 where
  pub a : ℕ → ℕ
  pub f : ℕ → ℕ → ℕ
  pub feeds : (k : ℕ) → k ≤ i → (e : ℕ) → Feeds g v k e → P (g.from e) (k - g.tokens e) (f k e)
  pub readies : (k : ℕ) → k ≤ i → ReadyLargest g α v k (a k) (f k)
  pub largest : FinishLargest cost v i t a

module _ (g : Net) (α : Arrivals) (cost : Cost) where
  -- F obeys the rule
  pub obeys : {v i t : ℕ} → Finish g α cost v i t → Rule g α cost (Finish g α cost) v i t
  obeys (finish a f ds rs m) = record { a = a; f = f; feeds = ds; readies = rs; largest = m }

  -- Firings each of which is fed by another of them never come.
  pub never : (S : ℕ → ℕ → Type 0) → ((v i : ℕ) → S v i → (k e : ℕ) × (k ≤ i) × Feeds g v k e × S (g.from e) (k - g.tokens e)) → {v i t : ℕ} → Finish g α cost v i t → S v i → ⊥
  never S fed {v} {i} (finish a f ds rs m) x = let y = fed v i x in never S fed (ds y.0 y.2 y.1 y.3) y.4

  -- and whatever obeys it is F
  module _ (sound : Sound g) (grows : (v m : ℕ) → v < g.tasks → 1 ≤ m → 1 ≤ cost v m) (P : ℕ → ℕ → ℕ → Type 0) (rule : (v i t : ℕ) → v < g.tasks → P v i t → Rule g α cost P v i t) where
    below : (n v i t : ℕ) → t < n → v < g.tasks → P v i t → Finish g α cost v i t
    below zero v i t l h p = absurd (omega arith)
    below (suc n) v i t l h p =
        let r = rule v i t h p in
        finish r.a r.f (λ k hk e fe. below n (g.from e) (k - g.tokens e) (r.f k e) (less r k hk e fe) (sound.from_task e fe.edge) (r.feeds k hk e fe)) r.readies r.largest
      where
        less : (r : Rule g α cost P v i t) (k : ℕ) → k ≤ i → (e : ℕ) → Feeds g v k e → r.f k e < n
        less r k hk e fe =
            let one : 1 ≤ i - k + 1 = omega arith in
            omega (arith, (r.readies k hk).fed e fe, r.largest.covers k hk, grows v (i - k + 1) h one)

    pub only : (v i t : ℕ) → v < g.tasks → P v i t → Finish g α cost v i t
    only v i t h p = below (suc t) v i t (omega arith) h p
