-- F is a function, and exists exactly once the arrivals that it needs were accepted.
use Rattle.std.proofs.Common.{◌≡◌, ℕ, zero, suc, ◌-◌, ◌<◌, ◌≤◌, true, ◌⊎◌, ap, subst, inl, inr, arith}
use Rattle.flow.specs.Nets.{Net, Sound, Arrivals}
use Rattle.flow.specs.Finish.{Cost, Feeds, Finish, finish, Needs, own, fed}
use Rattle.flow.specs.FinishLaws.{OneBound, Supplied, BoundExists}
use Rattle.servers.specs.Rounding.{le_or_lt}
use Rattle.flow.proofs.Bounds.{finish_le, make_ready, make_finish}

pub one_bound : OneBound
one_bound g α cost v i t t' d d' = omega (arith, finish_le g α cost d d', finish_le g α cost d' d)

module _ (g : Net) (α : Arrivals) (cost : Cost) where
  module _ (sound : Sound g) where
    abbrev Has : ℕ → ℕ → Type 0
    Has v i = Supplied g α v i → (t : ℕ) × Finish g α cost v i t

    -- the firings n of the tasks of a rank below r
    level : (n : ℕ) → ((i : ℕ) → i < n → (v : ℕ) → v < g.tasks → Has v i) → (r v : ℕ) → v < g.tasks → sound.rank v < r → Has v n
    level n below zero v h l came = absurd (omega arith)
    level n below (suc r) v h l came = make_finish g α cost v n (λ k hk. make_ready g α cost v k (λ e fe. feeds k hk e fe (le_or_lt n (k - g.tokens e)) (λ u hu lu. level n below r u hu lu)) (λ q. came v k (own v n k q hk)))
      where
        feeds : (k : ℕ) → k ≤ n → (e : ℕ) → Feeds g v k e → (n ≤ k - g.tokens e) ⊎ (k - g.tokens e < n) → ((u : ℕ) → u < g.tasks → sound.rank u < r → Has u n) → (x : ℕ) × Finish g α cost (g.from e) (k - g.tokens e) x
        feeds k hk e fe (inr lt) _ = below (k - g.tokens e) lt (g.from e) (sound.from_task e fe.edge) (λ u m d. came u m (fed v n k e u m hk fe d))
        feeds k hk e fe (inl ge) lower =
            let past : g.tokens e ≤ k = fe.past in
            let q : n ≡ k - g.tokens e = omega arith in
            let free : g.tokens e ≡ 0 = omega arith in
            let to : sound.rank (g.to e) ≡ sound.rank v = ap sound.rank fe.into in
            subst (λ (j : ℕ). Has (g.from e) j) q (lower (g.from e) (sound.from_task e fe.edge) (omega (arith, sound.forward e fe.edge free))) (λ u m d. came u m (fed v n k e u m hk fe d))

    all : (n i : ℕ) → i < n → (v : ℕ) → v < g.tasks → Has v i
    all zero i hi v h = absurd (omega arith)
    all (suc n) i hi v h = go (le_or_lt n i) (all n)
      where
        go : (n ≤ i) ⊎ (i < n) → ((j : ℕ) → j < n → (u : ℕ) → u < g.tasks → Has u j) → Has v i
        go (inl l) below = let q : n ≡ i = omega arith in subst (λ (j : ℕ). Has v j) q (level n below (suc (sound.rank v)) v h (omega arith))
        go (inr l) below = below i l v h

  only_once : {v i t : ℕ} → Finish g α cost v i t → Supplied g α v i
  only_once (finish a f ds rs m) u k (own _ _ _ q h) = ((rs k h).arrived q).0
  only_once (finish a f ds rs m) u j (fed _ _ k e _ _ h fe d) = only_once (ds k h e fe) u j d

pub bound_exists : BoundExists
bound_exists = record {
  once = λ g sound α cost v i h came. all g α cost sound (suc i) i (omega arith) v h came;
  only = λ g α cost v i t d. only_once g α cost d;
}

-- what a firing needs is at an inlet, and of a number that is not above its own
pub needs_within : (g : Net) → Sound g → {v i u m : ℕ} → Needs g v i u m → v < g.tasks → (u < g.tasks) × (g.inlet u ≡ true) × (m ≤ i)
needs_within g sound (own v i k q l) h = (h, q, l)
needs_within g sound (fed v i k e u m l fe d) h =
    let r = needs_within g sound d (sound.from_task e fe.edge) in
    (r.0, r.1, omega (arith, r.2))

-- Once each inlet has had arrivals 0 to i, firing i of every task has a finish bound.
pub has_bound : (g : Net) → Sound g → (α : Arrivals) (cost : Cost) (v i : ℕ) → v < g.tasks → ((u : ℕ) → u < g.tasks → g.inlet u ≡ true → i < α.count u) → (t : ℕ) × Finish g α cost v i t
has_bound g sound α cost v i h came =
    bound_exists.once g sound α cost v i h (λ u m d. let r = needs_within g sound d h in omega (arith, came u r.0 r.1, r.2))
