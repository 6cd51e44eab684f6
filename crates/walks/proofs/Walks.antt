-- The walks that a search keeps, and what they show.
use Rattle.std.proofs.Common.{◌≡◌, ℕ, suc, ◌+◌, ◌<◌, ◌≤◌, ◌≢◌, ◌⊎◌, inl, inr, refl, sym, ap, subst, ◌∙◌, List, [], ◌∷◌, ◌++◌, length, get_or, drop, append_assoc, append-nil, length-append, arith}
use Rattle.std.proofs.lemmas.List.{get_or_append_left, get_or_push, drop_at}
use Rattle.std.proofs.lemmas.Bool.{cases_lt}
use Rattle.walks.proofs.Each.{each_push}
use Rattle.walks.specs.ArcNet.{Each}
use Rattle.walks.specs.ArcNet.{ArcNet, Lawful, Way, along, Apart, Improves}
use Rattle.walks.proofs.Pigeon.{few_but}

-- v is none of the tasks that a walk along ws to u meets
pub record Fresh (g : ArcNet) (ws : List ℕ) (u v : ℕ) : Type 0 where
  pub on_way : Each (λ e. g.from e ≢ v) ws
  pub at_end : u ≢ v

-- A walk along ws to v with the value z, that meets no task twice; at each task that it meets its value is at most d.
pub data Walk (g : ArcNet) (d : ℕ → g.V) : List ℕ → ℕ → g.V → Type 0 where
  stand : {v : ℕ} → v < g.tasks → g.upto (g.base v) (d v) → Walk g d [] v (g.base v)
  on :
      {ws : List ℕ} {u : ℕ} {z : g.V} (e : ℕ) → Walk g d ws u z → e < g.arcs → g.from e ≡ u → Fresh g ws u (g.to e) →
      g.to e < g.tasks → g.upto (g.step e z) (d (g.to e)) →
      Walk g d (ws ++ e ∷ []) (g.to e) (g.step e z)

pub walk_more : (g : ArcNet) → Lawful g → (d d' : ℕ → g.V) → ((v : ℕ) → v < g.tasks → g.upto (d v) (d' v)) →
    {ws : List ℕ} {u : ℕ} {z : g.V} → Walk g d ws u z → Walk g d' ws u z
walk_more g ok d d' up (stand {v} h b) = stand h (ok.chain _ _ _ b (up v h))
walk_more g ok d d' up (on e w h f new t b) = on e (walk_more g ok d d' up w) h f new t (ok.chain _ _ _ b (up (g.to e) t))

pub walk_end : (g : ArcNet) (d : ℕ → g.V) {ws : List ℕ} {u : ℕ} {z : g.V} → Walk g d ws u z → u < g.tasks
walk_end g d (stand h b) = h
walk_end g d (on e w h f new t b) = t

apart_push : {X : Type 0} (f : X → ℕ) (xs : List X) (x : X) → Apart f xs → Each (λ y. f y ≢ f x) xs → Apart f (xs ++ x ∷ [])
apart_push f [] x a n = (tt, tt)
apart_push f (y ∷ ys) x (p, a) (q, n) = (each_push (λ z. f z ≢ f y) ys x p (λ e. q (sym e)), apart_push f ys x a n)

other_end : (g : ArcNet) (ws : List ℕ) (u v : ℕ) → u ≡ v → Each (λ e. g.from e ≢ u) ws → Each (λ e. g.from e ≢ v) ws
other_end g ws u v e a = subst (λ (k : ℕ). Each (λ e. g.from e ≢ k) ws) e a

push_fresh : (g : ArcNet) (ws : List ℕ) (u e : ℕ) → g.from e ≡ u → Fresh g ws u (g.to e) → Each (λ a. g.from a ≢ g.to e) (ws ++ e ∷ [])
push_fresh g ws u e f new = each_push (λ a. g.from a ≢ g.to e) ws e (new.on_way) (λ q. new.at_end (sym f ∙ q))

pub walk_apart : (g : ArcNet) (d : ℕ → g.V) {ws : List ℕ} {u : ℕ} {z : g.V} → Walk g d ws u z → Apart (g.from) ws × Each (λ e. g.from e ≢ u) ws
walk_apart g d (stand h b) = (tt, tt)
walk_apart g d (on {ws} {u} e w h f new t b) =
    let r = walk_apart g d w in
    (apart_push (g.from) ws e (r.0) (other_end g ws u (g.from e) (sym f) (r.1)), push_fresh g ws u e f new)

pub walk_arcs : (g : ArcNet) (d : ℕ → g.V) {ws : List ℕ} {u : ℕ} {z : g.V} → Walk g d ws u z → Each (λ e. e < g.arcs) ws
walk_arcs g d (stand h b) = tt
walk_arcs g d (on {ws} e w h f new t b) = each_push (λ e. e < g.arcs) ws e (walk_arcs g d w) h

all_to : (g : ArcNet) → Lawful g → (ws : List ℕ) → Each (λ e. e < g.arcs) ws → Each (λ e. g.from e < g.tasks) ws
all_to g ok [] a = tt
all_to g ok (e ∷ es) (p, a) = (ok.from_task e p, all_to g ok es a)

-- a walk has fewer arcs than there are tasks
pub walk_short : (g : ArcNet) → Lawful g → (d : ℕ → g.V) {ws : List ℕ} {u : ℕ} {z : g.V} → Walk g d ws u z → length ws < g.tasks
walk_short g ok d {ws} {u} w =
    let r = walk_apart g d w in
    few_but (g.from) (g.tasks) u ws (walk_end g d w) (all_to g ok ws (walk_arcs g d w)) (r.0) (r.1)

-- Where a walk to u meets v at place i.
pub record Met (g : ArcNet) (ws : List ℕ) (u v i : ℕ) : Type 0 where
  pub place : ((i < length ws) × (g.from (get_or ws i 0) ≡ v)) ⊎ ((i ≡ length ws) × (u ≡ v))

-- The part of the walk from v on.
pub record Since (g : ArcNet) (d : ℕ → g.V) (ws : List ℕ) (u : ℕ) (z : g.V) (v i : ℕ) : Type 0 where
  pub front : List ℕ
  pub back : List ℕ
  pub is : ws ≡ front ++ back
  pub place : length front ≡ i
  pub way : Way g v back u
  pub apart : Apart (g.from) back
  pub ends : Each (λ e. g.from e ≢ u) back
  pub value : g.V
  pub low : g.upto value (d v)
  pub comes : z ≡ along g back value

along_push : (g : ArcNet) (es : List ℕ) (e : ℕ) (z : g.V) → along g (es ++ e ∷ []) z ≡ g.step e (along g es z)
along_push g [] e z = refl
along_push g (a ∷ es) e z = along_push g es e (g.step a z)

way_push : (g : ArcNet) (u : ℕ) (es : List ℕ) (v e : ℕ) → Way g u es v → e < g.arcs → g.from e ≡ v → Way g u (es ++ e ∷ []) (g.to e)
way_push g u [] v e w h f = (h, f ∙ sym w, refl)
way_push g u (a ∷ es) v e (p, q, w) h f = (p, q, way_push g (g.to a) es v e w h f)

all_back : {X : Type 0} (P : X → Type 0) (xs ys : List X) → Each P (xs ++ ys) → Each P ys
all_back P [] ys a = a
all_back P (x ∷ xs) ys (p, a) = all_back P xs ys a

-- a place in ws and one more arc: in ws, or at its end
place_cases : (g : ArcNet) (ws : List ℕ) (u e v i : ℕ) → g.from e ≡ u → Met g (ws ++ e ∷ []) (g.to e) v i →
    Met g ws u v i ⊎ ((i ≡ suc (length ws)) × (g.to e ≡ v))
place_cases g ws u e v i f m = go (m.place)
  where
    len : length (ws ++ e ∷ []) ≡ length ws + 1
    len = length-append ws (e ∷ [])

    inside : (i < length ws) ⊎ (length ws ≤ i) → i < length (ws ++ e ∷ []) → g.from (get_or (ws ++ e ∷ []) i 0) ≡ v → Met g ws u v i ⊎ ((i ≡ suc (length ws)) × (g.to e ≡ v))
    inside (inl l) h q = inl (record { place = inl (l, ap (g.from) (sym (get_or_append_left ws (e ∷ []) 0 i l)) ∙ q) })
    inside (inr l) h q =
        let same : length ws ≡ i = omega (arith, len) in
        inl (record { place = inr (sym same, sym f ∙ ap (g.from) (sym (get_or_push ws e 0 i same)) ∙ q) })

    go : ((i < length (ws ++ e ∷ [])) × (g.from (get_or (ws ++ e ∷ []) i 0) ≡ v)) ⊎ ((i ≡ length (ws ++ e ∷ [])) × (g.to e ≡ v)) → Met g ws u v i ⊎ ((i ≡ suc (length ws)) × (g.to e ≡ v))
    go (inl (h, q)) = inside (cases_lt i (length ws)) h q
    go (inr (h, q)) = inr (omega (arith, len), q)

here : (g : ArcNet) (d : ℕ → g.V) (ws : List ℕ) (u : ℕ) (z : g.V) (v i : ℕ) → i ≡ length ws → u ≡ v → g.upto z (d u) → Since g d ws u z v i
here g d ws u z v i at q low = record {
  front = ws;
  back = [];
  is = sym (append-nil ws);
  place = sym at;
  way = sym q;
  apart = tt;
  ends = tt;
  value = z;
  low = subst (λ (k : ℕ). g.upto z (d k)) q low;
  comes = refl;
}

further : (g : ArcNet) (d : ℕ → g.V) (ws : List ℕ) (u : ℕ) (z : g.V) (v i e : ℕ) → Since g d ws u z v i → e < g.arcs → g.from e ≡ u → Fresh g ws u (g.to e) →
    Since g d (ws ++ e ∷ []) (g.to e) (g.step e z) v i
further g d ws u z v i e s h f new = record {
  front = s.front;
  back = s.back ++ e ∷ [];
  is = ap (λ l. l ++ e ∷ []) (s.is) ∙ append_assoc (s.front) (s.back) (e ∷ []);
  place = s.place;
  way = way_push g v (s.back) u e (s.way) h f;
  apart = apart_push (g.from) (s.back) e (s.apart) (other_end g (s.back) u (g.from e) (sym f) (s.ends));
  ends = each_push (λ a. g.from a ≢ g.to e) (s.back) e
      (all_back (λ a. g.from a ≢ g.to e) (s.front) (s.back) (subst (λ l. Each (λ a. g.from a ≢ g.to e) l) (s.is) (new.on_way)))
      (λ q. new.at_end (sym f ∙ q));
  value = s.value;
  low = s.low;
  comes = ap (g.step e) (s.comes) ∙ sym (along_push g (s.back) e (s.value));
}

pub since : (g : ArcNet) (d : ℕ → g.V) {ws : List ℕ} {u : ℕ} {z : g.V} → Walk g d ws u z → (v i : ℕ) → Met g ws u v i → Since g d ws u z v i
since g d (stand {v = u} h b) v i m = go (m.place)
  where
    go : ((i < 0) × (g.from (get_or [] i 0) ≡ v)) ⊎ ((i ≡ 0) × (u ≡ v)) → Since g d [] u (g.base u) v i
    go (inl (l, q)) = absurd (omega arith)
    go (inr (l, q)) = here g d [] u (g.base u) v i l q b
since g d (on {ws} {u} {z} e w h f new t b) v i m = go (place_cases g ws u e v i f m) (λ m'. since g d w v i m')
  where
    go : Met g ws u v i ⊎ ((i ≡ suc (length ws)) × (g.to e ≡ v)) → (Met g ws u v i → Since g d ws u z v i) → Since g d (ws ++ e ∷ []) (g.to e) (g.step e z) v i
    go (inl m') before = further g d ws u z v i e (before m') h f new
    go (inr (l, q)) before = here g d (ws ++ e ∷ []) (g.to e) (g.step e z) v i (omega (arith, length-append ws (e ∷ []))) q b

-- An arc that would raise a task which the walk to its start has met closes a ring that improves on standing still.
pub closes : (g : ArcNet) → Lawful g → (d : ℕ → g.V) {ws : List ℕ} {u : ℕ} {z : g.V} → Walk g d ws u z → (e i : ℕ) → e < g.arcs → g.from e ≡ u →
    Met g ws u (g.to e) i → (g.upto (g.step e z) (d (g.to e)) → ⊥) → Improves g (g.to e) (drop i ws ++ e ∷ [])
closes g ok d {ws} {u} {z} w e i h f m up = record {
  round = record {
    some = simp length-append (omega arith);
    way = rw cut (way_push g (g.to e) (s.back) u e (s.way) h f);
    apart = rw cut (apart_push (g.from) (s.back) e (s.apart) (other_end g (s.back) u (g.from e) (sym f) (s.ends)));
  };
  value = s.value;
  better = λ b. up (ok.chain _ _ _ (subst (λ x. g.upto x (s.value)) (ap (λ l. along g (l ++ e ∷ []) (s.value)) cut ∙ along_push g (s.back) e (s.value) ∙ ap (g.step e) (sym (s.comes))) b) (s.low));
}
  where
    s : Since g d ws u z (g.to e) i
    s = since g d w (g.to e) i m

    cut : drop i ws ≡ s.back
    cut = ap (drop i) (s.is) ∙ drop_at (s.front) (s.back) i (s.place)
