-- The search at arcs that add a lag: how a list of bests stands for a state.
use Rattle.std.proofs.Common.{◌≡◌, ℕ, suc, ◌+◌, ◌*◌, ◌^◌, ◌<◌, ◌≤◌, ◌≢◌, ◌⊎◌, inl, inr, refl, sym, ap, subst, ◌∙◌, List, [], ◌∷◌, ◌++◌, length, get_or, take, length-append, length-set, ℤ, pos, ◌≤ℤ◌, ◌<ℤ◌, arith}
use Rattle.std.proofs.lemmas.List.{take_more_set, length-take-le, get_or-take, get_or-set_same, get_or-set_other}
use Rattle.std.proofs.lemmas.Bool.{cases_eq}
use Rattle.std.proofs.lemmas.Int.{ints, by_lt_z}
use Rattle.walks.proofs.Each.{each_from, each_at}
use Rattle.walks.specs.declared.arcs.Arc.{Arc}
use Rattle.walks.specs.declared.best.Best.{Best}
use Rattle.walks.specs.declared.best.Pushed.{Pushed}
use Rattle.walks.specs.declared.best.Pushed.TheVariants as pushed
use Rattle.walks.specs.ArcNet.{ArcNet, Lawful}
use Rattle.walks.specs.Arcs.{arc_at, best_at, net, stepped, Better, longer, Pushes, Sound, Begun, Closes, Settles}
use Rattle.walks.proofs.Walks.{Walk, stand, on, walk_short, walk_arcs, closes}
use Rattle.walks.proofs.Turns.{State, Good, Holds, Held, Raised, held_start, held_more, settled, raised_good, raised_held}

either_way : (a b : ℤ) → (a ≤ℤ b) ⊎ (b ≤ℤ a)
either_way a b = by_lt_z a b (λ h. inl (omega (arith, ints))) inr

pub lawful : (es : List Arc) (base : List ℤ) → Sound es base → Lawful (net es base)
lawful es base ok = record {
  same = λ x. omega (arith, ints);
  chain = λ x y z p q. omega (arith, ints);
  total = either_way;
  spreads = λ e x y h p. omega (arith, ints);
  from_task = λ e h. (ok.ends e h).0;
  to_task = λ e h. (ok.ends e h).1;
}

abbrev pub state : (es : List Arc) (base : List ℤ) → List Best → State (net es base)
state es base bs = record { value = λ v. (best_at bs v).value; walk = λ v. take ((best_at bs v).count) ((best_at bs v).walk) }

-- what the loops keep
pub record Stands (es : List Arc) (base : List ℤ) (bs : List Best) : Type 0 where
  pub tasks : length bs ≡ 16
  pub count : (v : ℕ) → v < length base → (best_at bs v).count ≤ 16
  pub room : (v : ℕ) → v < length base → length ((best_at bs v).walk) ≡ 16
  pub good : Good (net es base) (state es base bs)

-- a walk's value is at most 2^52 for its base and for each arc
bounded : (es : List Arc) (base : List ℤ) → Sound es base → (d : ℕ → ℤ) {ws : List ℕ} {u : ℕ} {z : ℤ} → Walk (net es base) d ws u z → z ≤ℤ pos ((1 + length ws) * 2 ^ 52)
bounded es base ok d (stand {v} h b) = omega (arith, ints, (ok.bases v h).1)
bounded es base ok d (on {ws} {u} {z} e w h f new t b) =
    let before : z ≤ℤ pos ((1 + length ws) * 2 ^ 52) = bounded es base ok d w in
    let len : length (ws ++ e ∷ []) ≡ length ws + 1 = length-append ws (e ∷ []) in
    let lag : (arc_at es e).lag ≤ℤ pos (2 ^ 52) = ok.lags e h in
    omega (arith, ints)

module _ (es : List Arc) (base : List ℤ) (ok : Sound es base) (bs : List Best) (st : Stands es base bs) where
  long : (v : ℕ) → v < length base → length (take ((best_at bs v).count) ((best_at bs v).walk)) ≡ (best_at bs v).count
  long v h = length-take-le ((best_at bs v).count) ((best_at bs v).walk) (omega (arith, st.count v h, st.room v h))

  pub short : (v : ℕ) → v < length base → (best_at bs v).count < length base
  short v h = omega (arith, long v h, walk_short (net es base) (lawful es base ok) _ (st.good.walks v h))

  pub low : (v : ℕ) → v < length base → pos 0 ≤ℤ (best_at bs v).value
  low v h =
      let b : pos 0 ≤ℤ get_or base v (pos 0) = (ok.bases v h).0 in
      let u : get_or base v (pos 0) ≤ℤ (best_at bs v).value = st.good.based v h in
      omega (arith, ints)

  pub high : (v : ℕ) → v < length base → (best_at bs v).value ≤ℤ pos (2 ^ 60)
  high v h =
      let b : (best_at bs v).value ≤ℤ pos ((1 + length (take ((best_at bs v).count) ((best_at bs v).walk))) * 2 ^ 52) = bounded es base ok _ (st.good.walks v h) in
      let l = long v h in
      let s = short v h in
      let t = ok.tasks in
      omega (arith, ints)

  pub on_arcs : (v : ℕ) → v < length base → (i : ℕ) → i < (best_at bs v).count → get_or ((best_at bs v).walk) i 0 < length es
  on_arcs v h i l =
      let a = walk_arcs (net es base) _ (st.good.walks v h) in
      subst (λ (k : ℕ). k < length es) (get_or-take ((best_at bs v).count) ((best_at bs v).walk) i 0 l) (each_at (λ (k : ℕ). k < length es) _ i 0 (omega (arith, long v h)) a)

  module _ (e : ℕ) (h : e < length es) where
    abbrev u : ℕ
    u = (arc_at es e).from

    abbrev v : ℕ
    v = (arc_at es e).to

    from_task : u < length base
    from_task = (ok.ends e h).0

    to_task : v < length base
    to_task = (ok.ends e h).1

    not_upto : Better es e bs → stepped es e bs ≤ℤ (best_at bs v).value → ⊥
    not_upto b p = let a : (best_at bs v).value <ℤ stepped es e bs = b.above in omega (arith, ints)

    pub to_closes : (i : ℕ) (bs' : List Best) → Pushes es e bs bs' (pushed.Closed i) → Closes es base bs e i
    to_closes i bs' (same, better, place) = record {
      arc = h;
      from = omega (arith, from_task, ok.tasks);
      place = within place;
      count = omega (arith, short u from_task, ok.tasks);
      room = st.room u from_task;
      ring = closes (net es base) (lawful es base ok) (λ k. (best_at bs k).value) (st.good.walks u from_task) e i h refl (record { place = at place }) (not_upto better);
    }
      where
        within : ((i < (best_at bs u).count) × ((arc_at es (get_or ((best_at bs u).walk) i 0)).from ≡ v)) ⊎ ((i ≡ (best_at bs u).count) × (u ≡ v)) → i ≤ (best_at bs u).count
        within (inl (l, q)) = omega arith
        within (inr (l, q)) = omega arith

        at : ((i < (best_at bs u).count) × ((arc_at es (get_or ((best_at bs u).walk) i 0)).from ≡ v)) ⊎ ((i ≡ (best_at bs u).count) × (u ≡ v)) →
            ((i < length (take ((best_at bs u).count) ((best_at bs u).walk))) × ((arc_at es (get_or (take ((best_at bs u).count) ((best_at bs u).walk)) i 0)).from ≡ v)) ⊎ ((i ≡ length (take ((best_at bs u).count) ((best_at bs u).walk))) × (u ≡ v))
        at (inl (l, q)) = inl (omega (arith, long u from_task), ap (λ (k : ℕ). (arc_at es k).from) (get_or-take ((best_at bs u).count) ((best_at bs u).walk) i 0 l) ∙ q)
        at (inr (l, q)) = inr (omega (arith, long u from_task), q)

    module _ (bs' : List Best) (r : Pushes es e bs bs' pushed.Raised) where
      here : best_at bs' v ≡ longer (best_at bs u) e (stepped es e bs)
      here = ap (λ l. best_at l v) (r.0) ∙ get_or-set_same bs v (longer (best_at bs u) e (stepped es e bs)) _ (omega (arith, to_task, st.tasks, ok.tasks))

      there : (k : ℕ) → k ≢ v → best_at bs' k ≡ best_at bs k
      there k ne = ap (λ l. best_at l k) (r.0) ∙ get_or-set_other bs v k (longer (best_at bs u) e (stepped es e bs)) _ ne

      pub raised : Raised (net es base) (state es base bs) (state es base bs') e
      raised = record {
        up = not_upto (r.1);
        new = ap (λ b. b.value) here;
        way = ap (λ b. take (b.count) (b.walk)) here ∙ take_more_set ((best_at bs u).walk) ((best_at bs u).count) e (omega (arith, short u from_task, st.room u from_task, ok.tasks));
        fresh = record {
          on_way = each_from (λ a. (arc_at es a).from ≢ v) (take ((best_at bs u).count) ((best_at bs u).walk)) 0 (λ i l q.
              let l' : i < (best_at bs u).count = omega (arith, long u from_task) in
              r.3 i l' (ap (λ (k : ℕ). (arc_at es k).from) (sym (get_or-take ((best_at bs u).count) ((best_at bs u).walk) i 0 l')) ∙ q));
          at_end = r.2;
        };
        other = λ k ne. (ap (λ b. b.value) (there k ne), ap (λ b. take (b.count) (b.walk)) (there k ne));
      }

      -- each best is an old one, or the new one
      by_place : (P : Best → Type 0) (k : ℕ) → P (longer (best_at bs u) e (stepped es e bs)) → P (best_at bs k) → P (best_at bs' k)
      by_place P k now old = go (cases_eq k v)
        where
          go : (k ≡ v) ⊎ (k ≢ v) → P (best_at bs' k)
          go (inl q) = subst (λ (j : ℕ). P (best_at bs' j)) (sym q) (subst P (sym here) now)
          go (inr ne) = subst P (sym (there k ne)) old

      pub raised_stands : Stands es base bs'
      raised_stands = record {
        tasks = ap length (r.0) ∙ length-set bs v (longer (best_at bs u) e (stepped es e bs)) ∙ st.tasks;
        count = λ k l. by_place (λ b. b.count ≤ 16) k (omega (arith, short u from_task, ok.tasks)) (st.count k l);
        room = λ k l. by_place (λ b. length (b.walk) ≡ 16) k (length-set ((best_at bs u).walk) ((best_at bs u).count) e ∙ st.room u from_task) (st.room k l);
        good = raised_good (net es base) (lawful es base ok) (state es base bs) (state es base bs') e h raised (st.good);
      }

-- one push on
pub record Turn (es : List Arc) (base : List ℤ) (bs : List Best) (k e : ℕ) : Type 0 where
  pub stands : Stands es base bs
  pub before : Held (net es base) (state es base bs) k (length es)
  pub so_far : Held (net es base) (state es base bs) (suc k) e

pub next_turn : (es : List Arc) (base : List ℤ) → Sound es base → (bs bs' : List Best) (k e : ℕ) → e < length es → Turn es base bs k e →
    (r : Pushed) → Pushes es e bs bs' r → ((i : ℕ) → r ≡ pushed.Closed i → ⊥) → Turn es base bs' k (suc e)
unfolding Holds
next_turn es base ok bs bs' k e h t pushed.Kept (same, holds) other =
    subst (λ (l : List Best). Turn es base l k (suc e)) (sym same)
    (record { stands = t.stands; before = t.before; so_far = held_more (net es base) (state es base bs) (suc k) e (t.so_far) holds })
next_turn es base ok bs bs' k e h t pushed.Raised p other =
    let r = raised es base ok bs (t.stands) e h bs' p in
    let both = raised_held (net es base) (lawful es base ok) (state es base bs) (state es base bs') e h r k (t.before) (t.so_far) in
    record { stands = raised_stands es base ok bs (t.stands) e h bs' p; before = both.0; so_far = both.1 }
next_turn es base ok bs bs' k e h t (pushed.Closed i) p other = absurd (other i refl)

pub first_turn : (es : List Arc) (base : List ℤ) (bs : List Best) (k : ℕ) → Stands es base bs → Held (net es base) (state es base bs) k (length es) → Turn es base bs k 0
first_turn es base bs k st held = record { stands = st; before = held; so_far = held_start (net es base) (state es base bs) (suc k) }

pub at_last : (es : List Arc) (base : List ℤ) → Sound es base → (bs : List Best) → Stands es base bs → Held (net es base) (state es base bs) (length base) (length es) → Settles es base bs
at_last es base ok bs st held = settled (net es base) (lawful es base ok) (state es base bs) st.good held

nil_take : (n : ℕ) (xs : List ℕ) → n ≡ 0 → take n xs ≡ []
nil_take n xs q = ap (λ (k : ℕ). take k xs) q

walk_at : (g : ArcNet) (d : ℕ → g.V) (ws : List ℕ) (v : ℕ) (z : g.V) → ws ≡ [] → z ≡ g.base v → v < g.tasks → g.upto (g.base v) (d v) → Walk g d ws v z
walk_at g d ws v z p q h b = subst (λ x. Walk g d ws v x) (sym q) (subst (λ (l : List ℕ). Walk g d l v (g.base v)) (sym p) (stand h b))

same_up : (a b : ℤ) → a ≡ b → b ≤ℤ a
same_up a b q = subst (λ (x : ℤ). b ≤ℤ x) (sym q) (let h : b ≤ℤ b = omega (arith, ints) in h)

le_by : (a b c : ℤ) → a ≡ b → b ≤ℤ c → a ≤ℤ c
le_by a b c q h = subst (λ (x : ℤ). x ≤ℤ c) (sym q) h

pub begun : (es : List Arc) (base : List ℤ) → Sound es base → (bs : List Best) → Begun base bs → Stands es base bs
begun es base ok bs b = record {
  tasks = b.tasks;
  count = λ v h. omega (arith, b.count v (omega (arith, ok.tasks)));
  room = λ v h. b.room v (omega (arith, ok.tasks));
  good = record {
    walks = λ v h. walk_at (net es base) (λ k. (best_at bs k).value) _ v _ (nil_take _ ((best_at bs v).walk) (b.count v (omega (arith, ok.tasks)))) (b.value v h) h (same_up _ _ (b.value v h));
    based = λ v h. same_up _ _ (b.value v h);
    least = λ y set v h. le_by _ _ _ (b.value v h) (set.based v h);
  };
}

pub not_closed : (r : Pushed) → (r ≡ pushed.Kept) ⊎ (r ≡ pushed.Raised) → (i : ℕ) → r ≡ pushed.Closed i → ⊥
not_closed r (inl p) i q = let z : ◌≡◌ {A = ℕ} 0 1 = cc in omega arith
not_closed r (inr p) i q = let z : ◌≡◌ {A = ℕ} 0 1 = cc in omega arith
