-- Marking the tasks that token-free edges lead to.
use Rattle.std.proofs.Common.{◌≡◌, ℕ, zero, suc, ◌+◌, ◌<◌, ◌≤◌, Bool, true, false, cond, ◌⊎◌, List, length, get_or, set, replicate, sym, ap, ◌∙◌, subst, inl, inr, ⊎_elim, refl, below_more, arith, length-set, get_or-set_other, get_or-set_same}
use lib.ListN.{length-replicate}
use Rattle.std.proofs.lemmas.Bool.{cases_eq, true≢false}
use Rattle.std.proofs.lemmas.List.Sums.{sum_by-set}
use Rattle.graph.specs.declared.parts.Edge.{Edge}
use Rattle.graph.specs.Edges.{FreeEdge, Leads, last, more, OnRing}
use Rattle.graph.specs.Reached.{Marked, MarksReached, Closed, unmarked, Reached}

-- one edge more at a chain's end
pub leads_on : (es : List Edge) (u v w e : ℕ) → Leads es u v → FreeEdge es v w e → Leads es u w
leads_on es u v w e (last _ _ d f) g = more u v w d f (last v w e g)
leads_on es u v w e (more _ x _ d f l) g = more u x w d f (leads_on es x v w e l g)

unmarked_set : (m : List Bool) (i : ℕ) → i < length m → get_or m i false ≡ false → unmarked (set m i true) + 1 ≡ unmarked m
unmarked_set m i h e = let z : cond (get_or m i false) zero (suc zero) ≡ 1 = ap (λ x. cond x zero (suc zero)) e in omega (arith, sum_by-set (λ b. cond b zero (suc zero)) m i true false h)

marked_stays : (m : List Bool) (i u : ℕ) → i < length m → Marked m u → Marked (set m i true) u
marked_stays m i u h e = elim (cases_eq u i) [ inl a ↦ rw (a, get_or-set_same m i true false h) refl | inr a ↦ get_or-set_other m i u true false a ∙ e ]

marked_new : (m : List Bool) (i u : ℕ) → Marked (set m i true) u → (u ≡ i) ⊎ Marked m u
marked_new m i u e = elim (cases_eq u i) [ inl a ↦ inl a | inr a ↦ inr (sym (get_or-set_other m i u true false a) ∙ e) ]

-- A round of marking after its first k edges.
pub record Growing (es : List Edge) (before : List Bool) (k : ℕ) (grew : Bool) (now : List Bool) : Type 0 where
  pub stays : (u : ℕ) → Marked before u → Marked now u
  pub right : (v : ℕ) → MarksReached es v before → MarksReached es v now
  pub wide : length now ≡ 16
  pub fewer : unmarked now ≤ unmarked before
  pub grows : grew ≡ true → unmarked now < unmarked before
  pub done : grew ≡ false → Closed es k now

module _ (es : List Edge) (before : List Bool) (k : ℕ) (grew : Bool) (now : List Bool) (g : Growing es before k grew now) where
  pub grow_mark : (u w : ℕ) → FreeEdge es u w k → w < 16 → Marked now u → get_or now w false ≡ false → Growing es before (k + 1) true (set now w true)
  grow_mark u w f h m n =
      let in_range : w < length now = omega (arith, g.wide) in
      let less = unmarked_set now w in_range n in
      record {
        stays = λ x e. marked_stays now w x in_range (g.stays x e);
        right = λ v r x e. ⊎_elim
            (λ at. subst (λ (y : ℕ). (y ≡ v) ⊎ Leads es v y) (sym at) (inr (⊎_elim (λ s. subst (λ (y : ℕ). Leads es y w) s (last u w k f)) (λ l. leads_on es v u w k l f) (g.right v r u m))))
            (λ old. g.right v r x old)
            (marked_new now w x e);
        wide = length-set now w true ∙ g.wide;
        fewer = omega (arith, g.fewer);
        grows = λ _. omega (arith, g.fewer);
        done = λ e. absurd (true≢false e);
      }

  pub grow_pass : ((u w : ℕ) → FreeEdge es u w k → Marked now u → Marked now w) → Growing es before (k + 1) grew now
  grow_pass still = record {
    stays = g.stays;
    right = g.right;
    wide = g.wide;
    fewer = g.fewer;
    grows = g.grows;
    done = λ e d u w l f m. below_more (λ (x : ℕ). FreeEdge es u w x → Marked now w) k (λ x low h. g.done e x u w low h m) (λ h. still u w h m) d l f;
  }

marked_none : (n u : ℕ) → Marked (replicate n false) u → ⊥
marked_none zero u e = true≢false (sym e)
marked_none (suc n) zero e = true≢false (sym e)
marked_none (suc n) (suc u) e = marked_none n u e

-- One task is marked alone.
pub marks_one : (es : List Edge) (v n : ℕ) → v < n → Marked (set (replicate n false) v true) v × MarksReached es v (set (replicate n false) v true)
marks_one es v n h = (get_or-set_same (replicate n false) v true false (omega (arith, length-replicate n false)), λ u e. ⊎_elim inl (λ old. absurd (marked_none n u old)) (marked_new (replicate n false) v u e))

-- A closed marking has all that chains lead to.
pub leads_marked : (es : List Edge) (m : List Bool) → Closed es (length es) m → (u w : ℕ) → Leads es u w → Marked m u → (a e : ℕ) × Marked m a × FreeEdge es a w e
leads_marked es m c u w (last _ _ e f) h = (u, e, h, f)
leads_marked es m c u w (more _ x _ e f l) h = leads_marked es m c x w l (c e u x f.there f h)

-- A task lies on a ring where a token-free edge comes back to it from one that it leads to.
pub ring_by : (es : List Edge) (v a e : ℕ) (m : List Bool) → Reached es v m → Marked m a → FreeEdge es a v e → OnRing es v
ring_by es v a e m r h f = ⊎_elim (λ s. subst (λ (y : ℕ). Leads es y v) s (last a v e f)) (λ l. leads_on es v a v e l f) (r.right a h)

pub ring_back : (es : List Edge) (v : ℕ) (m : List Bool) → Reached es v m → OnRing es v → (a e : ℕ) × Marked m a × FreeEdge es a v e
ring_back es v m r l = leads_marked es m r.closed v v l r.start
