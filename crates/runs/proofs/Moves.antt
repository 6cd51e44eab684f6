-- What a tick does at one task, as facts on numbers.
use Rattle.std.proofs.Common.{◌≡◌, ℕ, suc, ◌+◌, ◌-◌, ◌<◌, ◌≤◌, min, Bool, true, false, cond, eqb, leb, Decides, refl, arith, eqb-true}
use borrow.Author.Tests.{eqb-false}
use Rattle.std.proofs.lemmas.Bool.Decides.{nat_tests, Decides-below_and, Decides-and}
use Rattle.flow.specs.Nets.{Net}
use Rattle.runs.specs.States.{State, one, all_hold, supplied, starts, left, ends}

-- v's inlet, if any, and every edge into v hold a token
pub record Supplied (g : Net) (s : State) (v : ℕ) : Type 0 where
  pub inlet : g.inlet v ≡ true → 1 ≤ s.waiting v
  pub edges : (e : ℕ) → e < g.edges → g.to e ≡ v → 1 ≤ s.held e

if_so : (b : Bool) (n : ℕ) → Decides (cond b (leb 1 n) true) (b ≡ true → 1 ≤ n)
if_so true n = (λ h _. grind (arith, nat_tests), λ h. let k : 1 ≤ n = h refl in grind (arith, nat_tests))
if_so false n = (λ h q. grind (arith, nat_tests), λ h. refl)

if_at : (a b n : ℕ) → Decides (cond (eqb a b) (leb 1 n) true) (a ≡ b → 1 ≤ n)
if_at a b n = (λ h q. grind (arith, nat_tests), λ h. grind (arith, nat_tests))

all_decides : (g : Net) (s : State) (v n : ℕ) → Decides (all_hold g s v n) ((e : ℕ) → e < n → g.to e ≡ v → 1 ≤ s.held e)
unfolding all_hold
all_decides g s v n =
    Decides-below_and (λ e. cond (eqb (g.to e) v) (leb 1 (s.held e)) true) (λ e. g.to e ≡ v → 1 ≤ s.held e) (all_hold g s v) (λ e. if_at (g.to e) v (s.held e)) refl (λ _. refl) n

pub supplied_decides : (g : Net) (s : State) (v : ℕ) → Decides (supplied g s v) (Supplied g s v)
unfolding supplied
supplied_decides g s v =
    let d = Decides-and (cond (g.inlet v) (leb 1 (s.waiting v)) true) (all_hold g s v g.edges) (if_so (g.inlet v) (s.waiting v)) (all_decides g s v g.edges) in
    (λ h. record { inlet = (d.0 h).0; edges = (d.0 h).1 }, λ h. d.1 (h.inlet, h.edges))

-- a task's tick: granted or not, supplied or not; to go and need before; to go after, firings started and ended by it
pub data Move (grant sup : Bool) (togo need left st en : ℕ) : Type 0 where
  rests : grant ≡ false → left ≡ togo → st ≡ 0 → en ≡ 0 → Move grant sup togo need left st en
  goes : grant ≡ true → 1 ≤ togo → suc left ≡ togo → st ≡ 0 → en ≡ 1 - left → Move grant sup togo need left st en
  begins : grant ≡ true → togo ≡ 0 → sup ≡ true → suc left ≡ need → st ≡ 1 → en ≡ 1 - left → Move grant sup togo need left st en
  lacks : grant ≡ true → togo ≡ 0 → sup ≡ false → left ≡ 0 → st ≡ 0 → en ≡ 0 → Move grant sup togo need left st en

is_one : (n : ℕ) → 1 ≤ n → one (eqb n 1) ≡ 1 - (n - 1)
is_one n h = grind (arith, nat_tests)

moves : (grant idle sup : Bool) (togo need : ℕ) → 1 ≤ need → eqb togo 0 ≡ idle →
    Move grant sup togo need (cond grant (cond idle (cond sup (need - 1) 0) (togo - 1)) togo) (one (cond grant (cond idle sup false) false)) (one (cond grant (cond idle (cond sup (eqb need 1) false) (eqb togo 1)) false))
moves false idle sup togo need h q = rests refl refl refl refl
moves true true true togo need h q = begins refl (eqb-true togo 0 q) refl (omega arith) refl (is_one need h)
moves true true false togo need h q = lacks refl (eqb-true togo 0 q) refl refl refl refl
moves true false sup togo need h q =
    let n : togo ≡ 0 → ⊥ = eqb-false togo 0 q in
    let p : 1 ≤ togo = omega arith in
    goes refl p (omega arith) refl (is_one togo p)

pub move : (g : Net) (s : State) (grants : ℕ → Bool) (v : ℕ) → 1 ≤ s.need v →
    Move (grants v) (supplied g s v) (s.to_go v) (s.need v) (left g s grants v) (one (starts g s grants v)) (one (ends g s grants v))
move g s grants v h = moves (grants v) (eqb (s.to_go v) 0) (supplied g s v) (s.to_go v) (s.need v) h refl

-- the firings begun: those ended, and the one under way
pub begun : (grant sup : Bool) (togo need left st en f : ℕ) → Move grant sup togo need left st en → f + en + min 1 left ≡ f + min 1 togo + st
begun grant sup togo need left st en f (rests a b c d) = omega arith
begun grant sup togo need left st en f (goes a b c d e) = omega arith
begun grant sup togo need left st en f (begins a b c d e h) = omega arith
begun grant sup togo need left st en f (lacks a b c d e h) = omega arith
