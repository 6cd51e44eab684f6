-- Ticks that were not granted, and what a job has come to.
use Rattle.std.proofs.Common.{◌≡◌, ℕ, zero, suc, ◌+◌, ◌<◌, ◌≤◌, Bool, true, false, cond, List, [], ◌∷◌, ◌++◌, length, get_or, take, set, sym, refl, ap, ◌∙◌, ⊎_elim, arith, length-append}
use Rattle.std.specs.List.{All}
use Rattle.std.proofs.Math.ListN.{replicate}
use Rattle.std.proofs.lemmas.Grind.{common_steps, replicate_next}
use Rattle.std.proofs.lemmas.List.Elements.{All-append, All-replicate}
use Rattle.std.proofs.lemmas.List.{get_or_append_left, get_or_push, take_more_set}
use Rattle.servers.specs.Figures.{ceiling}
use Rattle.servers.specs.Service.{Model}
use Rattle.servers.specs.Runs.{Tick, Run}
use Rattle.std.proofs.lemmas.Bool.{cases_lt}
use Rattle.servers.proofs.RunLaws.{run_append}
use Rattle.serving.specs.Served.{grant_times, latest, tick, Waited}

-- So many ticks that were not granted, and one that was.
abbrev waiting : Bool → ℕ → List Tick
waiting c k = replicate k (tick c false) ++ (tick c true ∷ [])

waiting_length : (c : Bool) (k : ℕ) → length (waiting c k) ≡ k + 1
waiting_length c k = grind (arith, common_steps)

waiting_claimed : (c : Bool) (k : ℕ) → All (λ t. t.claimed ≡ c) (waiting c k)
waiting_claimed c k = All-append (λ (t : Tick). t.claimed ≡ c) _ _ (All-replicate (λ (t : Tick). t.claimed ≡ c) k (tick c false) refl) (All-replicate (λ (t : Tick). t.claimed ≡ c) 1 (tick c true) refl)

latest_push : (t now : ℕ) (ts : List ℕ) → latest t (ts ++ (now ∷ [])) ≡ now
latest_push t now [] = refl
latest_push t now (x ∷ ts) = latest_push x now ts

times_step : (g : Bool) (now : ℕ) (xs ys zs : List ℕ) → zs ≡ xs ++ ys → cond g (now ∷ zs) zs ≡ cond g (now ∷ xs) xs ++ ys
times_step true now xs ys zs e = ap (λ l. now ∷ l) e
times_step false now xs ys zs e = e

-- the grants of a run, and then those of another
times_append : (clock : ℕ) (ts us : List Tick) → grant_times clock (ts ++ us) ≡ grant_times clock ts ++ grant_times (clock + length ts) us
times_append clock [] us = ap (λ n. grant_times n us) (let e : clock ≡ clock + 0 = omega arith in e)
times_append clock (t ∷ ts) us =
    times_step t.granted (clock + 1) _ _ _
    (times_append (clock + 1) ts us ∙ ap (λ n. grant_times (clock + 1) ts ++ grant_times n us) (let e : clock + 1 + length ts ≡ clock + length (t ∷ ts) = omega arith in e))

times_misses : (clock : ℕ) (c : Bool) (k : ℕ) → grant_times clock (waiting c k) ≡ (clock + (k + 1)) ∷ []
times_misses clock c zero = refl
times_misses clock c (suc k) = times_misses (clock + 1) c k ∙ ap (λ n. n ∷ []) (let e : clock + 1 + (k + 1) ≡ clock + (suc k + 1) = omega arith in e)

module _ {S : Type 0} (m : Model S) where
  -- After so many ticks that were not granted.
  pub record Missed (a : S) (c : Bool) (missed : ℕ) (b : S) : Type 0 where
    pub went : Run m.steps a (replicate missed (tick c false)) b
    pub sooner : (n : ℕ) → 0 < n → missed + (m.service b).wait n ≤ (m.service a).wait n

  pub missed_more : (a b d : S) (c g : Bool) (k : ℕ) → Missed a c k b → m.steps b c g d → g ≡ false → Missed a c (k + 1) d
  missed_more a b d c g k w s e =
      let s' : m.steps b c false d = rw e at s in
      record {
        went = rw (replicate_next k (tick c false)) (run_append m.steps a b d (replicate k (tick c false)) (tick c false ∷ []) w.went (d, s', refl));
        sooner = λ n h. omega (arith, w.sooner n h, (m.moves b d c false s').sooner n h);
      }

  pub missed_ends : (a b d : S) (c g : Bool) (k : ℕ) → Missed a c k b → m.steps b c g d → g ≡ true → Waited m.service m.steps a c k d
  missed_ends a b d c g k w s e =
      let s' : m.steps b c true d = rw e at s in
      record {
        went = run_append m.steps a b d (replicate k (tick c false)) (tick c true ∷ []) w.went (d, s', refl);
        sooner = λ n. omega (arith, w.sooner (n + 1) (omega arith), (m.moves b d c true s').sooner n);
      }

  -- What a job has come to after its first grants, at these times.
  pub record Part (a : S) (c : Bool) (clock : ℕ) (times : List ℕ) (b : S) : Type 0 where
    pub ticks : List Tick
    pub went : Run m.steps a ticks b
    pub all : All (λ t. t.claimed ≡ c) ticks
    pub when : grant_times 0 ticks ≡ times
    pub ends : length ticks ≡ clock
    pub last : clock ≡ latest 0 times
    pub soon : (i : ℕ) → i < length times → get_or times i 0 ≤ (m.service a).wait (i + 1)
    pub sooner : (n : ℕ) → clock + (m.service b).wait n ≤ (m.service a).wait (length times + n)

  pub part_more : (a b d : S) (c : Bool) (clock k : ℕ) (times : List ℕ) → Part a c clock times b → Waited m.service m.steps b c k d → Part a c (clock + (k + 1)) (times ++ ((clock + (k + 1)) ∷ [])) d
  part_more a b d c clock k times p w =
      let us : List Tick = waiting c k in
      let now = clock + (k + 1) in
      let size = length-append times (now ∷ []) in
      record {
        ticks = p.ticks ++ us;
        went = run_append m.steps a b d p.ticks us p.went w.went;
        all = All-append (λ (t : Tick). t.claimed ≡ c) p.ticks us p.all (waiting_claimed c k);
        when = times_append 0 p.ticks us ∙ times_joined p.when (ap (λ n. grant_times n us) (let e : 0 + length p.ticks ≡ clock = omega (arith, p.ends) in e) ∙ times_misses clock c k);
        ends = omega (arith, length-append p.ticks us, waiting_length c k, p.ends);
        last = sym (latest_push 0 now times);
        soon = λ i h. ⊎_elim
            (λ below. omega (arith, get_or_append_left times (now ∷ []) 0 i below, p.soon i below))
            (λ over.
            let e : length times ≡ i = omega arith in
            let n = ap (λ x. (m.service a).wait (x + 1)) e in
            omega (arith, get_or_push times now 0 i e, w.sooner 0, p.sooner 1))
            (cases_lt i (length times));
        sooner = λ n.
            let e = ap (m.service a).wait (let e : length (times ++ (now ∷ [])) + n ≡ length times + (n + 1) = omega arith in e) in
            omega (arith, w.sooner n, p.sooner (n + 1));
      }
    where
      times_joined : {xs ys us vs : List ℕ} → xs ≡ ys → us ≡ vs → xs ++ us ≡ ys ++ vs
      times_joined e f = cc

  -- One more grant of the job is near.
  pub part_near : (a b : S) (c : Bool) (clock n : ℕ) (times : List ℕ) → Part a c clock times b → length times < n → (m.service a).worst n ≤ ceiling → clock + (m.service b).wait 1 ≤ ceiling
  part_near a b c clock n times p h w =
      omega (arith, p.sooner 1, (m.keeps a).wait_rises (length times + 1) n (omega arith), (m.keeps a).wait_most n)

  -- The slot of that grant.
  pub part_slot : (a b d : S) (c : Bool) (clock i k : ℕ) (slots : List ℕ) → i < length slots → Part a c clock (take i slots) b → Waited m.service m.steps b c k d → Part a c (clock + (k + 1)) (take (i + 1) (set slots i (clock + (k + 1)))) d
  part_slot a b d c clock i k slots h p w = rw (take_more_set slots i (clock + (k + 1)) h) (part_more a b d c clock k (take i slots) p w)
