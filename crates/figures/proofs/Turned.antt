-- A ring told from another of its hops: what came before that hop comes after the rest.
use Rattle.std.proofs.Common.{◌≡◌, ℕ, ◌+◌, ◌-◌, ◌*◌, ◌<◌, ◌≤◌, ◌≢◌, ◌⊎◌, inl, inr, refl, sym, ap, subst, ◌∙◌, List, [], ◌∷◌, ◌++◌, map, length, get_or, take, drop, arith}
use Rattle.std.proofs.lemmas.List.{append-nil, map-append, length-append, length-map, length-drop, take-append-drop, take-map, drop-map, get_or-drop, get_or_append_left, get_or-append_right, get_or-append-add}
use Rattle.std.proofs.lemmas.Bool.{cases_lt}
use Rattle.servers.specs.Service.{Service}
use Rattle.flow.specs.Nets.{Net}
use Rattle.flow.specs.Rings.{Hop, edge, link, out_of, into, weight, tokens_on, Chain, end, on, Ring}
use Rattle.rings.specs.Cycles.{Reaches}
use Rattle.figures.specs.Critical.{CriticalOf}

chain_split : (n : Net) {u v : ℕ} (x : Hop) (xs : List Hop) (y : Hop) (ys : List Hop) → Chain n u (x ∷ (xs ++ y ∷ ys)) v → (w : ℕ) × Chain n u (x ∷ xs) w × Chain n w (y ∷ ys) v
chain_split n x [] y ys (on h i c) = (into n h, end h i, c)
chain_split n x (z ∷ zs) y ys (on h i c) = let s = chain_split n z zs y ys c in (s.0, on h i s.1, s.2)

chain_join : (n : Net) {u w v : ℕ} {xs ys : List Hop} → Chain n u xs w → Chain n w ys v → Chain n u (xs ++ ys) v
chain_join n (end h i) d = on h i d
chain_join n (on h i c) d = on h i (chain_join n c d)

weight_append : (n : Net) (service : ℕ → Service) (xs ys : List Hop) → weight n service (xs ++ ys) ≡ weight n service xs + weight n service ys
weight_append n service [] ys = omega arith
weight_append n service (edge e ∷ xs) ys = omega (arith, weight_append n service xs ys)
weight_append n service (link v ∷ xs) ys = omega (arith, weight_append n service xs ys)

tokens_append : (n : Net) (xs ys : List Hop) → tokens_on n (xs ++ ys) ≡ tokens_on n xs + tokens_on n ys
tokens_append n [] ys = omega arith
tokens_append n (edge e ∷ xs) ys = omega (arith, tokens_append n xs ys)
tokens_append n (link v ∷ xs) ys = omega (arith, tokens_append n xs ys)

-- Where an element of the turned list was.
record Was (xs ys : List ℕ) (i : ℕ) : Type 0 where
  place : ℕ
  within : place < length (xs ++ ys)
  is : get_or (ys ++ xs) i 0 ≡ get_or (xs ++ ys) place 0

behind : (xs ys : List ℕ) (i : ℕ) → i < length ys → get_or (ys ++ xs) i 0 ≡ get_or (xs ++ ys) (length xs + i) 0
behind xs ys i h = get_or_append_left ys xs 0 i h ∙ sym (get_or-append-add xs ys i 0)

before : (xs ys : List ℕ) (i : ℕ) → length ys ≤ i → i < length (ys ++ xs) → get_or (ys ++ xs) i 0 ≡ get_or (xs ++ ys) (i - length ys) 0
before xs ys i l h =
    let m : i - length ys < length xs = omega (arith, length-append ys xs) in
    get_or-append_right ys xs (length ys) i 0 refl l ∙ sym (get_or_append_left xs ys 0 (i - length ys) m)

was : (xs ys : List ℕ) (i : ℕ) → i < length (ys ++ xs) → Was xs ys i
was xs ys i h = go (cases_lt i (length ys))
  where
    go : (i < length ys) ⊎ (length ys ≤ i) → Was xs ys i
    go (inl l) = record { place = length xs + i; within = omega (arith, length-append xs ys); is = behind xs ys i l }
    go (inr l) = record { place = i - length ys; within = omega (arith, length-append xs ys, length-append ys xs); is = before xs ys i l h }

abbrev Apart : List ℕ → Type 0
Apart xs = (i j : ℕ) → i < j → j < length xs → get_or xs i 0 ≢ get_or xs j 0

apart_turned : (xs ys : List ℕ) → Apart (xs ++ ys) → Apart (ys ++ xs)
apart_turned xs ys a i j l h q = go (cases_lt i (length ys)) (cases_lt j (length ys))
  where
    len : length (xs ++ ys) ≡ length xs + length ys
    len = length-append xs ys

    all : length (ys ++ xs) ≡ length ys + length xs
    all = length-append ys xs

    go : (i < length ys) ⊎ (length ys ≤ i) → (j < length ys) ⊎ (length ys ≤ j) → ⊥
    go (inl m) (inl k) = a (length xs + i) (length xs + j) (omega arith) (omega (arith, len)) (sym (behind xs ys i m) ∙ q ∙ behind xs ys j k)
    go (inl m) (inr k) = a (j - length ys) (length xs + i) (omega (arith, all)) (omega (arith, len)) (sym (before xs ys j k h) ∙ sym q ∙ behind xs ys i m)
    go (inr m) (inl k) = absurd (omega arith)
    go (inr m) (inr k) = a (i - length ys) (j - length ys) (omega arith) (omega (arith, len, all)) (sym (before xs ys i m (omega arith)) ∙ q ∙ before xs ys j k h)

abbrev Once : Net → List Hop → Type 0
Once n hops = (i j : ℕ) → i < j → j < length hops → get_or (map (into n) hops) i 0 ≢ get_or (map (into n) hops) j 0

once_turned : (n : Net) (xs ys : List Hop) → Once n (xs ++ ys) → Once n (ys ++ xs)
once_turned n xs ys once i j l h =
    let f = into n in
    let a : Apart (map f xs ++ map f ys) = subst Apart (map-append f xs ys) (λ i j l h. once i j l (omega (arith, length-map (xs ++ ys) f))) in
    subst Apart (sym (map-append f ys xs)) (apart_turned (map f xs) (map f ys) a) i j l (omega (arith, length-map (ys ++ xs) f))

ring_turned : (n : Net) (xs ys : List Hop) → Ring n (xs ++ ys) → Ring n (ys ++ xs)
ring_turned n [] ys r = subst (Ring n) (sym (append-nil ys)) r
ring_turned n (x ∷ xs) [] r = subst (Ring n) (append-nil (x ∷ xs)) r
ring_turned n (x ∷ xs) (y ∷ ys) r =
    let s = chain_split n x xs y ys r.closed in
    record { at = s.0; closed = chain_join n s.2 s.1; once = once_turned n (x ∷ xs) (y ∷ ys) r.once }

reaches_turned : (n : Net) (service : ℕ → Service) (c p : ℕ) (xs ys : List Hop) → Reaches n service c p (xs ++ ys) → Reaches n service c p (ys ++ xs)
reaches_turned n service c p xs ys r = record {
  ring = ring_turned n xs ys r.ring;
  meets = ap (λ (x : ℕ). p * x) (heavy xs ys) ∙ r.meets ∙ ap (λ (x : ℕ). c * x) (holds xs ys);
}
  where
    heavy : (xs ys : List Hop) → weight n service (ys ++ xs) ≡ weight n service (xs ++ ys)
    heavy xs ys = omega (arith, weight_append n service xs ys, weight_append n service ys xs)

    holds : (xs ys : List Hop) → tokens_on n (xs ++ ys) ≡ tokens_on n (ys ++ xs)
    holds xs ys = omega (arith, tokens_append n xs ys, tokens_append n ys xs)

least_turned : (xs : List ℕ) (k : ℕ) → k < length xs → ((j : ℕ) → j < length xs → get_or xs k 0 ≤ get_or xs j 0) → (j : ℕ) → j < length (drop k xs ++ take k xs) →
    get_or (drop k xs ++ take k xs) 0 0 ≤ get_or (drop k xs ++ take k xs) j 0
least_turned xs k h least j l =
    let w = was (take k xs) (drop k xs) j l in
    let head : get_or (drop k xs ++ take k xs) 0 0 ≡ get_or xs k 0 =
    get_or_append_left (drop k xs) (take k xs) 0 0 (omega (arith, length-drop k xs)) ∙ get_or-drop k xs 0 0 ∙ ap (λ i. get_or xs i 0) (let e : k + 0 ≡ k = omega arith in e) in
    let within : w.place < length xs = subst (λ (ys : List ℕ). w.place < length ys) (take-append-drop k xs) w.within in
    let is : get_or (drop k xs ++ take k xs) j 0 ≡ get_or xs w.place 0 = w.is ∙ ap (λ ys. get_or ys w.place 0) (take-append-drop k xs) in
    omega (arith, least w.place within)

-- The tasks of a ring that reaches the ratio, told from the least of them on.
pub critical_of : (n : Net) (service : ℕ → Service) (c p : ℕ) (hops : List Hop) (outs : List ℕ) (k : ℕ) (tasks : List ℕ) → Reaches n service c p hops → outs ≡ map (out_of n) hops →
    k < length outs → ((j : ℕ) → j < length outs → get_or outs k 0 ≤ get_or outs j 0) → tasks ≡ drop k outs ++ take k outs → CriticalOf n service c p tasks
critical_of n service c p hops outs k tasks r of_hops h least is = record {
  hops = drop k hops ++ take k hops;
  reaches = reaches_turned n service c p (take k hops) (drop k hops) (subst (Reaches n service c p) (sym (take-append-drop k hops)) r);
  out = is ∙ ap (λ xs. drop k xs ++ take k xs) of_hops ∙ sym turned;
  first = λ j l. subst (λ (xs : List ℕ). get_or xs 0 0 ≤ get_or xs j 0) (sym is) (least_turned outs k h least j (omega (arith, ap length is)));
}
  where
    f : Hop → ℕ
    f = out_of n

    turned : map f (drop k hops ++ take k hops) ≡ drop k (map f hops) ++ take k (map f hops)
    turned = map-append f (drop k hops) (take k hops) ∙ ap (λ xs. xs ++ map f (take k hops)) (sym (drop-map f k hops)) ∙ ap (λ ys. drop k (map f hops) ++ ys) (sym (take-map f k hops))
