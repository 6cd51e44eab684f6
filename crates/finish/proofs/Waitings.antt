-- The worst waits, one after another.
use Rattle.std.proofs.Common.{◌≡◌, ℕ, ◌+◌, ◌*◌, ◌<◌, ◌≤◌, List, length, set, arith}
use Rattle.std.proofs.lemmas.Bool.Decides.{nat_tests}
use Rattle.flow.specs.Nets.{Net}
use Rattle.flow.specs.Finish.{Cost}
use Rattle.finish.proofs.Steps.{cell}
use Rattle.finish.proofs.Tells.{entry_more, kept_set}
use Rattle.finish.specs.Filling.{capped, WaitsTold, more, Kept, Waiting, done_in}

module _ (g : Net) (cost : Cost) (n : ℕ) where
  waiting_less : (done done' : ℕ → ℕ) (xs : List ℕ) → ((u : ℕ) → u < g.tasks → done' u ≤ done u) → Waiting g cost n done xs → Waiting g cost n done' xs
  waiting_less done done' xs less h = record {
    room = λ u um. omega (arith, less u um, h.room u um);
    at = λ u j um jm. h.at u j um (omega (arith, less u um));
    kept = h.kept;
  }

  pub waiting_none : (xs : List ℕ) → Kept xs → Waiting g cost n (done_in n 0 0) xs
  waiting_none xs l = record { room = λ u um. grind (arith, nat_tests); at = λ u j um jm. absurd (grind (arith, nat_tests)); kept = l }

  pub waiting_row : (v : ℕ) (xs : List ℕ) → Waiting g cost n (done_in n v n) xs → Waiting g cost n (done_in n (v + 1) 0) xs
  waiting_row v xs h = waiting_less (done_in n v n) (done_in n (v + 1) 0) xs (λ u um. grind (arith, nat_tests)) h

  pub waiting_more : (v j x : ℕ) (xs : List ℕ) → v < g.tasks → j < n → g.tasks * n ≤ length xs → x ≡ capped (cost v (j + 1)) → Waiting g cost n (done_in n v j) xs → Waiting g cost n (done_in n v (j + 1)) (set xs (v * n + j) x)
  waiting_more v j x xs vm jn wide q h =
      let inside : v * n + j < length xs = omega (arith, cell n g.tasks v j vm jn) in
      waiting_less (more (done_in n v j) v) (done_in n v (j + 1)) (set xs (v * n + j) x) (λ u um. grind (arith, nat_tests)) (record {
        room = λ u um. let r : done_in n v j u ≤ n = h.room u um in grind (arith, nat_tests);
        at = entry_more g.tasks n v j (done_in n v j) (λ u k y. y ≡ capped (cost u (k + 1))) h.room vm jn (grind (arith, nat_tests)) xs x inside h.at q;
        kept = kept_set xs (v * n + j) x h.kept inside (omega arith);
      })

  pub waits_told : (m : ℕ) (xs : List ℕ) → m ≡ g.tasks → Waiting g cost n (done_in n m 0) xs → WaitsTold g cost n xs
  waits_told m xs q h = record { at = λ u j um jn. h.at u j um (let l : u < m = omega arith in grind (arith, nat_tests)) }
