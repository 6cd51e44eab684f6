-- A server that grants every tick keeps the laws.
use Rattle.std.specs.Prelude.{◌≡◌, Bool, true, refl}
use Rattle.std.proofs.Common.{arith}
use Rattle.servers.specs.Service.{Laws, Ticks}
use Rattle.servers.specs.OwnService.{own_service}
use Rattle.servers.specs.declared.own.Own.{Own}

pub own_laws : (s : Own) → Laws (own_service s)
own_laws s = record {
  wait_none = refl;
  wait_least = λ n. omega arith;
  wait_rises = λ m n h. h;
  wait_most = λ n. omega arith;
  worst_none = refl;
  worst_rises = λ m n h. h;
  worst_most = λ n. omega arith;
  pace_none = refl;
  pace_least = λ n. omega arith;
  pace_rises = λ m n h. h;
  pace_adds = λ m n. omega arith;
}

pub own_moves : (a b : Own) (c g : Bool) → g ≡ true → Ticks (own_service a) g (own_service b)
own_moves a b c g e = rw e (record { sooner = λ n. omega arith; same_worst = λ n. refl; same_lead = refl; same_pace = λ n. refl })
