-- A server that grants every tick.
use Rattle.std.specs.Prelude.{◌≡◌, Bool, true}
use Rattle.servers.specs.Service.{Service}
use Rattle.servers.specs.declared.own.Own.{Own}

abbrev pub own_service : Own → Service
own_service _ = record { wait = λ n. n; worst = λ n. n; lead = 0; pace = λ n. n }

abbrev pub OwnSteps : Own → Bool → Bool → Own → Type 0
OwnSteps a claimed granted b = granted ≡ true
