-- Every runner keeps the promise, whatever led to it.
use Rattle.std.proofs.Common.{◌≡◌, ℕ, ◌+◌, ◌*◌, ◌≤◌, Bool, ◌∙◌, subst, arith}
use Rattle.servers.specs.Service.{Service}
use Rattle.flow.specs.Nets.{net_of}
use Rattle.flow.proofs.FinishRule.{graphs_sound}
use Rattle.runs.specs.Runs.{clock_of}
use Rattle.runs.proofs.Forget.{Shows, heard, on_time, steady as run_steady}
use Rattle.runs.proofs.Pace.{paced}
use Rattle.runner.specs.Boards.{shown}
use Rattle.runner.specs.Promises.{Timely, InPace, Steady}
use Rattle.runner.specs.declared.runner.Runner.{Runner}

module _ {R : Type 0} (places : R → ℕ) (service : R → ℕ → Service) (steps : R → ℕ → Bool → Bool → R → Type 0) (shows : Shows places service steps) (r : Runner R) where
  pub timely : Timely places service steps r
  timely first slots said x led v i t h d le =
      let n = net_of r.graph in
      let clock : (shown r.board).clock ≡ clock_of said = led.stands.clock ∙ (heard led.run).0 in
      let o = on_time places service steps shows n (graphs_sound r.graph) first led.fits slots said r.rack x led.run v i t h d (omega (arith, clock, le)) in
      (omega (arith, o.0, led.stands.fired v h), o.1, o.2, o.3)

  pub in_pace : InPace places service steps r
  in_pace first slots said x led cycle parts start rate starts v i h came le =
      let n = net_of r.graph in
      let clock : (shown r.board).clock ≡ clock_of said = led.stands.clock ∙ (heard led.run).0 in
      let o = paced places service steps shows n (graphs_sound r.graph) first led.fits slots said r.rack x led.run cycle parts start rate starts v i h came (subst (λ (k : ℕ). start v + i * cycle ≤ parts * k) clock le) in
      (omega (arith, o.0, led.stands.fired v h), o.1, o.2, o.3)

  pub steady : Steady places service steps r
  steady first slots said x led v h = run_steady places service steps shows (net_of r.graph) first led.fits slots said r.rack x led.run v h
