-- What a tick makes of the runs that led to a runner.
use Rattle.std.proofs.Common.{◌≡◌, ℕ, ◌-◌, ◌<◌, ◌≤◌, Bool, false, leb, List, ◌∷◌, ◌++◌, length, vec_len, Option, Some, None, Ok, Err, sym, refl, ap, ◌∙◌, subst, arith, le-ltb, lt-ltb, le-leb}
use borrow.Author.Tests.{eq-eqb, ne_eqb}
use Rattle.std.proofs.lemmas.Bool.Decides.{nat_tests}
use Rattle.std.proofs.lemmas.List.{length-map}
use Rattle.faults.specs.Faults.{fault}
use Rattle.faults.specs.Numbers.{number_of, reason_by}
use Rattle.faults.specs.declared.fault.Fault.{Fault}
use Rattle.faults.specs.declared.layer.Layer.TheVariants as layer
use Rattle.servers.specs.Service.{Service}
use Rattle.belt.specs.Turned.{Ring}
use Rattle.belt.specs.Belts.{contents, room}
use Rattle.flow.specs.Nets.{Net, net_of}
use Rattle.runs.specs.States.{put_out, ticked}
use Rattle.runs.specs.Runs.{Said, done, tick, refused, Whole, why, Run, refuses, ticks}
use Rattle.runs.proofs.Forget.{Shows, run_stays}
use Rattle.runner.specs.Boards.{shown, Alike}
use Rattle.runner.specs.Records.{told, lying}
use Rattle.runner.specs.Runners.{Led, GoesOn, TickDone}
use Rattle.runner.specs.declared.record.Record.{Record}
use Rattle.runner.specs.declared.runner.Runner.{Runner}
use Rattle.runner.proofs.Alikes.{one_net, alike_ticked, same_put}
use Rattle.runner.proofs.Calls.{alike_by}

-- the reason against a tick
module _ (n : Net) (slots : ℕ) (x : Whole) (claims : List Bool) where
  pub misfit : (length claims ≡ n.tasks → ⊥) → why n slots x (tick claims) ≡ Some 13
  misfit h = rw (ne_eqb (length claims) n.tasks h) refl

  module _ (fit : length claims ≡ n.tasks) where
    pub spent : 1000000000 ≤ x.state.clock → why n slots x (tick claims) ≡ Some 16
    spent h = rw (eq-eqb (length claims) n.tasks fit, le-ltb x.state.clock 1000000000 h) refl

    module _ (time : x.state.clock < 1000000000) where
      pub no_room : slots - length x.belt < n.tasks → why n slots x (tick claims) ≡ Some 17
      no_room h = rw (eq-eqb (length claims) n.tasks fit, lt-ltb x.state.clock 1000000000 time, lt_leb n.tasks (slots - length x.belt) h) refl
        where
          lt_leb : (a b : ℕ) → b < a → leb a b ≡ false
          lt_leb a b k = grind (arith, nat_tests)

      pub goes : n.tasks ≤ slots - length x.belt → why n slots x (tick claims) ≡ None
      goes h = rw (eq-eqb (length claims) n.tasks fit, lt-ltb x.state.clock 1000000000 time, le-leb n.tasks (slots - length x.belt) h) refl

module _ {R : Type 0} (places : R → ℕ) (steps : R → ℕ → Bool → Bool → R → Type 0) (a : Runner R) (before : Ring Record) (claims : List Bool) where
  -- A refused tick stays in the runs, and leads nowhere else.
  pub refused_goes_on :
      (k : ℕ) (e : Fault) → number_of (reason_by k) ≡ k → e ≡ fault k layer.Runner 0 0 →
      ((x : Whole) → x.state.clock ≡ a.board.clock → length x.belt ≡ length (contents before) → why (net_of a.graph) (room before) x (tick claims) ≡ Some k) →
      GoesOn places steps a before (tick claims) (Err e) a before
  refused_goes_on k e number is reason first said x led lies = record {
    whole = x;
    led = record {
      fits = led.fits;
      run = subst (λ (m : ℕ). Run steps (net_of a.graph) first (room before) (refused (tick claims) m ∷ said) a.rack x) (sym (ap (λ (f : Fault). number_of f.reason) is ∙ number))
          (refuses led.run (tick claims) (reason x (sym led.stands.clock) (ap length lies ∙ length-map (contents before) told)));
      stands = led.stands;
    };
    its_belt = lies;
  }

  module _ (service : R → ℕ → Service) (shows : Shows places service steps) (b : Runner R) (after : Ring Record) (d : TickDone places steps a before claims b after) where
    -- A run to runner a goes on by the tick.
    pub tick_leads :
        (first : R) (slots : ℕ) (said : List Said) (x : Whole) → Led places steps first slots said a x → why (net_of a.graph) slots x (tick claims) ≡ None →
        Led places steps first slots (done (tick claims) ∷ said) b (record { state = ticked (net_of a.graph) d.grants x.state; belt = x.belt ++ put_out (net_of a.graph) x.state d.grants (vec_len a.graph.tasks) })
    tick_leads first slots said x led reason =
        let n = net_of a.graph in
        let enough : vec_len a.graph.tasks ≤ places a.rack = omega (arith, led.fits, run_stays places service steps shows n first slots led.fits led.run) in
        let run = ticks led.run claims d.grants reason (d.sweep enough) in
        record {
          fits = rw d.its_graph led.fits;
          run = rw d.its_graph run;
          stands = rw d.its_graph (alike_by n (shown b.board) (ticked n d.grants (shown a.board)) (ticked n d.grants x.state) d.stands
              (alike_ticked n n (one_net n) (shown a.board) x.state led.stands d.grants (λ e h. a.graph.ends.to e (omega (arith, h, a.graph.edges.ok.0))) (λ e h. a.graph.ends.from e (omega (arith, h, a.graph.edges.ok.0)))));
        }

    -- The records that the model puts are those that lie on the belt behind those before.
    pub tick_puts :
        (x : Whole) → Alike (net_of a.graph) (shown a.board) x.state →
        lying (contents before) ++ put_out (net_of a.graph) x.state d.grants (vec_len a.graph.tasks) ≡ lying (contents after)
    tick_puts x stands =
        let n = net_of a.graph in
        ap (λ ws. lying (contents before) ++ ws) (sym (same_put n n (one_net n) (shown a.board) x.state stands d.grants n.tasks (omega arith))) ∙ sym d.records

    pub tick_goes_on :
        ((x : Whole) → x.state.clock ≡ a.board.clock → length x.belt ≡ length (contents before) → why (net_of a.graph) (room before) x (tick claims) ≡ None) →
        GoesOn places steps a before (tick claims) (Ok tt) b after
    tick_goes_on reason first said x led lies = record {
      whole = record { state = ticked (net_of a.graph) d.grants x.state; belt = x.belt ++ put_out (net_of a.graph) x.state d.grants (vec_len a.graph.tasks) };
      led = tick_leads first (room before) said x led (reason x (sym led.stands.clock) (ap length lies ∙ length-map (contents before) told));
      its_belt = ap (λ ws. ws ++ put_out (net_of a.graph) x.state d.grants (vec_len a.graph.tasks)) lies ∙ tick_puts x led.stands;
    }
