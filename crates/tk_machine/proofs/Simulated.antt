-- Events and then fair rounds are what `simulate` answers.
use Rattle.std.proofs.Common.{ℕ, zero, suc, List, [], ◌∷◌, ◌++◌, refl, subst}
use Rattle.std.specs.Prelude.{replicate}
use Rattle.tk_machine.specs.Hosts.{Script}
use Rattle.tk_types.specs.declared.scenario.Event.{Event}
use Rattle.tk_types.specs.declared.scenario.Event.TheVariants as events
use Rattle.tk_machine.specs.State.{World, start}
use Rattle.tk_machine.specs.Machine.{Run}
use Rattle.tk_machine.specs.Fair.{OpenRounds, RoundsSimulate}

module _ (script : Script) where
  run_append : (w : World) (xs ys : List Event) (mid after : World) → Run script w xs mid → Run script mid ys after → Run script w (xs ++ ys) after
  run_append w [] ys mid after first second = subst (λ (m : World). Run script m ys after) first second
  run_append w (x ∷ xs) ys mid after first second = (first.0, first.1, run_append first.0 xs ys mid after first.2 second)

  rounds_run : (w : World) (rounds : ℕ) (after : World) → OpenRounds script w rounds after → Run script w (replicate rounds events.Round) after
  rounds_run w zero after done = done
  rounds_run w (suc rounds) after done = (done.1.0, done.1.1, rounds_run done.1.0 rounds after done.1.2)

  pub rounds_simulate : RoundsSimulate script
  rounds_simulate controllers kubelets admitted given w rounds after run done = record {
    rounds = rounds;
    world = after;
    run = run_append (start controllers kubelets admitted) given (replicate rounds events.Round) w after run (rounds_run w rounds after done);
    end = refl;
  }
