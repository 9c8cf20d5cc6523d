use Rattle.std.proofs.Common.{◌≡◌}
use Rattle.std.specs.Prelude.{ℕ, ◌<◌, ◌⊎◌, List, [], Some, slice_get}
use Rattle.tk_steps.specs.Paths.{script_path}
use Rattle.tk_steps.specs.Ready.{last_put}
use Rattle.tk_steps.specs.Scripts.{KeepsPuts}
use Rattle.tk_steps.specs.Moves.{Moves, count_actions}
use Rattle.tk_steps.proofs.scripts.put_scripts.Given as goal

abbrev pub invariant-loop-place : goal.invariant-loop-place
invariant-loop-place g l = record {
  moves : Moves l.root l.pod l.pod (g.H.Host.told l.initial.host) (g.H.Host.told l.host);
  quiet : count_actions (g.H.Host.told l.host) ≡ count_actions (g.H.Host.told l.initial.host);
  killed : g.H.Host.killed l.host ≡ g.H.Host.killed l.initial.host;
  watches : g.H.Host.watches l.host ≡ g.H.Host.watches l.initial.host;
  plays : g.H.Host.plays l.host ≡ g.H.Host.plays l.initial.host;
  count : g.H.Host.faults l.host ≡ g.H.Host.faults l.initial.host;
  scripts : (i : ℕ) (text : List ℕ) → i < l.place → slice_get l.pod.plan.scripts i ≡ Some text → (text ≡ []) ⊎ (last_put (script_path l.root l.pod.name i) (g.H.Host.told l.host) ≡ Some text);
  puts : KeepsPuts (g.H.Host.told l.initial.host) (g.H.Host.told l.host);
}
