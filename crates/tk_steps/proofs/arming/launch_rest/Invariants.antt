use Rattle.std.proofs.Common.{◌≡◌, true, length}
use Rattle.tk_steps.specs.Held.{IsPlanOf}
use Rattle.tk_steps.specs.Ready.{ReadyIsSo}
use Rattle.tk_steps.specs.Moves.{Moves, count_actions}
use Rattle.tk_steps.proofs.arming.launch_rest.Given as goal

abbrev pub invariant-loop : goal.invariant-loop
invariant-loop g l = record {
  moves : Moves l.root l.initial.pod l.pod (g.H.Host.told l.initial.host) (g.H.Host.told l.host);
  planned : IsPlanOf l.pod.name l.pod.plan;
  ready : l.pod.ready ≡ true;
  steps : length l.pod.steps.items ≡ l.counter;
  orders : length l.pod.plan.orders ≡ l.end;
  whole : length l.initial.pod.plan.orders ≡ l.end;
  failed : l.pod.failed ≡ l.initial.pod.failed;
  quiet : count_actions (g.H.Host.told l.host) ≡ count_actions (g.H.Host.told l.initial.host);
  killed : g.H.Host.killed l.host ≡ g.H.Host.killed l.initial.host;
  watches : g.H.Host.watches l.host ≡ g.H.Host.watches l.initial.host;
  plays : g.H.Host.plays l.host ≡ g.H.Host.plays l.initial.host;
  count : g.H.Host.faults l.host ≡ g.H.Host.faults l.initial.host;
  stays : ReadyIsSo l.root l.initial.pod (g.H.Host.told l.initial.host) → ReadyIsSo l.root l.pod (g.H.Host.told l.host);
}
