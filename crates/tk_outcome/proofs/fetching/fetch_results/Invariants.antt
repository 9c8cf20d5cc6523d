use Rattle.std.proofs.Common.{◌≡◌, take}
use Rattle.tk_steps.specs.Moves.{Moves, count_actions}
use Rattle.tk_steps.specs.Ready.{ReadyIsSo}
use Rattle.tk_outcome.specs.Walked.{AreFetched}
use Rattle.tk_outcome.proofs.fetching.fetch_results.Given as goal

abbrev pub invariant-loop-place : goal.invariant-loop-place
invariant-loop-place g l = record {
  fetched : AreFetched l.root l.pod.name (g.H.Host.told l.host) (g.H.Host.files l.host) (take l.place l.specs) l.found.items;
  moves : Moves l.root l.pod l.pod (g.H.Host.told l.initial.host) (g.H.Host.told l.host);
  stays : ReadyIsSo l.root l.pod (g.H.Host.told l.initial.host) → ReadyIsSo l.root l.pod (g.H.Host.told l.host);
  quiet : count_actions (g.H.Host.told l.host) ≡ count_actions (g.H.Host.told l.initial.host);
  files : g.H.Host.files l.host ≡ g.H.Host.files l.initial.host;
  killed : g.H.Host.killed l.host ≡ g.H.Host.killed l.initial.host;
  watches : g.H.Host.watches l.host ≡ g.H.Host.watches l.initial.host;
  plays : g.H.Host.plays l.host ≡ g.H.Host.plays l.initial.host;
  count : g.H.Host.faults l.host ≡ g.H.Host.faults l.initial.host;
}
