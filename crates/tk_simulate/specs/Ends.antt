-- How the pods of a history ended, by a script.
use Rattle.std.specs.Prelude.{◌≡◌, ℕ, suc, List, [], ◌∷◌}
use Rattle.tk_types.specs.declared.run.Outcome.{Outcome}
use Rattle.tk_types.specs.declared.run.Outcome.TheVariants as outcomes
use Rattle.tk_types.specs.declared.scenario.Event.{Event}
use Rattle.tk_journal.specs.declared.act.Act.{Act}
use Rattle.tk_journal.specs.declared.act.Act.TheVariants as acts
use Rattle.tk_journal.specs.declared.entry.Entry.{Entry}
use Rattle.tk_journal.specs.declared.object.PodState.{PodState}
use Rattle.tk_journal.specs.History.{View, view_at}
use Rattle.tk_journal.specs.Lists.{Has}
use Rattle.tk_machine.specs.Hosts.{Script, WalksSo}
use Rattle.tk_machine.specs.Machine.{IsSound, Run}
use Rattle.tk_machine.specs.State.{World}

-- each of the exits is the script's of its step, from this step on
abbrev pub AreExitsOf : Script → List ℕ → ℕ → List ℕ → Type 0
AreExitsOf script pod step [] = Unit {0}
AreExitsOf script pod step (exit ∷ exits) = (exit ≡ script.exit pod step) × AreExitsOf script pod (suc step) exits

-- A pod that isn't lost ends with such exits; one that is neither cancelled nor timed out also by its walk with them, and with
-- what its files come to, so as Failed without an exit only where these are refused.
abbrev pub EndsByScript : Script → View → List ℕ → List ℕ → Outcome → Type 0
EndsByScript script view name exits outcomes.Lost = Unit {0}
EndsByScript script view name exits outcomes.Cancelled = AreExitsOf script name 0 exits
EndsByScript script view name exits outcomes.TimedOut = AreExitsOf script name 0 exits
EndsByScript script view name exits outcome =
    AreExitsOf script name 0 exits × Has (view.pod name) (λ (pod : PodState). WalksSo script name pod exits outcome)

abbrev pub ActsByScript : Script → View → Act → Type 0
ActsByScript script view (acts.EndPod name exits outcome) = EndsByScript script view name exits outcome
ActsByScript script view _ = Unit {0}

-- so does each pod of a history, as its kubelet saw it
abbrev pub AreEndsScripted : Script → List Entry → Type 0
AreEndsScripted script [] = Unit {0}
AreEndsScripted script (e ∷ older) = ActsByScript script (view_at e.fronts older) e.act × AreEndsScripted script older

-- the law
abbrev pub RunsEndByScript : Script → Type 0
RunsEndByScript script =
    (w after : World) (given : List Event) → IsSound script w → AreEndsScripted script w.history → Run script w given after
    → AreEndsScripted script after.history
