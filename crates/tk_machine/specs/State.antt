-- The state of the machine, and the events of a fair round.
use Rattle.std.specs.Prelude.{ℕ, zero, suc, List, [], ◌∷◌, ◌++◌, replicate, Bool, false}
use Rattle.tk_types.specs.declared.scenario.Event.{Event}
use Rattle.tk_types.specs.declared.scenario.Event.TheVariants as events
use Rattle.tk_types.specs.declared.scenario.Viewer.TheVariants as viewers
use Rattle.tk_types.specs.declared.scenario.Taker.TheVariants as takers
use Rattle.tk_edge.specs.declared.event.Event.{Event as HostEvent}
use Rattle.tk_journal.specs.declared.entry.Fronts.{Fronts}
use Rattle.tk_journal.specs.declared.entry.Entry.{Entry}

abbrev pub no_fronts : Fronts
no_fronts = record { runs = 0; task_runs = 0; pods = 0 }

-- a kubelet beside its host, by what the host did, the newest first, and the children that were killed
pub record KubeletState : Type 0 where
  pub fronts : Fronts
  pub life : ℕ
  pub told : List HostEvent
  pub killed : ℕ → Bool

-- A cache is its fronts, since what it holds is the history's at them.
pub record World : Type 0 where
  pub history : List Entry
  pub clock : ℕ
  pub controllers : List Fronts
  pub kubelets : List KubeletState

abbrev pub new_kubelet : KubeletState
new_kubelet = record { fronts = no_fronts; life = 1; told = []; killed = λ child. false }

abbrev pub start : ℕ → ℕ → List Entry → World
start controllers kubelets admitted =
    record { history = admitted; clock = 0; controllers = replicate controllers no_fronts; kubelets = replicate kubelets new_kubelet }

-- the turns of one controller, and of one kubelet, that see all
abbrev pub controller_events : ℕ → List Event
controller_events i =
    events.DeliverAll (viewers.Controller i) ∷ events.Turn (takers.Runs i)
    ∷ events.DeliverAll (viewers.Controller i) ∷ events.Turn (takers.Tasks i) ∷ []

abbrev pub kubelet_events : ℕ → List Event
kubelet_events i = events.DeliverAll (viewers.Kubelet i) ∷ events.Turn (takers.Kubelet i) ∷ []

-- for each number from `first` on, so many
abbrev pub for_each : (ℕ → List Event) → ℕ → ℕ → List Event
for_each turns first zero = []
for_each turns first (suc count) = turns first ++ for_each turns (suc first) count

-- each controller in order, then each kubelet
abbrev pub round_events : ℕ → ℕ → List Event
round_events controllers kubelets = for_each controller_events 0 controllers ++ for_each kubelet_events 0 kubelets
