-- What each event does, and runs of events.
use Rattle.std.specs.Prelude.{◌≡◌, ◌⊎◌, ◌<◌, ◌≤◌, ℕ, suc, min, List, [], ◌∷◌, ◌++◌, length, Option, Some, None, slice_get, slice_set, replicate, nat_lt, if◌then◌else◌}
use Rattle.tk_types.specs.declared.object.Asked.{Asked}
use Rattle.tk_types.specs.declared.scenario.Event.{Event}
use Rattle.tk_types.specs.declared.scenario.Event.TheVariants as events
use Rattle.tk_types.specs.declared.scenario.Viewer.{Viewer}
use Rattle.tk_types.specs.declared.scenario.Viewer.TheVariants as viewers
use Rattle.tk_types.specs.declared.scenario.Taker.{Taker}
use Rattle.tk_types.specs.declared.scenario.Taker.TheVariants as takers
use Rattle.tk_edge.specs.declared.event.Event.{Event as HostEvent}
use Rattle.tk_edge.specs.History.{GoesOn}
use Rattle.tk_edge.specs.InOrder.{IsKept}
use Rattle.tk_journal.specs.declared.entry.Actor.{Actor}
use Rattle.tk_journal.specs.declared.entry.Actor.TheVariants as actors
use Rattle.tk_journal.specs.declared.entry.Fronts.{Fronts}
use Rattle.tk_journal.specs.declared.entry.Entry.{Entry}
use Rattle.tk_journal.specs.declared.act.Act.{Act}
use Rattle.tk_journal.specs.declared.act.Act.TheVariants as acts
use Rattle.tk_journal.specs.declared.object.PodState.{PodState}
use Rattle.tk_journal.specs.declared.object.Claim.{Claim}
use Rattle.tk_journal.specs.Lists.{Has}
use Rattle.tk_journal.specs.Fronts.{AreWithin}
use Rattle.tk_journal.specs.Effects.{kind_of, name_of, is_create}
use Rattle.tk_journal.specs.History.{past, view_at, pod_of}
use Rattle.tk_journal.specs.AskRows.{AskIsJustified}
use Rattle.tk_journal.specs.Legal.{IsWritable, IsStep, IsLegal}
use Rattle.tk_journal.specs.Right.{IsRight}
use Rattle.tk_journal.specs.Choice.{IsChoice, HasNoChoice}
use Rattle.tk_journal.specs.Progress.{at_end}
use Rattle.tk_cache.specs.Fronts.{delivered, listed}
use Rattle.tk_choice.specs.Took.{entry_of}
use Rattle.tk_held.specs.Conditions.{pods_of}
use Rattle.tk_held.specs.Laws.{AreAdmits}
use Rattle.tk_machine.specs.State.{KubeletState, World, no_fronts, start, round_events}
use Rattle.tk_machine.specs.Hosts.{Script, IsScripted, IsHeldBy, MayTry, IsFirst, HasNone, deeds_of, layout}
use Rattle.tk_machine.specs.Kills.{AreKilledRight}

abbrev pub with_history : World → List Entry → World
with_history w history = record w { history = history }

abbrev pub with_kubelet : World → ℕ → KubeletState → World
with_kubelet w i k = record w { kubelets = slice_set w.kubelets i k }

-- what caches do

abbrev pub move_kubelet : (Fronts → Fronts) → KubeletState → KubeletState
move_kubelet move k = record k { fronts = move k.fronts }

abbrev pub moved_at : {X : Type 0} → List X → ℕ → (X → X) → Option X → List X
moved_at xs i move None = xs
moved_at xs i move (Some x) = slice_set xs i (move x)

abbrev pub move_fronts : World → Viewer → (Fronts → Fronts) → World
move_fronts w (viewers.Controller i) move = record w { controllers = moved_at w.controllers i move (slice_get w.controllers i) }
move_fronts w (viewers.Kubelet i) move = record w { kubelets = moved_at w.kubelets i (move_kubelet move) (slice_get w.kubelets i) }

-- the kubelet comes back with nothing, in its next life, over the same host; at the last one nothing changes
abbrev pub restarted_kubelet : KubeletState → KubeletState
restarted_kubelet k = if nat_lt k.life 4294967295 then record k { fronts = no_fronts; life = suc k.life } else k

abbrev pub restarted : World → Viewer → World
restarted w (viewers.Controller i) = move_fronts w (viewers.Controller i) (λ fronts. no_fronts)
restarted w (viewers.Kubelet i) = record w { kubelets = moved_at w.kubelets i restarted_kubelet (slice_get w.kubelets i) }

-- what turns do

-- the act finds its name free, or its object as it was seen
abbrev pub GoesThrough : List Entry → Fronts → Act → Type 0
GoesThrough history fronts act = IsWritable (is_create act) (kind_of act) (name_of act) fronts history

-- the act goes through, and its entry is added; or it is refused, and nothing changes
abbrev pub Answers : List Entry → Actor → Fronts → ℕ → Act → List Entry → Type 0
Answers history actor fronts moment act after =
    (GoesThrough history fronts act × (after ≡ entry_of actor fronts moment act ∷ history))
    ⊎ ((GoesThrough history fronts act → ⊥) × (after ≡ history))

-- A worker tries its choice. Without one it is idle.
abbrev pub WorkerTurn : List Entry → Actor → Fronts → ℕ → List Entry → Type 0
WorkerTurn history actor fronts moment after =
    (HasNoChoice (view_at fronts history) actor moment × (after ≡ history))
    ⊎ ((act : Act) × IsChoice (view_at fronts history) actor moment act × Answers history actor fronts moment act after)

-- the ask is justified at the history's end
abbrev pub MayAsk : List Entry → List ℕ → Asked → Type 0
MayAsk history name status = AskIsJustified (view_at (at_end history) history) name status

-- it is added there, or refused
abbrev pub AskTurn : List Entry → ℕ → List ℕ → Asked → List Entry → Type 0
AskTurn history moment name status after =
    (MayAsk history name status × (after ≡ entry_of actors.User (at_end history) moment (acts.Ask name status) ∷ history))
    ⊎ ((MayAsk history name status → ⊥) × (after ≡ history))

-- a controller's worker takes its turn
pub record ControllerTurns (actor : Actor) (i : ℕ) (w after : World) : Type 0 where
  pub fronts : Fronts
  pub at : slice_get w.controllers i ≡ Some fronts
  pub history : List Entry
  pub turn : WorkerTurn w.history actor fronts w.clock history
  pub leaves : after ≡ with_history w history

module _ (script : Script) where
  -- a held pod may be ended, or a step started or ended
  abbrev pub HeldMoves : ℕ → ℕ → Fronts → ℕ → List Entry → List HostEvent → List HostEvent → Type 0
  HeldMoves number life fronts moment history old new =
      ((act : Act) × MayTry script number life history (view_at fronts history) moment new act) ⊎ (length (deeds_of old) < length (deeds_of new))

  -- it tries the first of what it may, or has none
  abbrev pub KubeletTries : ℕ → KubeletState → ℕ → List Entry → List Entry → List HostEvent → Type 0
  KubeletTries number k moment history after told =
      (HasNone script number k.life history (view_at k.fronts history) moment told × (after ≡ history))
      ⊎ ((act : Act) × IsFirst script number k.life history (view_at k.fronts history) moment told act
      × Answers history (actors.Kubelet number k.life) k.fronts moment act after)

  -- What a kubelet's turn leaves: the host goes on in order and by the script, its kills stay right, and, where they are
  -- and the kubelet sees all, each held pod moves.
  pub record KubeletTurn (number : ℕ) (k : KubeletState) (moment : ℕ) (history after : List Entry) (now : KubeletState) : Type 0 where
    pub fronts : now.fronts ≡ k.fronts
    pub life : now.life ≡ k.life
    pub goes_on : GoesOn k.told now.told
    pub scripted : IsScripted script k.told → IsScripted script now.told
    pub kept : IsKept layout k.killed (pods_of number history) k.told → IsKept layout now.killed (pods_of number after) now.told
    pub spared : AreKilledRight number k.life k.killed k.told history moment
        → AreKilledRight number k.life now.killed now.told after moment
    pub moves : k.fronts ≡ at_end history → AreKilledRight number k.life k.killed k.told history moment
        → (name : List ℕ) (pod : PodState) → pod_of history name ≡ Some pod → IsHeldBy number k.life pod
        → HeldMoves number k.life k.fronts moment history k.told now.told
    pub tries : KubeletTries number k moment history after now.told

  pub record KubeletTurns (i : ℕ) (w after : World) : Type 0 where
    pub k : KubeletState
    pub at : slice_get w.kubelets i ≡ Some k
    pub history : List Entry
    pub now : KubeletState
    pub turn : KubeletTurn i k w.clock w.history history now
    pub leaves : after ≡ with_kubelet (with_history w history) i now

  abbrev pub Turns : Taker → World → World → Type 0
  Turns (takers.Runs i) w after = ControllerTurns (actors.Runs i) i w after
  Turns (takers.Tasks i) w after = ControllerTurns (actors.Tasks i) i w after
  Turns (takers.Kubelet i) w after = KubeletTurns i w after

  -- one event but a round
  abbrev pub Step : World → Event → World → Type 0
  Step w (events.Deliver viewer kind n) after = after ≡ move_fronts w viewer (λ fronts. delivered kind n fronts w.history)
  Step w (events.DeliverAll viewer) after = after ≡ move_fronts w viewer (λ fronts. at_end w.history)
  Step w (events.Relist viewer kind position) after = after ≡ move_fronts w viewer (listed kind (min position (length w.history)))
  Step w (events.Turn taker) after = Turns taker w after
  Step w (events.Restart viewer) after = after ≡ restarted w viewer
  Step w (events.Ask name status) after = (history : List Entry) × AskTurn w.history w.clock name status history × (after ≡ with_history w history)
  Step w (events.Clock reading) after = (w.clock ≤ reading) × (after ≡ record w { clock = reading })
  Step w events.Round after = ⊥

  -- events one after the other
  abbrev pub Steps : World → List Event → World → Type 0
  Steps w [] after = after ≡ w
  Steps w (event ∷ later) after = (between : World) × Step w event between × Steps between later after

  -- a round is its turns
  abbrev pub opened : World → Event → List Event
  opened w events.Round = round_events (length w.controllers) (length w.kubelets)
  opened w event = event ∷ []

  -- a run over a list of events
  abbrev pub Run : World → List Event → World → Type 0
  Run w [] after = after ≡ w
  Run w (event ∷ later) after = (between : World) × Steps w (opened w event) between × Run between later after

  -- what `simulate` answers: all events of the scenario, and then fair rounds
  pub record IsSimulated (controllers kubelets : ℕ) (admitted : List Entry) (given : List Event) (journal : List Entry) : Type 0 where
    pub rounds : ℕ
    pub world : World
    pub run : Run (start controllers kubelets admitted) (given ++ replicate rounds events.Round) world
    pub end : world.history ≡ journal

-- the laws

-- each claim is a kubelet's, in this life of it or an earlier one
abbrev pub AreClaimsOf : List KubeletState → List Entry → Type 0
AreClaimsOf kubelets history =
    (name : List ℕ) (pod : PodState) (claim : Claim) → pod_of history name ≡ Some pod → pod.claim ≡ Some claim
    → Has (slice_get kubelets claim.number) (λ (k : KubeletState). claim.life ≤ k.life)

-- between events: each host's history is in order, its exits are the script's, and its kills are right
pub record IsSound (script : Script) (w : World) : Type 0 where
  pub legal : IsLegal w.history
  pub controllers : (i : ℕ) (fronts : Fronts) → slice_get w.controllers i ≡ Some fronts → AreWithin fronts w.history
  pub kubelets : (i : ℕ) (k : KubeletState) → slice_get w.kubelets i ≡ Some k → AreWithin k.fronts w.history
  pub kept : (i : ℕ) (k : KubeletState) → slice_get w.kubelets i ≡ Some k → IsKept layout k.killed (pods_of i w.history) k.told
  pub scripted : (i : ℕ) (k : KubeletState) → slice_get w.kubelets i ≡ Some k → IsScripted script k.told
  pub spared : (i : ℕ) (k : KubeletState) → slice_get w.kubelets i ≡ Some k → AreKilledRight i k.life k.killed k.told w.history w.clock
  pub claims : AreClaimsOf w.kubelets w.history

-- one step of a legal history, or nothing
abbrev pub AddsAStep : List Entry → List Entry → Type 0
AddsAStep history after = (after ≡ history) ⊎ ((e : Entry) × (after ≡ e ∷ history) × IsStep history e)

abbrev pub TurnIsStep : Type 0
TurnIsStep =
    (history : List Entry) (actor : Actor) (fronts : Fronts) (moment : ℕ) (after : List Entry) → AreWithin fronts history
    → WorkerTurn history actor fronts moment after → AddsAStep history after

abbrev pub RunsAreLegal : Script → Type 0
RunsAreLegal script = (w after : World) (given : List Event) → IsSound script w → Run script w given after → IsSound script after

abbrev pub RunsAreRight : Script → Type 0
RunsAreRight script =
    (w after : World) (given : List Event) → IsSound script w → Run script w given after → (n : ℕ) → IsRight (past n after.history)

-- at the start only admission has written
abbrev pub StartIsSound : Script → Type 0
StartIsSound script =
    (controllers kubelets : ℕ) (admitted : List Entry) → IsLegal admitted → AreAdmits admitted → IsSound script (start controllers kubelets admitted)
