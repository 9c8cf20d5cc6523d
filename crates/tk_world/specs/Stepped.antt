-- What the answer of a step tells.
use Rattle.std.specs.Prelude.{◌≡◌, ◌≢◌, ℕ, List, Some, slice_get, slice_set}
use Rattle.tk_types.specs.declared.object.Asked.{Asked}
use Rattle.tk_types.specs.declared.scenario.Event.{Event}
use Rattle.tk_types.specs.declared.scenario.Event.TheVariants as events
use Rattle.tk_types.specs.declared.scenario.Taker.TheVariants as takers
use Rattle.tk_types.specs.declared.scenario.Viewer.{Viewer}
use Rattle.tk_types.specs.declared.scenario.Viewer.TheVariants as viewers
use Rattle.tk_journal.specs.declared.entry.Actor.{Actor}
use Rattle.tk_journal.specs.declared.entry.Actor.TheVariants as actors
use Rattle.tk_store.specs.declared.turn.Turn.{Turn}
use Rattle.tk_store.specs.declared.turn.Turn.TheVariants as turns
use Rattle.tk_cache.specs.Views.{Kept, seen}
use Rattle.tk_choice.specs.Took.{TookFirst}
use Rattle.tk_user.specs.declared.answer.AskAnswer.{AskAnswer}
use Rattle.tk_user.specs.Ask.{Answered, ask_entry, refusal}
use Rattle.tk_kubelet.specs.declared.kubelet.KubeletTurn.{KubeletTurn}
use Rattle.tk_kubelet.specs.Seat.{seat_of}
use Rattle.tk_kubelet.specs.Turn.{TurnGives}
use Rattle.tk_world.specs.declared.node.Node.{Node}
use Rattle.tk_world.specs.declared.stepped.Stepped.{Stepped}
use Rattle.tk_world.specs.declared.stepped.Stepped.TheVariants as stepped
use Rattle.tk_world.specs.Nodes.{IsRestarted, hosts_between}
use Rattle.tk_world.specs.Whole.{Whole}

-- a worker's turn: the store's answer to the first act that its controller's cache justifies
pub record WorkerAnswers (actor : Actor) (i : ℕ) (old new : Whole) (turn : Turn) : Type 0 where
  pub cache : Kept
  pub at : slice_get old.controllers i ≡ Some cache
  pub took : TookFirst (seen cache) actor old.clock old.store turn new.store
  pub room : turn ≢ turns.Memory
  pub nodes : new.nodes ≡ old.nodes

-- a kubelet's turn, by what it held and saw before
pub record KubeletAnswers (i : ℕ) (old new : Whole) (turn : KubeletTurn) : Type 0 where
  pub node : Node
  pub at : slice_get old.nodes i ≡ Some node
  pub now : Node
  pub behind : new.nodes ≡ slice_set old.nodes i now
  pub gives : TurnGives (seat_of node.kubelet (seen node.cache) old.clock) node.kubelet.held now.kubelet.held
      (hosts_between node now) old.store new.store turn

-- an ask: the first refusal that holds at the journal's end, or its entry there
pub record AskAnswers (name : List ℕ) (status : Asked) (old new : Whole) (answer : AskAnswer) : Type 0 where
  pub answered : Answered (refusal old.store.history name status) (ask_entry old.store.history name status old.clock) old.store answer new.store
  pub nodes : new.nodes ≡ old.nodes

-- a node becomes another one, and all others stay
pub record NodeBecomes (How : Node → Node → Type 0) (i : ℕ) (old new : Whole) : Type 0 where
  pub node : Node
  pub at : slice_get old.nodes i ≡ Some node
  pub now : Node
  pub behind : new.nodes ≡ slice_set old.nodes i now
  pub how : How node now

-- a cache is moved beside the same kubelet and the same host
pub record HasMoved (old new : Node) : Type 0 where
  pub kubelet : new.kubelet ≡ old.kubelet
  pub life : new.life ≡ old.life
  pub host : new.host ≡ old.host

abbrev pub MovesNodes : Viewer → Whole → Whole → Type 0
MovesNodes (viewers.Controller i) old new = new.nodes ≡ old.nodes
MovesNodes (viewers.Kubelet i) old new = NodeBecomes HasMoved i old new

abbrev pub RestartsNodes : Viewer → Whole → Whole → Type 0
RestartsNodes (viewers.Controller i) old new = new.nodes ≡ old.nodes
RestartsNodes (viewers.Kubelet i) old new = NodeBecomes (IsRestarted i) i old new

-- what an event without an answer does to the nodes; a round is its turns
abbrev pub LeavesNodes : Event → Whole → Whole → Type 0
LeavesNodes (events.Deliver viewer kind n) old new = MovesNodes viewer old new
LeavesNodes (events.DeliverAll viewer) old new = MovesNodes viewer old new
LeavesNodes (events.Relist viewer kind position) old new = MovesNodes viewer old new
LeavesNodes (events.Restart viewer) old new = RestartsNodes viewer old new
LeavesNodes (events.Clock reading) old new = new.nodes ≡ old.nodes
LeavesNodes _ old new = Unit {0}

-- what a turn or an ask answered; all else has no answer
abbrev pub IsStepped : Event → Whole → Whole → Stepped → Type 0
IsStepped (events.Turn (takers.Runs i)) old new (stepped.Worker turn) = WorkerAnswers (actors.Runs i) i old new turn
IsStepped (events.Turn (takers.Tasks i)) old new (stepped.Worker turn) = WorkerAnswers (actors.Tasks i) i old new turn
IsStepped (events.Turn (takers.Kubelet i)) old new (stepped.Kubelet turn) = KubeletAnswers i old new turn
IsStepped (events.Turn taker) old new _ = ⊥
IsStepped (events.Ask name status) old new (stepped.Asked answer) = AskAnswers name status old new answer
IsStepped (events.Ask name status) old new _ = ⊥
IsStepped event old new answer = (answer ≡ stepped.Moved) × LeavesNodes event old new
