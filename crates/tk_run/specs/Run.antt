-- What a run of an input comes to on a bench.
use Rattle.std.specs.Prelude.{◌≡◌, ◌≢◌, ◌<◌, ◌⊎◌, ℕ, All, Bool, List, [], length, Option, Some, None, Result, Ok, Err, reverse, slice_get}
use Rattle.tk_types.specs.First.{Finding}
use Rattle.tk_types.specs.declared.rejected.Rejected.{Rejected}
use Rattle.tk_types.specs.declared.rejected.Rejected.TheVariants.{Memory, Fault as FaultFound}
use Rattle.tk_edge.specs.declared.event.Event.{Event}
use Rattle.tk_edge.specs.declared.gate.GateTurn.{GateTurn}
use Rattle.tk_edge.specs.declared.order.Order.{Order}
use Rattle.tk_edge.specs.History.{arming_of, order_of}
use Rattle.tk_edge.specs.InOrder.{IsInOrder, IsSettled}
use Rattle.tk_edge.specs.declared.event.Arming.{Arming}
use Rattle.tk_manifest.specs.declared.kinds.KindSet.TheVariants.{Four}
use Rattle.tk_admit.specs.Admit.{admitted, input_fault}
use Rattle.tk_journal.specs.declared.admitted.Admitted.{Admitted}
use Rattle.tk_journal.specs.declared.entry.Entry.{Entry}
use Rattle.tk_journal.specs.History.{past}
use Rattle.tk_journal.specs.Legal.{IsLegal}
use Rattle.tk_journal.specs.Progress.{IsOpen}
use Rattle.tk_journal.specs.Right.{IsRight}
use Rattle.tk_store.specs.Writes.{Stored}
use Rattle.tk_held.specs.Conditions.{pods_of}
use Rattle.tk_simulate.specs.Runs.{AdmitsNoMore, AreOnClock}
use Rattle.tk_rounds.specs.declared.bench.Bench.{Bench}
use Rattle.tk_rounds.specs.declared.bench.Controller.{Controller}
use Rattle.tk_rounds.specs.declared.bench.Node.{Node}
use Rattle.tk_rounds.specs.Chosen.{AreChosen}
use Rattle.tk_rounds.specs.Follows.{FollowsSince, told_by}
use Rattle.tk_rounds.specs.Growth.{GrowsBy}
use Rattle.tk_rounds.specs.Members.{AreOfLife, of_controller, of_kubelet}
use Rattle.tk_rounds.specs.Outcomes.{AreForClaimed, HasOutcomes}
use Rattle.tk_run.specs.declared.asks.AskWord.{AskWord}
use Rattle.tk_run.specs.Asks.{AreAllTried, AreOfWords, IsNoneTried, UserFollows, asks_count, clock_told}
use Rattle.tk_run.specs.Going.{OfMembers}

-- what is admitted of an input for `run` with these asks, the entries with the newest first
abbrev pub given_by : List ℕ → List AskWord → List ℕ → Admitted
given_by root words bytes = admitted Four (asks_count words) root bytes

-- the first fault of the input
abbrev pub fault_by : List AskWord → List ℕ → Finding
fault_by words bytes = input_fault Four (asks_count words) bytes

abbrev pub entries_of : Admitted → List Entry
entries_of given = reverse given.entries

-- the steps that two hosts started are of different pods
abbrev pub StartsApart : List Event → List Event → Type 0
StartsApart one other = (c d : ℕ) (x y : Order) → order_of c one ≡ Some x → order_of d other ≡ Some y → x.pod ≢ y.pod

-- each child that was armed has an exit or was killed
abbrev pub AreAllSettled : (ℕ → Bool) → List Event → Type 0
AreAllSettled killed told = (child : ℕ) (arming : Arming) → arming_of child told ≡ Some arming → IsSettled killed child told

module _ {K H G : Type 0} where
  -- a kubelet's entries are all of the life that it has now
  abbrev pub AreAllOfLife : List Entry → List (Node K H G) → Type 0
  AreAllOfLife history nodes = (i : ℕ) (n : Node K H G) → slice_get nodes i ≡ Some n → AreOfLife n.kubelet.number n.kubelet.life history

  -- each child that the host of one of the first nodes armed has an exit or was killed
  abbrev pub AreSettledBelow : (H → List Event) → (H → ℕ → Bool) → ℕ → List (Node K H G) → Type 0
  AreSettledBelow told killed count nodes = (i : ℕ) (n : Node K H G) → i < count → slice_get nodes i ≡ Some n → AreAllSettled (killed n.host) (told n.host)

  -- so it is of each node's host
  abbrev pub AreNodesSettled : (H → List Event) → (H → ℕ → Bool) → Bench K H G → Type 0
  AreNodesSettled told killed bench = (i : ℕ) (n : Node K H G) → slice_get bench.kubelets.items i ≡ Some n → AreAllSettled (killed n.host) (told n.host)

-- what is admitted of an input stands in a store, beside the root for each of so many nodes, and no word was tried
pub record IsPrepared (root : List ℕ) (words : List AskWord) (bytes : List ℕ) (nodes : ℕ) (store : Stored) (roots : List (List ℕ)) (tried : List Bool) : Type 0 where
  pub entries : store.history ≡ entries_of (given_by root words bytes)
  pub legal : IsLegal (entries_of (given_by root words bytes))
  pub count : length roots ≡ nodes
  pub each : All (λ (r : List ℕ). r ≡ root) roots
  pub words_count : length tried ≡ length words
  pub untried : IsNoneTried tried

module _ {K H G : Type 0} (answers : G → Option (List GateTurn)) (readings : K → Option (List ℕ)) (last : K → ℕ) (told : H → List Event) (killed : H → ℕ → Bool) (faults : H → ℕ) where
  pub record IsRun (root : List ℕ) (words : List AskWord) (given : Admitted) (old new : Bench K H G) (history : List Entry) : Type 0 where
    -- each entry is justified by what its actor had seen, and went through
    pub legal : IsLegal history
    -- at most one TaskRun a combination, retries plus one attempts, one pod an attempt; a closed run has the condition,
    -- skipped tasks and results of its facts; so it is at each position
    pub right : (n : ℕ) → IsRight (past n history)
    -- it begins with what was admitted, and admits nothing more
    pub admits : AdmitsNoMore (entries_of given) history
    -- the members of the bench are handed back, all of them
    pub counts : (length new.controllers.items ≡ length old.controllers.items) × (length new.kubelets.items ≡ length old.kubelets.items)
    -- each other entry is of a member of the bench, of a kubelet in its first life, or of the user
    pub members : GrowsBy (OfMembers (length old.controllers.items) (length old.kubelets.items)) (entries_of given) history
    pub lives : (i : ℕ) (n : Node K H G) → slice_get new.kubelets.items i ≡ Some n → AreOfLife i 1 history
    -- the fronts of each entry are covered by what its member's gate let through before it, with as many Work answers from
    -- there on as entries; each Work answer took one reading, and each entry's moment is a reading of its own
    pub controllers : (i : ℕ) (a b : Controller K G) → slice_get old.controllers.items i ≡ Some a → slice_get new.controllers.items i ≡ Some b
        → FollowsSince (of_controller i) (told_by answers readings last a.gate a.clock) (told_by answers readings last b.gate b.clock) b.cache.fronts history
    -- each entry of a controller is a choice of its workers: the first that was justified by what they had seen
    pub chosen : (i : ℕ) (c : Controller K G) → slice_get new.controllers.items i ≡ Some c → AreChosen i history
    pub nodes : (i : ℕ) (a b : Node K H G) → slice_get old.kubelets.items i ≡ Some a → slice_get new.kubelets.items i ≡ Some b
        → FollowsSince (of_kubelet i) (told_by answers readings last a.gate a.clock) (told_by answers readings last b.gate b.clock) b.cache.fronts history
    -- each host started only steps of pods that its kubelet claimed, each once, in order, and each behind those before it
    -- that passed
    pub starts : (i : ℕ) (n : Node K H G) → slice_get new.kubelets.items i ≡ Some n → IsInOrder (killed n.host) (pods_of i history) (told n.host)
    -- no step was started by two hosts
    pub once : (i j : ℕ) (m n : Node K H G) → i ≢ j → slice_get new.kubelets.items i ≡ Some m → slice_get new.kubelets.items j ≡ Some n
        → StartsApart (told m.host) (told n.host)
    -- each pod ended with the exits of its steps that its kubelet's host found, and by them and by what was fetched for its
    -- results; those that failed without an exit for another reason are at most as many as that host failed
    pub outcomes : (i : ℕ) (a b : Node K H G) → slice_get old.kubelets.items i ≡ Some a → slice_get new.kubelets.items i ≡ Some b
        → HasOutcomes i 1 root b.kubelet.held (faults a.host) (faults b.host) (told b.host) history
    -- each host did only what may be done for a pod that its kubelet claimed: it put the plan's scripts and no results, armed
    -- each of the plan's steps once, and cleared the pod's folders before that alone
    pub deeds : (i : ℕ) (n : Node K H G) → slice_get new.kubelets.items i ≡ Some n → AreForClaimed i root history (told n.host)
    -- each Ask entry is of a word of its own, not before the user's clock had gone on by its duration, and has a reading of that
    -- clock of its own as its moment
    pub asks : AreOfWords (last old.user) words history
    pub user : UserFollows (clock_told readings last old.user) (clock_told readings last new.user) history
    -- nothing that was armed still runs: each child has an exit or was killed
    pub settled : AreNodesSettled told killed new
    -- each moment has a text
    pub timely : AreOnClock history

  -- An input with a fault comes to nothing. One without it is run until every run is closed or pending and each ask was tried; where memory lacked
  -- nothing was run, or it was run so far.
  abbrev pub RunsTo : List ℕ → List AskWord → List ℕ → Bench K H G → Bench K H G → List Entry → Result (Unit {0}) Rejected → Type 0
  RunsTo root words bytes old new history (Ok end) =
      (fault_by words bytes ≡ None) × IsRun root words (given_by root words bytes) old new history × (IsOpen history → ⊥) × AreAllTried (last old.user) words history
  RunsTo root words bytes old new history (Err (FaultFound fault)) = (fault_by words bytes ≡ Some fault) × (history ≡ []) × (new ≡ old)
  RunsTo root words bytes old new history (Err Memory) =
      ((history ≡ []) × (new ≡ old)) ⊎ ((fault_by words bytes ≡ None) × IsRun root words (given_by root words bytes) old new history)
