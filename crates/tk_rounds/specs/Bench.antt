-- All members of a bench: when they are ready for a round, and what stands of each between rounds.
use Rattle.std.specs.Prelude.{◌≡◌, ℕ, List, Option, Some, Bool, slice_get}
use Rattle.tk_edge.specs.declared.event.Event.{Event}
use Rattle.tk_edge.specs.declared.gate.GateTurn.{GateTurn}
use Rattle.tk_journal.specs.declared.entry.Entry.{Entry}
use Rattle.tk_cache.specs.Fronts.{Shows}
use Rattle.tk_cache.specs.Views.{seen}
use Rattle.tk_kubelet.specs.Holding.{IsMet, IsSameKubelet}
use Rattle.tk_rounds.specs.declared.bench.Controller.{Controller}
use Rattle.tk_rounds.specs.declared.bench.Node.{Node}
use Rattle.tk_rounds.specs.Chosen.{AreChosen}
use Rattle.tk_rounds.specs.Follows.{FollowsSince, told_by}
use Rattle.tk_rounds.specs.Members.{of_controller, of_kubelet, AreOfLife}
use Rattle.tk_rounds.specs.Outcomes.{AreForClaimed, HasOutcomes}

-- each member of a kind has its place as its number, and is ready
abbrev pub AllReady : {M : Type 0} → (M → ℕ) → (List Entry → M → Type 0) → List Entry → List M → Type 0
AllReady {M} number ready history members = (i : ℕ) (m : M) → slice_get members i ≡ Some m → (number m ≡ i) × ready history m

-- what stands of a member since a start stands after it
abbrev pub AllFollow : {M : Type 0} → (M → M → List Entry → Type 0) → List M → List M → List Entry → List Entry → Type 0
AllFollow {M} follows before now history after =
    (i : ℕ) (start a b : M) → slice_get before i ≡ Some a → slice_get now i ≡ Some b → follows start a history → follows start b after

module _ {K G : Type 0} where
  abbrev pub controller_number : Controller K G → ℕ
  controller_number c = c.number

  -- a controller's cache shows the journal
  abbrev pub IsReadyController : List Entry → Controller K G → Type 0
  IsReadyController history c = Shows (seen c.cache) history

  pub record ControllerFollows (answers : G → Option (List GateTurn)) (readings : K → Option (List ℕ)) (last : K → ℕ) (start c : Controller K G) (history : List Entry) : Type 0 where
    -- its entries are covered and timed by what its gate and clock gave since a start
    pub since : FollowsSince (of_controller c.number) (told_by answers readings last start.gate start.clock) (told_by answers readings last c.gate c.clock) c.cache.fronts history
    -- each is a choice of its workers
    pub chosen : AreChosen c.number history

module _ {K H G : Type 0} where
  abbrev pub node_number : Node K H G → ℕ
  node_number n = n.kubelet.number

  -- a node's cache shows the journal, and the conditions of its kubelet's turn hold
  pub record IsReadyNode (told : H → List Event) (killed : H → ℕ → Bool) (history : List Entry) (n : Node K H G) : Type 0 where
    pub shows : Shows (seen n.cache) history
    pub met : IsMet n.kubelet history (killed n.host) (told n.host)

  pub record NodeFollows (answers : G → Option (List GateTurn)) (readings : K → Option (List ℕ)) (last : K → ℕ) (told : H → List Event) (faults : H → ℕ) (start n : Node K H G) (history : List Entry) : Type 0 where
    -- its entries are covered and timed, and all of the life in which it began
    pub since : FollowsSince (of_kubelet n.kubelet.number) (told_by answers readings last start.gate start.clock) (told_by answers readings last n.gate n.clock) n.cache.fronts history
    pub same : IsSameKubelet start.kubelet n.kubelet
    pub life : AreOfLife n.kubelet.number n.kubelet.life history
    -- its pods ended by their exits and results, but for at most as many as its host failed
    pub outcomes : HasOutcomes n.kubelet.number n.kubelet.life n.kubelet.root n.kubelet.held (faults start.host) (faults n.host) (told n.host) history
    -- its host did only what may be done for pods that the kubelet claimed
    pub deeds : AreForClaimed n.kubelet.number n.kubelet.root history (told n.host)
