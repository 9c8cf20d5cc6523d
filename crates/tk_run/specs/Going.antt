-- A bench between rounds.
use Rattle.std.specs.Prelude.{◌≡◌, ◌<◌, ◌^◌, ◌⊎◌, ℕ, Bool, List, length, Option}
use Rattle.tk_edge.specs.declared.event.Event.{Event}
use Rattle.tk_edge.specs.declared.gate.GateTurn.{GateTurn}
use Rattle.tk_journal.specs.declared.entry.Entry.{Entry}
use Rattle.tk_rounds.specs.declared.bench.Bench.{Bench}
use Rattle.tk_rounds.specs.Bench.{AllFollow, AllReady, ControllerFollows, IsReadyController, IsReadyNode, NodeFollows, controller_number, node_number}
use Rattle.tk_rounds.specs.Growth.{GrowsBy, OfOne}
use Rattle.tk_rounds.specs.Members.{of_controller, of_kubelet}
use Rattle.tk_run.specs.Asks.{ClockTold, IsOfUser, UserFollows, clock_told}

-- an entry of one of so many controllers, of one of so many nodes, or of the user
abbrev pub OfMembers : ℕ → ℕ → Entry → Type 0
OfMembers controllers nodes e = OfOne of_controller controllers e ⊎ OfOne of_kubelet nodes e ⊎ IsOfUser e

module _ {K H G : Type 0} where
  -- every member is ready for a round
  pub record IsReady (told : H → List Event) (killed : H → ℕ → Bool) (history : List Entry) (bench : Bench K H G) : Type 0 where
    pub few : (length bench.controllers.items < 2 ^ 32) × (length bench.kubelets.items < 2 ^ 32)
    pub controllers : AllReady controller_number IsReadyController history bench.controllers.items
    pub nodes : AllReady node_number (IsReadyNode told killed) history bench.kubelets.items

  -- what rounds leave: the same members, whose entries alone are new, and what stood of each since a start stands still
  pub record GoesOn (answers : G → Option (List GateTurn)) (readings : K → Option (List ℕ)) (last : K → ℕ) (told : H → List Event) (faults : H → ℕ) (old new : Bench K H G) (history after : List Entry) : Type 0 where
    pub counts : (length new.controllers.items ≡ length old.controllers.items) × (length new.kubelets.items ≡ length old.kubelets.items)
    pub grows : GrowsBy (OfMembers (length old.controllers.items) (length old.kubelets.items)) history after
    pub controllers : AllFollow (ControllerFollows answers readings last) old.controllers.items new.controllers.items history after
    pub nodes : AllFollow (NodeFollows answers readings last told faults) old.kubelets.items new.kubelets.items history after
    pub user : (since : ClockTold) → UserFollows since (clock_told readings last old.user) history → UserFollows since (clock_told readings last new.user) after
