-- Members of a bench as actors: when they are ready, and what stands of them.
use Rattle.std.specs.Prelude.{◌≡◌, ℕ, List, Option, Bool}
use Rattle.tk_edge.specs.declared.event.Event.{Event}
use Rattle.tk_edge.specs.declared.gate.GateTurn.{GateTurn}
use Rattle.tk_edge.specs.Gates.{AddsAnswer}
use Rattle.tk_turn.specs.Claims.{Note}
use Rattle.tk_store.specs.Notes.{controller_owner, kubelet_owner}
use Rattle.tk_rounds.specs.declared.bench.Controller.{Controller}
use Rattle.tk_rounds.specs.declared.bench.Node.{Node}
use Rattle.tk_rounds.specs.Bench.{ControllerFollows, IsReadyController, IsReadyNode, NodeFollows}
use Rattle.tk_threads.specs.declared.leader.Leader.{Leader}
use Rattle.tk_threads.specs.declared.worker.Worker.{Worker}
use Rattle.tk_threads.specs.Timely.{Over}

module _ {K G : Type 0} where
  -- it owns its entries, and its cache shows the journal
  abbrev pub LeaderReady : List Note → Leader K G → Type 0
  LeaderReady notes l = (l.owner ≡ controller_owner l.controller.number) × Over (λ history. IsReadyController history l.controller) notes

  abbrev pub LeaderFollows : (G → Option (List GateTurn)) → (K → Option (List ℕ)) → (K → ℕ) → Leader K G → Leader K G → List Note → Type 0
  LeaderFollows answers readings last start l notes = Over (ControllerFollows answers readings last start.controller l.controller) notes

  -- the same of what stood before its gate was asked
  pub record LeaderAsked (answers : G → Option (List GateTurn)) (readings : K → Option (List ℕ)) (last : K → ℕ) (start l : Leader K G) (notes : List Note) : Type 0 where
    pub before : Controller K G
    pub rest : l.controller ≡ record before { gate = l.controller.gate }
    pub gave : AddsAnswer l.given (answers before.gate) (answers l.controller.gate)
    pub stood : Over (ControllerFollows answers readings last start.controller before) notes

module _ {K H G : Type 0} where
  abbrev pub WorkerReady : (H → List Event) → (H → ℕ → Bool) → List Note → Worker K H G → Type 0
  WorkerReady told killed notes w = (w.owner ≡ kubelet_owner w.node.kubelet.number) × Over (λ history. IsReadyNode told killed history w.node) notes

  abbrev pub WorkerFollows : (G → Option (List GateTurn)) → (K → Option (List ℕ)) → (K → ℕ) → (H → List Event) → (H → ℕ) → Worker K H G → Worker K H G → List Note → Type 0
  WorkerFollows answers readings last told faults start w notes = Over (NodeFollows answers readings last told faults start.node w.node) notes

  pub record WorkerAsked (answers : G → Option (List GateTurn)) (readings : K → Option (List ℕ)) (last : K → ℕ) (told : H → List Event) (faults : H → ℕ) (start w : Worker K H G) (notes : List Note) : Type 0 where
    pub before : Node K H G
    pub rest : w.node ≡ record before { gate = w.node.gate }
    pub gave : AddsAnswer w.given (answers before.gate) (answers w.node.gate)
    pub stood : Over (NodeFollows answers readings last told faults start.node before) notes
