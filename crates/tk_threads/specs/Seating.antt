-- Members of a bench in seats.
use Rattle.std.specs.Prelude.{◌≡◌, ℕ, List, None, Some, false, slice_get}
use Rattle.tk_edge.specs.declared.gate.GateTurn.TheVariants.{Pause}
use Rattle.tk_passes.specs.declared.actor.Member.{Member}
use Rattle.tk_store.specs.Notes.{controller_owner, kubelet_owner}
use Rattle.tk_rounds.specs.declared.bench.Controller.{Controller}
use Rattle.tk_rounds.specs.declared.bench.Node.{Node}
use Rattle.tk_threads.specs.declared.leader.Leader.{Leader}
use Rattle.tk_threads.specs.declared.worker.Worker.{Worker}

-- each has its place as its number
abbrev pub AreNumbered : {M : Type 0} → (M → ℕ) → List M → Type 0
AreNumbered {M} number members = (i : ℕ) (m : M) → slice_get members i ≡ Some m → number m ≡ i

module _ {K G : Type 0} where
  abbrev pub leader_of : Controller K G → Member (Leader K G)
  leader_of c = record { actor = record { controller = c; owner = controller_owner c.number; given = Pause }; pass = None; lacked = false }

  abbrev pub controller_in : Member (Leader K G) → Controller K G
  controller_in m = m.actor.controller

module _ {K H G : Type 0} where
  abbrev pub worker_of : Node K H G → Member (Worker K H G)
  worker_of n = record { actor = record { node = n; owner = kubelet_owner n.kubelet.number; given = Pause }; pass = None; lacked = false }

  abbrev pub node_in : Member (Worker K H G) → Node K H G
  node_in m = m.actor.node
