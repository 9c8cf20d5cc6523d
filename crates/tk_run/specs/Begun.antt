-- A bench before its first round.
use Rattle.std.specs.Prelude.{◌≡◌, ◌<◌, ◌≤◌, ℕ, List, [], length, Some, slice_get}
use Rattle.tk_edge.specs.declared.event.Event.{Event}
use Rattle.tk_cache.specs.Fronts.{Shows}
use Rattle.tk_cache.specs.Views.{seen}
use Rattle.tk_kubelet.specs.Holding.{holding_of}
use Rattle.tk_rounds.specs.declared.bench.Bench.{Bench}
use Rattle.tk_rounds.specs.declared.bench.Controller.{Controller}
use Rattle.tk_rounds.specs.declared.bench.Node.{Node}

-- 1 to 64 members
abbrev pub AreSome : {M : Type 0} → List M → Type 0
AreSome members = (0 < length members) × (length members ≤ 64)

module _ {K G : Type 0} where
  -- its cache has seen nothing
  abbrev pub IsNewController : Controller K G → Type 0
  IsNewController c = Shows (seen c.cache) []

module _ {K H G : Type 0} where
  -- its cache has seen nothing, and its host told nothing
  pub record IsNewNode (told : H → List Event) (n : Node K H G) : Type 0 where
    pub unseen : Shows (seen n.cache) []
    pub silent : told n.host ≡ []

  pub record IsNewBench (told : H → List Event) (bench : Bench K H G) : Type 0 where
    pub some_controllers : AreSome bench.controllers.items
    pub some_nodes : AreSome bench.kubelets.items
    pub controllers : (i : ℕ) (c : Controller K G) → slice_get bench.controllers.items i ≡ Some c → IsNewController c
    pub nodes : (i : ℕ) (n : Node K H G) → slice_get bench.kubelets.items i ≡ Some n → IsNewNode told n

-- each member begins with its place as its number; a node's kubelet in its first life, with this root
abbrev pub controller_begun : {K : Type 0} → {G : Type 0} → ℕ → Controller K G → Controller K G
controller_begun number c = record c { number = number }

abbrev pub node_begun : {K : Type 0} → {H : Type 0} → {G : Type 0} → List ℕ → ℕ → Node K H G → Node K H G
node_begun root number n = record n { kubelet = holding_of number 1 root [] }

-- so did the first `count` members of a list
abbrev pub AreBegun : {M : Type 0} → (ℕ → M → M) → ℕ → List M → List M → Type 0
AreBegun {M} begun count old new =
    (i : ℕ) (a b : M) → i < count → slice_get old i ≡ Some a → slice_get new i ≡ Some b → b ≡ begun i a
