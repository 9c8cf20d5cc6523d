-- What a contract sees of the whole system, and what stands in it between calls.
use Rattle.std.specs.Prelude.{◌≡◌, ◌<◌, ◌^◌, ℕ, List, [], map, replicate, length, Some, codes, slice_get}
use Rattle.tk_journal.specs.declared.entry.Entry.{Entry}
use Rattle.tk_journal.specs.declared.entry.Fronts.{Fronts}
use Rattle.tk_journal.specs.Folders.{HaveRoot}
use Rattle.tk_store.specs.Writes.{Stored}
use Rattle.tk_cache.specs.Fronts.{Shows}
use Rattle.tk_cache.specs.Views.{Kept, seen}
use Rattle.tk_script.specs.declared.pod_script.PodScript.{PodScript}
use Rattle.tk_script.specs.ScriptHost.{Scripts}
use Rattle.tk_machine.specs.State.{World, new_kubelet, no_fronts}
use Rattle.tk_machine.specs.Machine.{IsSound}
use Rattle.tk_play.specs.Scripts.{script_of}
use Rattle.tk_world.specs.declared.node.Node.{Node}
use Rattle.tk_world.specs.Nodes.{IsNewNode, IsNode, scripts_in, state_of}

-- The store, the clock, the caches of controllers, the nodes, and what their hosts play. The last cache takes no part: it
-- is there to look whether something is open.
pub record Whole : Type 0 where
  pub store : Stored
  pub clock : ℕ
  pub controllers : List Kept
  pub nodes : List Node
  pub pods : List PodScript
  pub watch : Kept

abbrev pub fronts_of : Kept → Fronts
fronts_of cache = cache.fronts

-- the machine's state of a history at a clock, with these caches and nodes
abbrev pub world_of : List Entry → ℕ → List Kept → List Node → World
world_of history clock controllers nodes = record {
  history = history;
  clock = clock;
  controllers = map fronts_of controllers;
  kubelets = map state_of nodes;
}

-- what the machine has of the whole, and the scripts that its hosts play
abbrev pub machine_of : Whole → World
machine_of whole = world_of whole.store.history whole.clock whole.controllers whole.nodes

abbrev pub scripts_of : Whole → Scripts
scripts_of whole = scripts_in whole.pods

abbrev pub whole_of : Stored → ℕ → List Kept → List Node → List PodScript → Kept → Whole
whole_of store clock controllers nodes pods watch =
    record { store = store; clock = clock; controllers = controllers; nodes = nodes; pods = pods; watch = watch }

-- all that stands between calls
pub record Stands (scripts : Scripts) (history : List Entry) (clock : ℕ) (controllers : List Kept) (nodes : List Node) (watch : Kept) : Type 0 where
  -- the numbers of controllers and of kubelets are numbers of actors
  pub few_controllers : length controllers < 2 ^ 32
  pub few_nodes : length nodes < 2 ^ 32
  -- all that was admitted has the root of the hosts
  pub root : scripts.root ≡ codes "/work"
  pub rooted : HaveRoot (codes "/work") history
  -- the machine is sound
  pub sound : IsSound (script_of scripts) (world_of history clock controllers nodes)
  -- each cache shows what stood in the journal at its fronts
  pub shown : (i : ℕ) (cache : Kept) → slice_get controllers i ≡ Some cache → Shows (seen cache) history
  pub watched : Shows (seen watch) history
  -- each kubelet has its place as its number, its conditions hold, and its host plays the scripts
  pub stand : (i : ℕ) (node : Node) → slice_get nodes i ≡ Some node → IsNode scripts history i node

abbrev pub IsWorld : Whole → Type 0
IsWorld whole = Stands (scripts_of whole) whole.store.history whole.clock whole.controllers whole.nodes whole.watch

-- so many caches, or nodes, that have seen nothing
pub record AreNewCaches (count : ℕ) (caches : List Kept) : Type 0 where
  pub same : map fronts_of caches ≡ replicate count no_fronts
  pub unseen : (i : ℕ) (cache : Kept) → slice_get caches i ≡ Some cache → Shows (seen cache) []

pub record AreNewNodes (pods : List PodScript) (count : ℕ) (nodes : List Node) : Type 0 where
  pub same : map state_of nodes ≡ replicate count new_kubelet
  pub each : (i : ℕ) (node : Node) → slice_get nodes i ≡ Some node → IsNewNode pods i node
