-- A kubelet beside its cache and its host, as the machine has it, and what stands in it between turns.
use Rattle.std.specs.Prelude.{◌≡◌, ◌⊎◌, ◌<◌, ◌≤◌, ℕ, suc, false, List, [], Some, codes}
use Rattle.tk_edge.specs.HostLog.{counts, flags}
use Rattle.tk_journal.specs.declared.entry.Entry.{Entry}
use Rattle.tk_journal.specs.Folders.{HaveRoot}
use Rattle.tk_cache.specs.Fronts.{Shows}
use Rattle.tk_cache.specs.Views.{seen}
use Rattle.tk_script.specs.declared.pod_script.PodScript.{PodScript}
use Rattle.tk_script.specs.ScriptHost.{Playing, Scripts, files_of, play_of, plays_of}
use Rattle.tk_kubelet.specs.Holding.{IsMet, holding_of}
use Rattle.tk_kubelet.specs.Seat.{HostState, Hosts}
use Rattle.tk_machine.specs.State.{KubeletState}
use Rattle.tk_machine.specs.Machine.{KubeletTurn}
use Rattle.tk_play.specs.Own.{IsOwn}
use Rattle.tk_play.specs.Scripts.{script_of}
use Rattle.tk_world.specs.declared.node.Node.{Node}

-- what its host tells
abbrev pub host_of : Playing → HostState
host_of host = record {
  told = host.log.told;
  killed = flags host.log.killed;
  faults = host.faults;
  watches = counts host.log.watches;
  files = files_of host;
  play = plays_of host;
}

abbrev pub hosts_between : Node → Node → Hosts
hosts_between old new = record { before = host_of old.host; now = host_of new.host }

-- it as the machine has it
abbrev pub state_of : Node → KubeletState
state_of node = record {
  fronts = node.cache.fronts;
  life = node.kubelet.life;
  told = node.host.log.told;
  killed = flags node.host.log.killed;
}

-- the kubelet of this number beside a host of these scripts, with the conditions of its turns
pub record IsNode (scripts : Scripts) (history : List Entry) (place : ℕ) (node : Node) : Type 0 where
  pub number : node.kubelet.number ≡ place
  pub life : node.kubelet.life ≡ node.life
  pub root : node.kubelet.root ≡ codes "/work"
  pub shows : Shows (seen node.cache) history
  pub met : IsMet node.kubelet history (flags node.host.log.killed) node.host.log.told
  pub own : IsOwn node.kubelet (flags node.host.log.killed) node.host.log.told
  pub plays : plays_of node.host ≡ Some (play_of scripts)

-- what the machine says of a turn, and what stands after it
pub record PlaysOn (scripts : Scripts) (number moment : ℕ) (before after : List Entry) (old new : Node) : Type 0 where
  pub turn : KubeletTurn (script_of scripts) number (state_of old) moment before after (state_of new)
  pub stands : IsNode scripts after number new

abbrev pub NodePlays : ℕ → List Entry → List Entry → Node → Node → Type 0
NodePlays moment before after old new =
    (scripts : Scripts) (number : ℕ) → scripts.root ≡ codes "/work" → HaveRoot (codes "/work") before
    → IsNode scripts before number old → PlaysOn scripts number moment before after old new

-- the folders of pods stand in `/work`
abbrev pub scripts_in : List PodScript → Scripts
scripts_in pods = record { root = codes "/work"; pods = pods }

-- a kubelet in its first life, which has seen nothing, beside a host that did nothing
pub record IsNewNode (pods : List PodScript) (number : ℕ) (node : Node) : Type 0 where
  pub unseen : Shows (seen node.cache) []
  pub life : node.life ≡ 1
  pub kubelet : node.kubelet ≡ holding_of number 1 (codes "/work") []
  pub told : node.host.log.told ≡ []
  pub killed : (child : ℕ) → flags node.host.log.killed child ≡ false
  pub plays : plays_of node.host ≡ Some (play_of (scripts_in pods))

-- the next life of the kubelet of this number
pub record IsNextLife (number : ℕ) (old new : Node) : Type 0 where
  pub more : old.life < 4294967295
  pub life : new.life ≡ suc old.life
  pub kubelet : new.kubelet ≡ holding_of number (suc old.life) (codes "/work") []
  pub unseen : Shows (seen new.cache) []
  pub host : new.host ≡ old.host

-- it begins, or there is none
abbrev pub IsRestarted : ℕ → Node → Node → Type 0
IsRestarted number old new = IsNextLife number old new ⊎ ((4294967295 ≤ old.life) × (new ≡ old))
