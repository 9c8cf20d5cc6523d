-- A kubelet's turn over a host that plays its script, and the machine's turn.
use Rattle.std.specs.Prelude.{◌≡◌, ℕ, Some, codes}
use Rattle.tk_journal.specs.declared.entry.Fronts.{Fronts}
use Rattle.tk_journal.specs.Folders.{HaveRoot}
use Rattle.tk_journal.specs.Legal.{IsLegal}
use Rattle.tk_store.specs.Writes.{Stored}
use Rattle.tk_cache.specs.Fronts.{Shows}
use Rattle.tk_cache.specs.Views.{Seen}
use Rattle.tk_script.specs.ScriptHost.{Scripts, EndAsScripted, RefuseAsScripted, play_of, script_files}
use Rattle.tk_kubelet.specs.declared.kubelet.KubeletTurn.{KubeletTurn as Answer}
use Rattle.tk_kubelet.specs.Holding.{Holding, IsMet, IsSameKubelet}
use Rattle.tk_kubelet.specs.Seat.{HostState, Hosts, seat_of}
use Rattle.tk_kubelet.specs.Turn.{TurnGives}
use Rattle.tk_machine.specs.State.{KubeletState}
use Rattle.tk_machine.specs.Machine.{KubeletTurn}
use Rattle.tk_play.specs.Own.{IsOwn}
use Rattle.tk_play.specs.Scripts.{script_of}

-- what the world knows around a call of `Kubelet::turn` that answered
pub record PlaysTurn (scripts : Scripts) (kubelet now : Holding) (seen : Seen) (moment : ℕ) (hosts : Hosts) (before after : Stored)
    (answer : Answer) : Type 0 where
  -- the journal is legal, and all that is admitted has the root of the kubelet and of its host
  pub legal : IsLegal before.history
  pub rooted : HaveRoot (codes "/work") before.history
  pub own_root : kubelet.root ≡ codes "/work"
  pub host_root : scripts.root ≡ codes "/work"
  -- the cache shows what stood in the journal at its fronts
  pub shows : Shows seen before.history
  -- the conditions of the turn hold before it and after it, for the same kubelet
  pub met : IsMet kubelet before.history hosts.before.killed hosts.before.told
  pub met_now : IsMet now after.history hosts.now.killed hosts.now.told
  pub same : IsSameKubelet kubelet now
  -- the host plays its script, no call on it fails, and its files are those that its history leaves
  pub plays : hosts.before.play ≡ Some (play_of scripts)
  pub no_fault : hosts.before.faults ≡ 0
  pub no_fault_now : hosts.now.faults ≡ 0
  pub files : hosts.now.files ≡ Some (script_files scripts hosts.now.told)
  -- each exit that was found is the scripted one, and each entry that was refused found its wait file with `.err`
  pub ends : EndAsScripted scripts hosts.now.told
  pub refuses : RefuseAsScripted scripts hosts.now.told
  -- what the turn answered
  pub gives : TurnGives (seat_of kubelet seen moment) kubelet.held now.held hosts before after answer

-- a kubelet at these fronts beside its host, as the machine has it
abbrev pub state_of : Holding → Fronts → HostState → KubeletState
state_of kubelet fronts host = record { fronts = fronts; life = kubelet.life; told = host.told; killed = host.killed }

-- such a turn is the machine's
abbrev pub TurnIsPlayed : Type 0
TurnIsPlayed =
    (scripts : Scripts) (kubelet now : Holding) (seen : Seen) (moment : ℕ) (hosts : Hosts) (before after : Stored) (answer : Answer)
    → PlaysTurn scripts kubelet now seen moment hosts before after answer → IsOwn kubelet hosts.before.killed hosts.before.told
    → KubeletTurn (script_of scripts) kubelet.number (state_of kubelet seen.fronts hosts.before) moment before.history after.history
    (state_of now seen.fronts hosts.now)
    × IsOwn now hosts.now.killed hosts.now.told
