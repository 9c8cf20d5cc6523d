-- Who takes a turn, what it sees, and what its host tells.
use Rattle.std.specs.Prelude.{ℕ, Bool, List, Option}
use Rattle.tk_edge.specs.declared.event.Event.{Event}
use Rattle.tk_edge.specs.Files.{Files}
use Rattle.tk_edge.specs.Plays.{Play}
use Rattle.tk_journal.specs.declared.object.Claim.{Claim}
use Rattle.tk_journal.specs.declared.act.Act.{Act}
use Rattle.tk_journal.specs.declared.entry.Actor.{Actor}
use Rattle.tk_journal.specs.declared.entry.Actor.TheVariants as actors
use Rattle.tk_journal.specs.declared.entry.Entry.{Entry}
use Rattle.tk_cache.specs.Views.{Seen}
use Rattle.tk_choice.specs.Took.{entry_of}
use Rattle.tk_kubelet.specs.Holding.{Holding}

-- a kubelet in one of its lives, with its root, at what it sees and at a moment
pub record Seat : Type 0 where
  pub me : Claim
  pub root : List ℕ
  pub seen : Seen
  pub moment : ℕ

abbrev pub seat_at : Claim → List ℕ → Seen → ℕ → Seat
seat_at me root seen moment = record { me = me; root = root; seen = seen; moment = moment }

abbrev pub seat_of : Holding → Seen → ℕ → Seat
seat_of kubelet seen moment = record { me = record { number = kubelet.number; life = kubelet.life }; root = kubelet.root; seen = seen; moment = moment }

-- it as the one that acts, and its entry at a cache's fronts
abbrev pub actor_of : Claim → Actor
actor_of me = actors.Kubelet me.number me.life

abbrev pub entry_by : Claim → Seen → ℕ → Act → Entry
entry_by me seen moment act = entry_of (actor_of me) seen.fronts moment act

-- what a host tells at one moment
pub record HostState : Type 0 where
  pub told : List Event
  pub killed : ℕ → Bool
  pub faults : ℕ
  pub watches : ℕ → ℕ
  pub files : Option Files
  pub play : Option Play

-- at two moments
pub record Hosts : Type 0 where
  pub before : HostState
  pub now : HostState

abbrev pub host_at : {S : Type 0} → (S → List Event) → (S → ℕ → Bool) → (S → ℕ) → (S → ℕ → ℕ) → (S → Option Files) → (S → Option Play) → S → HostState
host_at told killed faults watches files plays host = record {
  told = told host;
  killed = killed host;
  faults = faults host;
  watches = watches host;
  files = files host;
  play = plays host;
}

abbrev pub hosts_of : {S : Type 0} → (S → List Event) → (S → ℕ → Bool) → (S → ℕ) → (S → ℕ → ℕ) → (S → Option Files) → (S → Option Play) → S → S → Hosts
hosts_of told killed faults watches files plays before now = record {
  before = host_at told killed faults watches files plays before;
  now = host_at told killed faults watches files plays now;
}
