-- What a turn keeps holds at the start, and in a kubelet's next life.
use Rattle.std.specs.Prelude.{ℕ, Bool, false, List, []}
use Rattle.tk_edge.specs.declared.event.Event.{Event}
use Rattle.tk_journal.specs.declared.entry.Entry.{Entry}
use Rattle.tk_held.specs.Pods.{KeepsAll}
use Rattle.tk_held.specs.Settling.{KillsHeld}
use Rattle.tk_kubelet.specs.Holding.{Holding, holding_of}
use Rattle.tk_machine.specs.Kills.{AreKilledRight}
use Rattle.tk_play.specs.Own.{IsOwn}

-- a new kubelet beside a host that did nothing
pub record NothingIsOwn : Type 0 where
  pub own : (number life : ℕ) (root : List ℕ) → IsOwn (holding_of number life root []) (λ child. false) []
  pub spared : (number life : ℕ) (history : List Entry) (moment : ℕ) → AreKilledRight number life (λ child. false) [] history moment

-- a kubelet that comes back with nothing, over the same host, whose held pods' children were killed
abbrev pub NextLifeIsOwn : Type 0
NextLifeIsOwn =
    (kubelet : Holding) (life : ℕ) (killed now : ℕ → Bool) (told : List Event) → KeepsAll told kubelet.held
    → KillsHeld kubelet.held killed now → IsOwn kubelet killed told
    → IsOwn (holding_of kubelet.number life kubelet.root []) now told
