-- The lives of kubelets that stand in a history.
use Rattle.std.specs.Prelude.{◌≡◌, ℕ, ◌+◌, max, nat_eq, if◌then◌else◌, List, [], ◌∷◌, Some, None}
use Rattle.tk_journal.specs.declared.entry.Actor.{Actor}
use Rattle.tk_journal.specs.declared.entry.Actor.TheVariants as actors
use Rattle.tk_journal.specs.declared.entry.Entry.{Entry}
use Rattle.tk_journal.specs.declared.object.PodState.{PodState}
use Rattle.tk_journal.specs.History.{pod_of}

-- the life of the actor, where it is the kubelet of this number
abbrev pub life_in : ℕ → Actor → ℕ
life_in number (actors.Kubelet n life) = if nat_eq n number then life else 0
life_in number _ = 0

-- the greatest life that stands in a history for a number, or 0
abbrev pub greatest_life : ℕ → List Entry → ℕ
greatest_life number [] = 0
greatest_life number (e ∷ older) = max (life_in number e.actor) (greatest_life number older)

-- the life in which the kubelet of a number begins over a history
abbrev pub next_life : ℕ → List Entry → ℕ
next_life number history = greatest_life number history + 1

-- no kubelet had claimed the pod of this name in the history
abbrev pub IsUnclaimedIn : List Entry → List ℕ → Type 0
IsUnclaimedIn history name = (state : PodState) → pod_of history name ≡ Some state → state.claim ≡ None
