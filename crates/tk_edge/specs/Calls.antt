-- What each call of a host adds to its history, by its answer.
use Rattle.std.specs.Prelude.{◌≡◌, ◌⊎◌, ℕ, Bool, true, false, ◌&&◌, ◌||◌, nat_eq, List, ◌∷◌, Option, Some, None, Result, MatchResult}
use Rattle.tk_pod.specs.Exits.{passes}
use Rattle.tk_edge.specs.declared.miss.Miss.{Miss}
use Rattle.tk_edge.specs.declared.miss.Miss.TheVariants as misses
use Rattle.tk_edge.specs.declared.order.Order.{Order}
use Rattle.tk_edge.specs.declared.order.Poll.{Poll}
use Rattle.tk_edge.specs.declared.order.Poll.TheVariants as polls
use Rattle.tk_edge.specs.declared.order.Watch.{Watch}
use Rattle.tk_edge.specs.declared.order.Watch.TheVariants as watches
use Rattle.tk_edge.specs.declared.event.Event.{Event}
use Rattle.tk_edge.specs.declared.event.Event.TheVariants as events
use Rattle.tk_edge.specs.declared.event.Arming.{Arming}
use Rattle.tk_edge.specs.History.{IsNew, exit_of, arming_of, is_refused, StillWaits, StillRuns, MayStart}
use Rattle.tk_edge.specs.Memory.{is_named}

-- the call is told as answered or as failed; want of memory adds nothing
abbrev pub TellsMiss : Event → List Event → List Event → Miss → Type 0
TellsMiss failed old new misses.Failed = new ≡ failed ∷ old
TellsMiss failed old new misses.Memory = new ≡ old

-- what a call tells that changes files
abbrev pub TellsCall : {T : Type 0} → Event → Event → List Event → List Event → Result T Miss → Type 0
TellsCall answered failed old new result = MatchResult result (λ _. new ≡ answered ∷ old) (TellsMiss failed old new)

-- the history names a started child, by a new number
abbrev pub TellsStart : Order → List Event → List Event → Result ℕ Miss → Type 0
TellsStart order old new result = MatchResult result (λ child. IsNew child old × (new ≡ events.Started child order ∷ old)) (λ _. new ≡ old)

-- what an entry is armed with
abbrev pub arming_with : Order → List ℕ → List ℕ → Bool → Arming
arming_with order wait post keep_going = record { order = order; wait = wait; post = post; keep_going = keep_going }

-- the same of an armed entry
abbrev pub TellsLaunch : Arming → List Event → List Event → Result ℕ Miss → Type 0
TellsLaunch arming old new result = MatchResult result (λ child. IsNew child old × (new ≡ events.Armed child arming ∷ old)) (λ _. new ≡ old)

-- the child's exit is told once, and is the same from then on
abbrev pub TellsExit : ℕ → ℕ → List Event → List Event → Type 0
TellsExit child exit old new = (StillRuns child old × (new ≡ events.Exited child exit ∷ old)) ⊎ ((exit_of child old ≡ Some exit) × (new ≡ old))

-- what each answer of a poll tells
abbrev pub TellsPolled : ℕ → List Event → List Event → Poll → Type 0
TellsPolled child old new polls.Runs = (exit_of child old ≡ None) × (new ≡ old)
TellsPolled child old new (polls.Exited exit) = TellsExit child exit old new

-- what a poll tells
abbrev pub TellsPoll : ℕ → List Event → List Event → Result Poll Miss → Type 0
TellsPoll child old new result = MatchResult result (TellsPolled child old new) (λ _. new ≡ old)

-- that a child was refused is told once
abbrev pub TellsRefusal : ℕ → List Event → List Event → Type 0
TellsRefusal child old new = (StillWaits child old × (new ≡ events.Refused child ∷ old)) ⊎ ((is_refused child old ≡ true) × (new ≡ old))

-- one turn of an armed entry
abbrev pub TellsTurn : ℕ → Arming → List Event → List Event → Watch → Type 0
TellsTurn child arming old new watches.Waits = StillWaits child old × (new ≡ old)
TellsTurn child arming old new watches.Started = StillWaits child old × MayStart arming old × (new ≡ events.Started child arming.order ∷ old)
TellsTurn child arming old new watches.Runs = StillRuns child old × (new ≡ old)
TellsTurn child arming old new (watches.Passed exit) = (passes arming.keep_going exit ≡ true) × TellsExit child exit old new
TellsTurn child arming old new (watches.Broke (Some exit)) = (passes arming.keep_going exit ≡ false) × TellsExit child exit old new
TellsTurn child arming old new (watches.Broke None) = TellsRefusal child old new

-- the same, of what the child was armed with
abbrev pub TellsArmedTurn : ℕ → List Event → List Event → Option Arming → Watch → Type 0
TellsArmedTurn child old new None watch = ⊥
TellsArmedTurn child old new (Some arming) watch = TellsTurn child arming old new watch

-- what a watch tells
abbrev pub TellsWatch : ℕ → List Event → List Event → Result Watch Miss → Type 0
TellsWatch child old new result = MatchResult result (TellsArmedTurn child old new (arming_of child old)) (λ _. new ≡ old)

-- what a fetch tells
abbrev pub TellsFetch : List ℕ → List Event → List Event → Result (Option (List ℕ)) Miss → Type 0
TellsFetch path old new result = MatchResult result (λ bytes. new ≡ events.Fetched path bytes ∷ old) (λ _. new ≡ old)

-- a kill marks the child where the history names it, and no other number
abbrev pub MarksKilled : ℕ → List Event → (ℕ → Bool) → (ℕ → Bool) → Type 0
MarksKilled child told old new = (other : ℕ) → new other ≡ (nat_eq other child && is_named child told || old other)
