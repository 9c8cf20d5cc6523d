-- The texts of events.
use Rattle.std.specs.Prelude.{ℕ, ◌&&◌, nat_le, List, [], ◌∷◌, Option, Some, None, codes, bytes_eq}
use Rattle.tk_types.specs.declared.scenario.Kind.{Kind}
use Rattle.tk_types.specs.declared.scenario.Viewer.{Viewer}
use Rattle.tk_types.specs.declared.scenario.Event.{Event}
use Rattle.tk_types.specs.declared.scenario.Event.TheVariants.{Deliver, DeliverAll, Relist, Turn, Restart, Ask, Clock, Round}
use Rattle.tk_types.specs.First.{first_of}
use Rattle.tk_names.specs.Rules.{is_object_name}
use Rattle.tk_scenario.specs.declared.actors.Counts.{Counts}
use Rattle.tk_scenario.specs.Words.{◌>>=◌, only_if, words_of, number_told, kind_told, status_told, viewer_told, taker_told}

-- the greatest moment of a clock, in milliseconds
abbrev pub last_moment : ℕ
last_moment = 253402300799999

-- The forms of events, each of some words.

-- `deliver A i K n` and `relist A i K p`
abbrev pub move_of : (Viewer → Kind → ℕ → Event) → Counts → List ℕ → List ℕ → List ℕ → List ℕ → Option Event
move_of make counts who i kind n = do
  viewer ← viewer_told counts who i
  kind ← kind_told kind
  number ← number_told n
  Some (make viewer kind number)

abbrev pub deliver_of : Counts → List (List ℕ) → Option Event
deliver_of counts (verb ∷ who ∷ i ∷ kind ∷ n ∷ []) = only_if (bytes_eq verb (codes "deliver")) (move_of Deliver counts who i kind n)
deliver_of counts words = None

abbrev pub relist_of : Counts → List (List ℕ) → Option Event
relist_of counts (verb ∷ who ∷ i ∷ kind ∷ p ∷ []) = only_if (bytes_eq verb (codes "relist")) (move_of Relist counts who i kind p)
relist_of counts words = None

-- `deliver A i all`
abbrev pub deliver_all_of : Counts → List (List ℕ) → Option Event
deliver_all_of counts (verb ∷ who ∷ i ∷ every ∷ []) =
    only_if (bytes_eq verb (codes "deliver") && bytes_eq every (codes "all")) (do
      viewer ← viewer_told counts who i
      Some (DeliverAll viewer))
deliver_all_of counts words = None

-- `turn runs i`, `turn tasks i`, `turn kubelet i`
abbrev pub turn_of : Counts → List (List ℕ) → Option Event
turn_of counts (verb ∷ who ∷ i ∷ []) =
    only_if (bytes_eq verb (codes "turn")) (do
      taker ← taker_told counts who i
      Some (Turn taker))
turn_of counts words = None

-- `restart A i`
abbrev pub restart_of : Counts → List (List ℕ) → Option Event
restart_of counts (verb ∷ who ∷ i ∷ []) =
    only_if (bytes_eq verb (codes "restart")) (do
      viewer ← viewer_told counts who i
      Some (Restart viewer))
restart_of counts words = None

-- `ask NAME STATUS`
abbrev pub ask_of : List (List ℕ) → Option Event
ask_of (verb ∷ name ∷ status ∷ []) =
    only_if (bytes_eq verb (codes "ask") && is_object_name name) (do
      status ← status_told status
      Some (Ask name status))
ask_of words = None

-- `clock m`, not before the clock's reading
abbrev pub clock_of : ℕ → List (List ℕ) → Option Event
clock_of reading (verb ∷ m ∷ []) =
    only_if (bytes_eq verb (codes "clock")) (do
      moment ← number_told m
      only_if (nat_le reading moment && nat_le moment last_moment) (Some (Clock moment)))
clock_of reading words = None

-- `round`
abbrev pub round_of : List (List ℕ) → Option Event
round_of (verb ∷ []) = only_if (bytes_eq verb (codes "round")) (Some Round)
round_of words = None

-- the event that a text tells while the clock has a reading
abbrev pub event_by : Counts → ℕ → List (List ℕ) → Option Event
event_by counts reading words =
    first_of
    (deliver_of counts words
    ∷ deliver_all_of counts words
    ∷ relist_of counts words
    ∷ turn_of counts words
    ∷ restart_of counts words
    ∷ ask_of words
    ∷ clock_of reading words
    ∷ round_of words
    ∷ [])

abbrev pub event_of : Counts → ℕ → List ℕ → Option Event
event_of counts reading text = event_by counts reading (words_of text)

-- the clock's reading after an event
abbrev pub reading_after : ℕ → Event → ℕ
reading_after reading (Clock moment) = moment
reading_after reading event = reading
