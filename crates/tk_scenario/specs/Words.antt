-- The words of an event's text.
use Rattle.std.specs.Prelude.{ℕ, ◌^◌, Bool, false, not, ◌&&◌, ◌==◌, nat_lt, if◌then◌else◌, List, [], ◌∷◌, Option, Some, None, codes, bytes_eq, option_map}
use Rattle.std.specs.List.{list_all, slice_split}
use Rattle.std.specs.Char.{is_ascii_digit}
use Rattle.std.specs.Str.Parse.{digits_value}
use Rattle.tk_types.specs.declared.object.Asked.{Asked}
use Rattle.tk_types.specs.declared.object.Asked.TheVariants.{Start, StoppedRunFinally, CancelledRunFinally, Cancelled, TaskRunCancelled}
use Rattle.tk_types.specs.declared.scenario.Kind.{Kind}
use Rattle.tk_types.specs.declared.scenario.Kind.TheVariants.{Runs, TaskRuns, Pods}
use Rattle.tk_types.specs.declared.scenario.Viewer.{Viewer}
use Rattle.tk_types.specs.declared.scenario.Viewer.TheVariants.{Controller, Kubelet}
use Rattle.tk_types.specs.declared.scenario.Taker.{Taker}
use Rattle.tk_types.specs.declared.scenario.Taker.TheVariants.{Runs as RunsOf, Tasks as TasksOf, Kubelet as KubeletOf}
use Rattle.tk_types.specs.Lists.{is_empty, first_row}
use Rattle.tk_scenario.specs.declared.actors.Counts.{Counts}

-- what follows is told only where something is told before it, and only where a test holds
infixl 10 ◌>>=◌
abbrev pub ◌>>=◌ : {A B : Type 0} → Option A → (A → Option B) → Option B
None >>= f = None
(Some x) >>= f = f x

abbrev pub only_if : {X : Type 0} → Bool → Option X → Option X
only_if test told = if test then told else None

-- the words of a text: a space stands between two
abbrev pub words_of : List ℕ → List (List ℕ)
words_of text = slice_split (λ b. b == 32) text

-- a numeral: decimal digits, the first of several not 0
abbrev pub has_leading_zero : List ℕ → Bool
has_leading_zero (first ∷ second ∷ rest) = first == 48
has_leading_zero word = false

abbrev pub is_numeral : List ℕ → Bool
is_numeral word = not (is_empty word) && list_all is_ascii_digit word && not (has_leading_zero word)

-- the number below 2^64 that a word tells
abbrev pub number_told : List ℕ → Option ℕ
number_told word = only_if (is_numeral word && nat_lt (digits_value 10 word) (2 ^ 64)) (Some (digits_value 10 word))

-- the index that a word tells, of so many actors
abbrev pub index_told : ℕ → List ℕ → Option ℕ
index_told count word = do
  i ← number_told word
  only_if (nat_lt i count) (Some i)

-- the kind of object, and the status that is asked
abbrev pub kind_told : List ℕ → Option Kind
kind_told word = first_row ((bytes_eq word (codes "runs"), Runs) ∷ (bytes_eq word (codes "taskruns"), TaskRuns) ∷ (bytes_eq word (codes "pods"), Pods) ∷ [])

abbrev pub status_told : List ℕ → Option Asked
status_told word =
    first_row
    ((bytes_eq word (codes "Start"), Start)
    ∷ (bytes_eq word (codes "StoppedRunFinally"), StoppedRunFinally)
    ∷ (bytes_eq word (codes "CancelledRunFinally"), CancelledRunFinally)
    ∷ (bytes_eq word (codes "Cancelled"), Cancelled)
    ∷ (bytes_eq word (codes "TaskRunCancelled"), TaskRunCancelled)
    ∷ [])

-- who has a cache, and who takes turns, by a word and an index below the number of these actors
abbrev pub viewer_told : Counts → List ℕ → List ℕ → Option Viewer
viewer_told counts who i =
    if bytes_eq who (codes "controller") then option_map Controller (index_told counts.controllers i)
    else if bytes_eq who (codes "kubelet") then option_map Kubelet (index_told counts.kubelets i)
    else None

abbrev pub taker_told : Counts → List ℕ → List ℕ → Option Taker
taker_told counts who i =
    if bytes_eq who (codes "runs") then option_map RunsOf (index_told counts.controllers i)
    else if bytes_eq who (codes "tasks") then option_map TasksOf (index_told counts.controllers i)
    else if bytes_eq who (codes "kubelet") then option_map KubeletOf (index_told counts.kubelets i)
    else None
