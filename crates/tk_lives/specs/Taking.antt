-- How the entries of a file and the Admit entries of an input fit together, and why a call doesn't go on from a file. Here
-- entries stand with the oldest first, but for a history.
use Rattle.std.specs.Prelude.{◌≡◌, ◌⊎◌, ℕ, zero, suc, Bool, false, not, nat_eq, nat_le, if◌then◌else◌, bytes_eq, List, [], ◌∷◌, ◌++◌, length, drop, reverse, All, Option, Some, None, option_map}
use Rattle.tk_types.specs.declared.scenario.Kind.TheVariants as kinds
use Rattle.tk_journal.specs.declared.entry.Entry.{Entry}
use Rattle.tk_journal.specs.declared.object.Claim.{Claim}
use Rattle.tk_journal.specs.declared.object.PodState.{PodState}
use Rattle.tk_journal.specs.History.{names_of, pod_of}
use Rattle.tk_journal.specs.Legal.{is_admit}
use Rattle.tk_journal.specs.PodRows.{is_unended}
use Rattle.tk_payload.specs.Forms.{entry_text}
use Rattle.tk_lives.specs.Lives.{greatest_life}
use Rattle.tk_lives.specs.declared.unfit.Unfit.{Unfit}
use Rattle.tk_lives.specs.declared.unfit.Unfit.TheVariants.{Differs, Nodes}

-- one entry is another, by their texts
abbrev pub same_entry : Entry → Entry → Bool
same_entry a b = bytes_eq (entry_text a) (entry_text b)

-- a file's entry is the first one of these; where none is left, it admits nothing
abbrev pub fits_first : Entry → List Entry → Bool
fits_first e [] = not (is_admit e.act)
fits_first e (admit ∷ given) = same_entry e admit

abbrev pub IsFirst : Entry → List Entry → Type 0
IsFirst e [] = is_admit e.act ≡ false
IsFirst e (admit ∷ given) = e ≡ admit

-- The first place, counted from 0, where the file's entries aren't the input's Admit entries, one after another, or where
-- behind all of these one more is admitted.
abbrev pub first_difference : List Entry → List Entry → Option ℕ
first_difference [] given = None
first_difference (e ∷ file) given =
    if fits_first e given then option_map suc (first_difference file (drop 1 given)) else Some 0

-- the file's entries, and then the Admit entries that it lacks
abbrev pub taken_over : List Entry → List Entry → List Entry
taken_over file given = file ++ drop (length file) given

-- The file has a part of the Admit entries and nothing else, so all that is taken over is these.
pub record HasPart (file given : List Entry) : Type 0 where
  pub rest : List Entry
  pub split : given ≡ file ++ rest
  pub all : taken_over file given ≡ given

-- The file has all of the Admit entries, then others that admit nothing, and all that is taken over is the file's.
pub record HasAll (file given : List Entry) : Type 0 where
  pub rest : List Entry
  pub split : file ≡ given ++ rest
  pub none : All (λ (e : Entry). is_admit e.act ≡ false) rest
  pub all : taken_over file given ≡ file

-- an input goes on from the file
abbrev pub GoesOnFrom : List Entry → List Entry → Type 0
GoesOnFrom file given = HasPart file given ⊎ HasAll file given

-- Which pods and lives of a history a bench of so many nodes can't go on from.

-- the number of the kubelet that claimed, where it isn't one of so many
abbrev pub beyond : ℕ → Option Claim → Option ℕ
beyond nodes None = None
beyond nodes (Some claim) = if nat_le nodes claim.number then Some claim.number else None

-- the same of a pod that hasn't ended
abbrev pub strange_claim : ℕ → Option PodState → Option ℕ
strange_claim nodes None = None
strange_claim nodes (Some pod) = if is_unended pod.ended then beyond nodes pod.claim else None

-- the first of these that there is
abbrev pub first_some : (List ℕ → Option ℕ) → List (List ℕ) → Option ℕ
first_some f [] = None
first_some f (name ∷ names) = elim (f name) [ Some number ↦ Some number | None ↦ first_some f names ]

-- the number of the kubelet that claimed the first pod, in order of creation, that hasn't ended and is claimed by none of
-- the nodes
abbrev pub strange_node : ℕ → List Entry → Option ℕ
strange_node nodes history = first_some (λ name. strange_claim nodes (pod_of history name)) (names_of kinds.Pods history)

-- the last life
abbrev pub last_life : ℕ
last_life = 4294967295

abbrev pub spent_from : ℕ → ℕ → List Entry → Option ℕ
spent_from at zero history = None
spent_from at (suc more) history = if nat_eq (greatest_life at history) last_life then Some at else spent_from (suc at) more history

-- the least number of a node whose last life stands in the history
abbrev pub spent_node : ℕ → List Entry → Option ℕ
spent_node nodes history = spent_from 0 nodes history

abbrev pub unfit_nodes : ℕ → List Entry → Option Unfit
unfit_nodes nodes history =
    elim (strange_node nodes history) [
      | Some number ↦ Some (Nodes number)
      | None ↦ option_map Nodes (spent_node nodes history)
    ]

-- Why a bench of so many nodes doesn't go on from a history with an input: the first difference, by its position, or a
-- node that it lacks, or one that has had its last life.
abbrev pub unfit : ℕ → List Entry → List Entry → Option Unfit
unfit nodes history given =
    elim (first_difference (reverse history) given) [
      | Some place ↦ Some (Differs (suc place))
      | None ↦ unfit_nodes nodes history
    ]
