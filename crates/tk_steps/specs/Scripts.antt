-- What single puts of a pod's files come to.
use Rattle.std.specs.Prelude.{◌≡◌, ◌⊎◌, ℕ, true, List, [], ◌∷◌, Some, slice_get}
use Rattle.tk_edge.specs.declared.event.Event.{Event}
use Rattle.tk_edge.specs.declared.event.Event.TheVariants as events
use Rattle.tk_edge.specs.History.{was_put}
use Rattle.tk_journal.specs.declared.object.Plan.{Plan}
use Rattle.tk_steps.specs.Paths.{script_path}
use Rattle.tk_steps.specs.Ready.{space_file}

-- the script at a place was put, or it is empty and nothing was done
abbrev pub PutsScript : List ℕ → List ℕ → Plan → ℕ → List Event → List Event → Type 0
PutsScript root name plan place told now =
    (text : List ℕ) → slice_get plan.scripts place ≡ Some text → ((text ≡ []) × (now ≡ told)) ⊎ (now ≡ events.Put (script_path root name place) text true ∷ told)

-- the file of the folder at a place was put
abbrev pub PutsSpace : List ℕ → List ℕ → Plan → ℕ → List Event → List Event → Type 0
PutsSpace root name plan place told now = (folder : List ℕ) → slice_get plan.folders place ≡ Some folder → now ≡ events.Put (space_file root name folder) [] true ∷ told

-- what was put before still is
abbrev pub KeepsPuts : List Event → List Event → Type 0
KeepsPuts told now = (path : List ℕ) → was_put path told ≡ true → was_put path now ≡ true
