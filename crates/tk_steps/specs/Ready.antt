-- When a pod's folder is ready for its steps: it was made anew, and the files of its workspaces, its start file and its scripts stand.
use Rattle.std.specs.Prelude.{◌≡◌, ◌⊎◌, ℕ, Bool, true, false, List, [], ◌∷◌, Option, Some, None, if◌then◌else◌, ◌||◌, bytes_eq, codes, slice_get}
use Rattle.tk_edge.specs.declared.event.Event.{Event}
use Rattle.tk_edge.specs.declared.event.Event.TheVariants as events
use Rattle.tk_edge.specs.Files.{is_under}
use Rattle.tk_edge.specs.History.{was_put}
use Rattle.tk_space.specs.Space.{below, pod_folder, spaces_folder}
use Rattle.tk_journal.specs.declared.object.Plan.{Plan}
use Rattle.tk_steps.specs.declared.held.HeldPod.{HeldPod}
use Rattle.tk_steps.specs.Paths.{start_path, script_path}

-- the bytes of the newest put of the path, where that answered Ok and no clear of a folder above came behind it
abbrev pub last_put : List ℕ → List Event → Option (List ℕ)
last_put path [] = None
last_put path (events.Put other bytes answered ∷ older) = if bytes_eq path other then (if answered then Some bytes else None) else last_put path older
last_put path (events.Cleared folder answered ∷ older) = if is_under folder path then None else last_put path older
last_put path (_ ∷ older) = last_put path older

-- the folder was made anew
abbrev pub was_cleared : List ℕ → List Event → Bool
was_cleared folder [] = false
was_cleared folder (events.Cleared other true ∷ older) = bytes_eq folder other || was_cleared folder older
was_cleared folder (_ ∷ older) = was_cleared folder older

-- the folder is one of the pod's emptyDirs, or lies in one
abbrev pub is_own_space : List ℕ → List ℕ → List ℕ → Bool
is_own_space root name folder = is_under (spaces_folder root name) folder

-- the file by which a workspace's folder is made
abbrev pub space_file : List ℕ → List ℕ → List ℕ → List ℕ
space_file root name folder = below folder (if is_own_space root name folder then codes ".space" else codes ".claim")

-- the folders of the workspaces are made
abbrev pub AreSpacesMade : List ℕ → List ℕ → Plan → List Event → Type 0
AreSpacesMade root name plan told = (place : ℕ) (folder : List ℕ) → slice_get plan.folders place ≡ Some folder → was_put (space_file root name folder) told ≡ true

-- each script stands, as the plan gives it
abbrev pub AreScriptsPut : List ℕ → List ℕ → Plan → List Event → Type 0
AreScriptsPut root name plan told = (step : ℕ) (text : List ℕ) → slice_get plan.scripts step ≡ Some text → (text ≡ []) ⊎ (last_put (script_path root name step) told ≡ Some text)

pub record IsReady (root name : List ℕ) (plan : Plan) (told : List Event) : Type 0 where
  pub cleared : was_cleared (pod_folder root name) told ≡ true
  pub spaces : AreSpacesMade root name plan told
  pub start : was_put (start_path root name) told ≡ true
  pub scripts : AreScriptsPut root name plan told

-- the folder of a pod that is held as ready is so
abbrev pub ReadyIsSo : List ℕ → HeldPod → List Event → Type 0
ReadyIsSo root pod told = pod.ready ≡ true → IsReady root pod.name pod.plan told
