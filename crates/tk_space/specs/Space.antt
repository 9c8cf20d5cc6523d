-- The folders of workspaces, and the words by which texts see them (Tekton, Workspaces, Using Workspaces in Tasks).
use Rattle.std.specs.Prelude.{ℕ, Bool, ◌==◌, if◌then◌else◌, List, [], ◌∷◌, ◌++◌, filter_map, length, Option, option_map, unwrap_or, is_some, find, codes, bytes_eq}
use Rattle.std.specs.Option.{option_map_or}
use Rattle.tk_types.specs.declared.task.Space.{Space}
use Rattle.tk_types.specs.declared.task.SpaceSpec.{SpaceSpec}
use Rattle.tk_types.specs.declared.value.Pair.{Pair}

-- what has this name in a folder
abbrev pub below : List ℕ → List ℕ → List ℕ
below folder name = folder ++ codes "/" ++ name

-- the same, where a name is written
abbrev pub under : List ℕ → List ℕ → List ℕ
under folder name = if length name == 0 then folder else below folder name

-- the folder of a pod
abbrev pub pod_folder : List ℕ → List ℕ → List ℕ
pod_folder root pod = below root pod

-- in which a pod's emptyDirs have their folders
abbrev pub spaces_folder : List ℕ → List ℕ → List ℕ
spaces_folder root pod = below (pod_folder root pod) (codes "ws")

-- in which the claims have their folders
abbrev pub claims_folder : List ℕ → List ℕ
claims_folder root = below root (codes "claims")

-- the folder of a bound workspace without its `sub`: one of the pod's own, or that of its claim
abbrev pub space_base : List ℕ → List ℕ → Space → List ℕ
space_base root pod space = option_map_or (below (claims_folder root)) space.claim (below (spaces_folder root pod) space.name)

-- the folder of a bound workspace
abbrev pub space_folder : List ℕ → List ℕ → Space → List ℕ
space_folder root pod space = under (space_base root pod space) space.sub

-- what a workspace that a Task declares is bound to
abbrev pub bound_space : List Space → SpaceSpec → Option Space
bound_space bound spec = find (λ (space : Space). bytes_eq space.name spec.name) bound

-- the folders of the workspaces that are bound, in the order of the Task's declarations
abbrev pub folders_of : List ℕ → List ℕ → List SpaceSpec → List Space → List (List ℕ)
folders_of root pod specs bound = filter_map (λ (spec : SpaceSpec). option_map (space_folder root pod) (bound_space bound spec)) specs

-- `true` or `false`
abbrev pub bool_text : Bool → List ℕ
bool_text test = if test then codes "true" else codes "false"

-- a word of a workspace
abbrev pub space_word : List ℕ → List ℕ → List ℕ → Pair
space_word name end value = record { key = codes "workspaces." ++ name ++ end; value = value }

-- the texts of its words: its folder, whether it is bound, and the name of its claim
abbrev pub path_text : List ℕ → List ℕ → Option Space → List ℕ
path_text root pod space = option_map_or (space_folder root pod) space []

abbrev pub bound_text : Option Space → List ℕ
bound_text space = bool_text (is_some space)

abbrev pub claim_text : Option Space → List ℕ
claim_text space = option_map_or (λ (s : Space). unwrap_or s.claim []) space []

-- the words of a workspace of this name that is bound so
abbrev pub words_with : List ℕ → List ℕ → List ℕ → Option Space → List Pair
words_with root pod name space =
    space_word name (codes ".path") (path_text root pod space)
    ∷ space_word name (codes ".bound") (bound_text space)
    ∷ space_word name (codes ".claim") (claim_text space)
    ∷ []

-- the words of a workspace that a Task declares
abbrev pub words_of_space : List ℕ → List ℕ → List Space → SpaceSpec → List Pair
words_of_space root pod bound spec = words_with root pod spec.name (bound_space bound spec)
