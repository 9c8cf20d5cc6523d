-- Folders that are apart.
use Rattle.std.specs.Prelude.{◌≡◌, ◌≢◌, ◌⊎◌, ℕ, List, filter_map, map}
use Rattle.std.specs.List.{AllByRecursion}
use Rattle.tk_types.specs.declared.task.Space.{Space}
use Rattle.tk_types.specs.declared.task.SpaceSpec.{SpaceSpec}
use Rattle.tk_space.specs.Space.{below, bound_space, folders_of, space_folder}

-- a name without a slash
abbrev pub IsName : List ℕ → Type 0
IsName name = AllByRecursion (λ (byte : ℕ). byte ≢ 47) name

-- a path that goes on behind a folder and a slash
abbrev pub LiesUnder : List ℕ → List ℕ → Type 0
LiesUnder folder path = (rest : List ℕ) × (path ≡ below folder rest)

-- a path that is a folder or lies under it
abbrev pub IsWithin : List ℕ → List ℕ → Type 0
IsWithin folder path = (path ≡ folder) ⊎ LiesUnder folder path

-- the bound workspaces are those of the declarations that are bound, in their order
abbrev pub IsInOrder : List SpaceSpec → List Space → Type 0
IsInOrder specs bound = filter_map (bound_space bound) specs ≡ bound

-- the folders of the bound workspaces are those of the declarations that are bound
abbrev pub FoldersFollow : List ℕ → List ℕ → List SpaceSpec → List Space → Type 0
FoldersFollow root pod specs bound = map (space_folder root pod) bound ≡ folders_of root pod specs bound
