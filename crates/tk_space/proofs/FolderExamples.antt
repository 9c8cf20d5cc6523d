-- Folders and words that are worked out.
use Rattle.std.proofs.Common.{◌≡◌, ℕ, List, [], ◌∷◌, refl}
use Rattle.std.specs.Prelude.{codes, Option, Some, None, false, map, flat_map}
use Rattle.tk_types.specs.declared.task.Space.{Space}
use Rattle.tk_types.specs.declared.task.SpaceSpec.{SpaceSpec}
use Rattle.tk_types.specs.declared.value.Pair.{Pair}
use Rattle.tk_space.specs.Space.{folders_of, space_folder, words_of_space}

abbrev space : List ℕ → Option (List ℕ) → List ℕ → Space
space name claim sub = record { name = name; claim = claim; sub = sub }

abbrev declared : List ℕ → SpaceSpec
declared name = record { name = name; optional = false }

abbrev word : List ℕ → List ℕ → Pair
word key value = record { key = key; value = value }

abbrev root : List ℕ
root = codes "/work"

abbrev pod : List ℕ
pod = codes "r-a-pod-2"

own_folder : space_folder root pod (space (codes "ws") None (codes "x")) ≡ codes "/work/r-a-pod-2/ws/ws/x"
own_folder = refl

whole_own_folder : space_folder root pod (space (codes "ws") None []) ≡ codes "/work/r-a-pod-2/ws/ws"
whole_own_folder = refl

claim_folder : space_folder root pod (space (codes "ws") (Some (codes "c")) []) ≡ codes "/work/claims/c"
claim_folder = refl

folder_in_claim : space_folder root pod (space (codes "ws") (Some (codes "c")) (codes "x/y")) ≡ codes "/work/claims/c/x/y"
folder_in_claim = refl

-- one is bound to a claim, one isn't bound, and one has a folder of its own

abbrev specs : List SpaceSpec
specs = declared (codes "a") ∷ declared (codes "b") ∷ declared (codes "c") ∷ []

abbrev bound : List Space
bound = space (codes "a") (Some (codes "d")) [] ∷ space (codes "c") None [] ∷ []

words_of_three :
    flat_map (words_of_space root pod bound) specs
    ≡ word (codes "workspaces.a.path") (codes "/work/claims/d")
    ∷ word (codes "workspaces.a.bound") (codes "true")
    ∷ word (codes "workspaces.a.claim") (codes "d")
    ∷ word (codes "workspaces.b.path") []
    ∷ word (codes "workspaces.b.bound") (codes "false")
    ∷ word (codes "workspaces.b.claim") []
    ∷ word (codes "workspaces.c.path") (codes "/work/r-a-pod-2/ws/c")
    ∷ word (codes "workspaces.c.bound") (codes "true")
    ∷ word (codes "workspaces.c.claim") []
    ∷ []
words_of_three = refl

folders_of_three : map (space_folder root pod) bound ≡ codes "/work/claims/d" ∷ codes "/work/r-a-pod-2/ws/c" ∷ []
folders_of_three = refl

folders_by_declarations : folders_of root pod specs bound ≡ map (space_folder root pod) bound
folders_by_declarations = refl
