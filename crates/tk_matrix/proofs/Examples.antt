-- The matrix of Tekton's documentation.
use Rattle.std.proofs.Common.{◌≡◌, ℕ, List, [], ◌∷◌, refl}
use Rattle.std.specs.Prelude.{codes}
use Rattle.tk_types.specs.declared.value.Param.{Param}
use Rattle.tk_types.specs.declared.value.Value.TheVariants.{Str, Arr}
use Rattle.tk_types.specs.declared.task.Matrix.{Matrix}
use Rattle.tk_matrix.specs.Combinations.{combination_count, combinations}

abbrev text : List ℕ → List ℕ → Param
text name value = record { name = name; value = Str value }

abbrev go_matrix : Matrix
go_matrix =
    record {
      params =
          record { name = codes "GOARCH"; value = Arr (codes "linux/amd64" ∷ codes "linux/ppc64le" ∷ codes "linux/s390x" ∷ []) }
          ∷ record { name = codes "version"; value = Arr (codes "go1.17" ∷ codes "go1.18.1" ∷ []) }
          ∷ [];
      include =
          (text (codes "package") (codes "path/to/common/package/") ∷ [])
          ∷ (text (codes "GOARCH") (codes "linux/s390x") ∷ text (codes "flags") (codes "-cover -v") ∷ [])
          ∷ (text (codes "version") (codes "go1.17") ∷ text (codes "context") (codes "path/to/go117/context") ∷ [])
          ∷ (text (codes "GOARCH") (codes "I-do-not-exist") ∷ [])
          ∷ [];
    }

abbrev amd64 : Param
amd64 = text (codes "GOARCH") (codes "linux/amd64")

abbrev ppc64le : Param
ppc64le = text (codes "GOARCH") (codes "linux/ppc64le")

abbrev s390x : Param
s390x = text (codes "GOARCH") (codes "linux/s390x")

abbrev go1_17 : Param
go1_17 = text (codes "version") (codes "go1.17")

abbrev go1_18_1 : Param
go1_18_1 = text (codes "version") (codes "go1.18.1")

abbrev common : Param
common = text (codes "package") (codes "path/to/common/package/")

abbrev flags : Param
flags = text (codes "flags") (codes "-cover -v")

abbrev context : Param
context = text (codes "context") (codes "path/to/go117/context")

seven_combinations : combinations go_matrix
    ≡ (amd64 ∷ go1_17 ∷ common ∷ context ∷ [])
    ∷ (ppc64le ∷ go1_17 ∷ common ∷ context ∷ [])
    ∷ (s390x ∷ go1_17 ∷ common ∷ flags ∷ context ∷ [])
    ∷ (amd64 ∷ go1_18_1 ∷ common ∷ [])
    ∷ (ppc64le ∷ go1_18_1 ∷ common ∷ [])
    ∷ (s390x ∷ go1_18_1 ∷ common ∷ flags ∷ [])
    ∷ (text (codes "GOARCH") (codes "I-do-not-exist") ∷ [])
    ∷ []
seven_combinations = refl

empty_list : combination_count (record { params = record { name = codes "p"; value = Arr [] } ∷ []; include = (text (codes "q") (codes "x") ∷ []) ∷ [] }) ≡ 0
empty_list = refl

abbrev entry : Param → Param → List Param
entry p q = p ∷ q ∷ []

-- without lists each entry is a combination, also where two are the same
entries_alone : combinations (record { params = []; include = entry common flags ∷ entry common flags ∷ [] }) ≡ entry common flags ∷ entry common flags ∷ []
entries_alone = refl

-- no combination has two texts under one name, so an entry that gives two is a combination of its own
two_texts : combinations (record { params = record { name = codes "p"; value = Arr (codes "x" ∷ codes "y" ∷ []) } ∷ []; include = entry (text (codes "p") (codes "x")) (text (codes "p") (codes "y")) ∷ [] })
    ≡ (text (codes "p") (codes "x") ∷ [])
    ∷ (text (codes "p") (codes "y") ∷ [])
    ∷ entry (text (codes "p") (codes "x")) (text (codes "p") (codes "y"))
    ∷ []
two_texts = refl

-- a list in an entry agrees with no text
list_in_entry : combinations (record { params = record { name = codes "p"; value = Arr (codes "x" ∷ []) } ∷ []; include = (record { name = codes "p"; value = Arr (codes "x" ∷ []) } ∷ []) ∷ [] })
    ≡ (text (codes "p") (codes "x") ∷ [])
    ∷ (record { name = codes "p"; value = Arr (codes "x" ∷ []) } ∷ [])
    ∷ []
list_in_entry = refl

-- a later entry overwrites in place what an earlier one added, and a new name goes last
overwritten : combinations (record { params = record { name = codes "p"; value = Arr (codes "x" ∷ []) } ∷ []; include = entry common flags ∷ entry context (text (codes "package") (codes "y")) ∷ [] })
    ≡ (text (codes "p") (codes "x") ∷ text (codes "package") (codes "y") ∷ flags ∷ context ∷ []) ∷ []
overwritten = refl
