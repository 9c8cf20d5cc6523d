-- Examples of lines, which compute.
use Rattle.std.proofs.Common.{◌≡◌, true, false, refl, [], ◌∷◌, Some, None, codes}
use Rattle.tk_words.specs.declared.line.Name.TheVariants.{Check, Generate, Run, Simulate}
use Rattle.tk_words.specs.Line.{line_of}
use Rattle.tk_words.specs.Ordered.{ordered}

check_stands_alone : line_of (codes "check" ∷ []) ≡ Some record { name = Check; json = false; run = false; root = None; others = [] }
check_stands_alone = refl

check_takes_no_dashes : line_of (codes "check" ∷ codes "--" ∷ []) ≡ None
check_takes_no_dashes = refl

simulate_takes_dashes : line_of (codes "simulate" ∷ codes "--json" ∷ codes "--" ∷ []) ≡ Some record { name = Simulate; json = true; run = false; root = None; others = [] }
simulate_takes_dashes = refl

options_anywhere : line_of (codes "run" ∷ codes "a=Start@0" ∷ codes "--root=/a=b" ∷ codes "--json" ∷ codes "--" ∷ codes "--json" ∷ [])
    ≡ Some record { name = Run; json = true; run = false; root = Some (codes "/a=b"); others = codes "a=Start@0" ∷ codes "--json" ∷ [] }
options_anywhere = refl

a_folder_is_awaited : line_of (codes "run" ∷ codes "--root" ∷ []) ≡ None
a_folder_is_awaited = refl

a_root_is_absolute : line_of (codes "run" ∷ codes "--root" ∷ codes "--json" ∷ []) ≡ None
a_root_is_absolute = refl

an_option_stands_once : line_of (codes "generate" ∷ codes "--run" ∷ codes "1" ∷ codes "--run" ∷ []) ≡ None
an_option_stands_once = refl

no_words : line_of [] ≡ None
no_words = refl

in_order : ordered (record { name = Generate; json = false; run = true; root = None; others = codes "1" ∷ codes "2" ∷ [] })
    ≡ codes "tkn" ∷ codes "generate" ∷ codes "--run" ∷ codes "--" ∷ codes "1" ∷ codes "2" ∷ []
in_order = refl

root_in_order : ordered (record { name = Run; json = true; run = false; root = Some (codes "/a"); others = codes "r=Start@0" ∷ [] })
    ≡ codes "tkn" ∷ codes "run" ∷ codes "--json" ∷ codes "--root" ∷ codes "/a" ∷ codes "--" ∷ codes "r=Start@0" ∷ []
root_in_order = refl
