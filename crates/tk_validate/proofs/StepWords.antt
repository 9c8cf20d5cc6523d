-- The words of a Task's workspaces.
use Rattle.std.proofs.Common.{◌≡◌, List, [], ◌∷◌, ◌++◌, refl, ap, ◌∙◌, append_assoc}
use Rattle.std.specs.List.{flat_map}
use Rattle.std.proofs.lemmas.List.{map-append}
use Rattle.tk_types.specs.declared.value.Pair.{Pair}
use Rattle.tk_types.specs.declared.task.SpaceSpec.{SpaceSpec}
use Rattle.tk_bind.specs.Fits.{space_words, words_of_space}
use Rattle.tk_validate.specs.Seen.{keys}

-- three more elements
pub three_pushed : {X : Type 0} (old one two all : List X) (a b c x y z : X) → one ≡ old ++ a ∷ [] → two ≡ one ++ b ∷ [] → all ≡ two ++ c ∷ [] → a ≡ x → b ≡ y → c ≡ z → all ≡ old ++ x ∷ y ∷ z ∷ []
three_pushed old one two all a b c x y z e1 e2 e3 ax by cz =
    let f = append_assoc old (x ∷ []) (y ∷ []) in
    let g = append_assoc old (x ∷ y ∷ []) (z ∷ []) in
    cc

-- the words of all are those of each
pub keys_each : (spaces : List SpaceSpec) → keys (space_words spaces) ≡ flat_map (λ (s : SpaceSpec). keys (words_of_space s.name)) spaces
keys_each [] = refl
keys_each (s ∷ spaces) =
    map-append (λ (p : Pair). p.key) (words_of_space s.name) (space_words spaces) ∙ ap (λ ks. keys (words_of_space s.name) ++ ks) (keys_each spaces)
