-- Names that are gathered one after another.
use Rattle.std.proofs.Common.{◌≡◌, ℕ, ◌<◌, List, [], ◌∷◌, ◌++◌, length, get_or, true, false, sym, ◌∙◌}
use Rattle.std.specs.Prelude.{bytes_eq}
use Rattle.std.proofs.lemmas.Bool.{false≢true}
use Rattle.std.proofs.lemmas.List.Folds.{list_any_at}
use Rattle.std.proofs.lemmas.List.Quantifiers.{all_pairs_push}
use Rattle.std.proofs.lemmas.Slice.Eq.{bytes_eq-Decides}
use Rattle.tk_types.specs.Names.{is_in}
use Rattle.tk_admit.specs.Apart.{Differ}

-- a text that is there is found
pub found_there : (texts : List (List ℕ)) (k : ℕ) (d : List ℕ) (text : List ℕ) → k < length texts → text ≡ get_or texts k d → is_in texts text ≡ true
found_there texts k d text within is =
    list_any_at (bytes_eq text) texts k d within ((bytes_eq-Decides text (get_or texts k d)).1 is)

-- one that isn't there differs from all
pub differ_more : (texts : List (List ℕ)) (text : List ℕ) → Differ texts → is_in texts text ≡ false → Differ (texts ++ text ∷ [])
differ_more texts text differ new =
    all_pairs_push (λ (a b : List ℕ). a ≡ b → ⊥) texts text differ
    (λ k d within same. false≢true (sym new ∙ found_there texts k d text within (sym same)))
