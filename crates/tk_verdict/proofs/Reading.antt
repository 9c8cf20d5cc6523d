-- What was read in a list at a place.
use Rattle.std.proofs.Common.{◌≡◌, ℕ, ◌<◌, List, length, get_or, Some, sym, ap, ◌∙◌, subst}
use Rattle.std.specs.Prelude.{All, slice_get}
use Rattle.std.proofs.lemmas.Option.{slice_get-get_or}

-- it has what all have
pub read_has : {X : Type 0} (P : X → Type 0) (xs ys : List X) (i : ℕ) (x : X) → All P ys → i < length ys → xs ≡ ys → x ≡ get_or xs i x → P x
read_has P xs ys i x all lt same is = subst P (sym (is ∙ ap (λ zs. get_or zs i x) same)) (all i x lt)

-- it is found there
pub read_found : {X : Type 0} (xs ys : List X) (i : ℕ) (x : X) → i < length ys → xs ≡ ys → x ≡ get_or xs i x → slice_get ys i ≡ Some x
read_found xs ys i x lt same is = slice_get-get_or ys i x lt ∙ ap Some (sym (is ∙ ap (λ zs. get_or zs i x) same))
