-- Members that are moved one by one into other vectors.
use Rattle.std.proofs.Common.{◌≡◌, ℕ, suc, ◌+◌, ◌*◌, List, [], ◌∷◌, ◌++◌, length, map, length-append, append-nil, append_assoc, arith, refl, sym, ap, ◌∙◌, Some}
use Rattle.std.specs.Prelude.{slice_get}
use Rattle.std.proofs.lemmas.List.{map-append}

pub made_next : {X Y : Type 0} (f : X → Y) (made new : List Y) (ys : List X) (x : X) (y : Y) → made ≡ map f ys → new ≡ made ++ y ∷ [] → y ≡ f x → new ≡ map f (ys ++ x ∷ [])
made_next f made new ys x y was is same = is ∙ ((λ i. was i ++ same i ∷ []) ∙ sym (map-append f ys (x ∷ [])))

pub rest_next : {X : Type 0} (all ys : List X) (x : X) (old new : List X) → all ≡ ys ++ old → old ≡ x ∷ new → all ≡ (ys ++ x ∷ []) ++ new
rest_next all ys x old new is front = is ∙ (ap (λ l. ys ++ l) front ∙ sym (append_assoc ys (x ∷ []) new))

at_next : {X : Type 0} (ys : List X) (x : X) (new : List X) → slice_get (ys ++ x ∷ new) (length ys) ≡ Some x
at_next [] x new = refl
at_next (y ∷ ys) x new = at_next ys x new

pub place_next : {X : Type 0} (all ys : List X) (x : X) (old new : List X) → all ≡ ys ++ old → old ≡ x ∷ new → slice_get all (length ys) ≡ Some x
place_next all ys x old new is front = ap (λ l. slice_get l (length ys)) (is ∙ ap (λ l. ys ++ l) front) ∙ at_next ys x new

pub more_next : {X : Type 0} (ys : List X) (x : X) (o k : ℕ) → o ≡ 2 * length ys + k → o + 2 ≡ 2 * length (ys ++ x ∷ []) + k
more_next ys x o k is = omega (arith, is, length-append ys (x ∷ []))

pub len_next : {X : Type 0} (x : X) (old new : List X) (n m : ℕ) → old ≡ x ∷ new → m + 1 ≡ n → n ≡ length old → m ≡ length new
len_next x old new n m front step is = let k : length old ≡ suc (length new) = ap length front in omega (arith, step, is, k)

pub all_made : {X Y : Type 0} (f : X → Y) (made : List Y) (all ys old : List X) (n : ℕ) → made ≡ map f ys → all ≡ ys ++ old → n ≡ length old → n ≡ 0 → made ≡ map f all
all_made f made all ys [] n was is len none = was ∙ ap (map f) (sym (is ∙ append-nil ys))
all_made f made all ys (x ∷ old) n was is len none = absurd (omega (arith, len, none))
