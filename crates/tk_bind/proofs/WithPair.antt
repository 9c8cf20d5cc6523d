-- Steps of a walk to the place of a pair.
use Rattle.std.proofs.Common.{◌≡◌, ℕ, suc, ◌+◌, ◌<◌, ◌≤◌, List, [], ◌∷◌, ◌++◌, length, get_or, take, drop, refl, sym, ap, ◌∙◌, append_assoc, add-one, drop-cons}
use Rattle.std.specs.Ordering.{nat_cmp}
use Rattle.std.specs.declared.cmp.Ordering.TheVariants.{Less, Equal, Greater}
use Rattle.std.specs.Cmp.Lexicographic.{slice_cmp}
use Rattle.std.specs.List.{insert}
use Rattle.std.proofs.Math.ListN.{drop_of_length-le}
use Rattle.std.proofs.lemmas.List.{append-nil, take_more, take-append-drop}
use Rattle.tk_types.specs.declared.value.Pair.{Pair}
use Rattle.tk_bind.specs.Bind.{with_pair}

pub with_pair-less : (p pair : Pair) (ps : List Pair) → slice_cmp nat_cmp pair.key p.key ≡ Less → with_pair (p ∷ ps) pair ≡ pair ∷ p ∷ ps
with_pair-less p pair ps e = rw (e, with_pair) refl

pub with_pair-equal : (p pair : Pair) (ps : List Pair) → slice_cmp nat_cmp pair.key p.key ≡ Equal → with_pair (p ∷ ps) pair ≡ p ∷ ps
with_pair-equal p pair ps e = rw (e, with_pair) refl

pub with_pair-greater : (p pair : Pair) (ps : List Pair) → slice_cmp nat_cmp pair.key p.key ≡ Greater → with_pair (p ∷ ps) pair ≡ p ∷ with_pair ps pair
with_pair-greater p pair ps e = rw (e, with_pair) refl

-- the rest begins with the element at i
pub drop_at : {X : Type 0} (xs : List X) (i : ℕ) (x : X) → i < length xs → x ≡ get_or xs i x → drop i xs ≡ x ∷ drop (i + 1) xs
drop_at xs i x lt is = drop-cons xs i x lt ∙ (ap (λ y. y ∷ drop (suc i) xs) (sym is) ∙ ap (λ n. x ∷ drop n xs) (sym (add-one i)))

pub stops_before : (first pairs all : List Pair) (pair copy p : Pair) (i : ℕ) → i < length pairs → p ≡ get_or pairs i p → slice_cmp nat_cmp pair.key p.key ≡ Less → with_pair pairs pair ≡ take i pairs ++ with_pair (drop i pairs) pair → pairs ≡ first → all ≡ insert pairs i copy → copy ≡ pair → all ≡ with_pair first pair
stops_before first pairs all pair copy p i lt is less e same is_all is_copy =
    let at = drop_at pairs i p lt is in
    let put = e ∙ (ap (λ ps. take i pairs ++ with_pair ps pair) at ∙ (ap (λ ps. take i pairs ++ ps) (with_pair-less p pair (drop (i + 1) pairs) less) ∙ ap (λ ps. take i pairs ++ pair ∷ ps) (sym at))) in
    is_all ∙ (ap (insert pairs i) is_copy ∙ (sym put ∙ ap (λ ps. with_pair ps pair) same))

pub stops_at : (first pairs : List Pair) (pair p : Pair) (i : ℕ) → i < length pairs → p ≡ get_or pairs i p → slice_cmp nat_cmp pair.key p.key ≡ Equal → with_pair pairs pair ≡ take i pairs ++ with_pair (drop i pairs) pair → pairs ≡ first → pairs ≡ with_pair first pair
stops_at first pairs pair p i lt is equal e same =
    let at = drop_at pairs i p lt is in
    let put = e ∙ (ap (λ ps. take i pairs ++ with_pair ps pair) at ∙ (ap (λ ps. take i pairs ++ ps) (with_pair-equal p pair (drop (i + 1) pairs) equal ∙ sym at) ∙ take-append-drop i pairs)) in
    sym put ∙ ap (λ ps. with_pair ps pair) same

pub goes_on : (pairs : List Pair) (pair p : Pair) (i : ℕ) → i < length pairs → p ≡ get_or pairs i p → slice_cmp nat_cmp pair.key p.key ≡ Greater → with_pair pairs pair ≡ take i pairs ++ with_pair (drop i pairs) pair → with_pair pairs pair ≡ take (i + 1) pairs ++ with_pair (drop (i + 1) pairs) pair
goes_on pairs pair p i lt is greater e =
    let at = drop_at pairs i p lt is in
    e
    ∙ (ap (λ ps. take i pairs ++ with_pair ps pair) at
    ∙ (ap (λ ps. take i pairs ++ ps) (with_pair-greater p pair (drop (i + 1) pairs) greater)
    ∙ (sym (append_assoc (take i pairs) (p ∷ []) (with_pair (drop (i + 1) pairs) pair))
    ∙ ap (λ ps. ps ++ with_pair (drop (i + 1) pairs) pair) (sym (take_more pairs i p lt ∙ ap (λ y. take i pairs ++ y ∷ []) (sym is))))))

take_past : {X : Type 0} (xs : List X) (i : ℕ) → length xs ≤ i → take i xs ≡ xs
take_past xs i le = sym (append-nil (take i xs)) ∙ (ap (λ ys. take i xs ++ ys) (sym (drop_of_length-le xs le)) ∙ take-append-drop i xs)

pub goes_last : (first pairs all : List Pair) (pair copy : Pair) (i : ℕ) → length pairs ≤ i → with_pair pairs pair ≡ take i pairs ++ with_pair (drop i pairs) pair → pairs ≡ first → all ≡ pairs ++ copy ∷ [] → copy ≡ pair → all ≡ with_pair first pair
goes_last first pairs all pair copy i le e same is_all is_copy =
    let put = e ∙ (ap (λ ps. take i pairs ++ with_pair ps pair) (drop_of_length-le pairs le) ∙ ap (λ ps. ps ++ pair ∷ []) (take_past pairs i le)) in
    is_all ∙ (ap (λ p. pairs ++ p ∷ []) is_copy ∙ (sym put ∙ ap (λ ps. with_pair ps pair) same))
