-- Ascending lists of places: two with the same places are one list.
use Rattle.std.proofs.Common.{◌≡◌, ℕ, suc, ◌+◌, ◌<◌, ◌≤◌, Bool, true, false, cond, not, ◌||◌, eqb, List, [], ◌∷◌, map, length, get_or, Option, Some, None, refl, sym, ap, ◌∙◌, subst, inl, inr, arith, bytes_eq}
use Rattle.std.specs.Prelude.{slice_get}
use Rattle.std.specs.List.{enumerate_from, filter, list_any, dedup, flat_map}
use Rattle.std.specs.List.Sorted.{IsStrictlyIncreasing, IsSorted, IsPermutation}
use Rattle.std.specs.Ordering.{nat_cmp}
use Rattle.std.specs.Option.{option_map_or}
use Rattle.std.proofs.lemmas.Bool.{false≢true, cases_eq, ne_eqb, false_from_ne_true}
use Rattle.std.proofs.lemmas.List.Folds.{list_any-append}
use Rattle.std.proofs.lemmas.List.Kept.{Contains-dedup_nat, Contains-from_dedup}
use Rattle.std.proofs.lemmas.List.Sorted.{list_any-IsPermutation}
use Rattle.std.proofs.lemmas.Map.Keys.{IsStrictlyIncreasing-dedup}
use Rattle.tk_types.specs.Lists.{places_where}
use Rattle.tk_types.specs.declared.task.PipelineTask.{PipelineTask}
use Rattle.tk_graph.specs.Cycle.{is_among}
use Rattle.tk_graph.specs.Index.{places_of_name}
use Rattle.tk_graph.proofs.Among.{among-head, among_cases, among-from_Contains, Contains-from_among}
use Rattle.tk_graph.proofs.TaskParents.{passes_at, places_from, among-places_where}

-- each is above the one before it, and the first not below a
abbrev pub Rising : ℕ → List ℕ → Type 0
Rising a [] = Unit {0}
Rising a (x ∷ xs) = (a ≤ x) × Rising (suc x) xs

rising-lower : (a : ℕ) (xs : List ℕ) (x : ℕ) → Rising a xs → is_among xs x ≡ true → a ≤ x
rising-lower a [] x r h = absurd (false≢true h)
rising-lower a (y ∷ xs) x r h =
    elim (among_cases y xs x h) [
      | inl same ↦ omega (arith, r.0, same)
      | inr rest ↦ let low = rising-lower (suc y) xs x r.1 rest in omega (arith, low, r.0)
    ]

rising-weaker : (a b : ℕ) (xs : List ℕ) → a ≤ b → Rising b xs → Rising a xs
rising-weaker a b [] le r = tt
rising-weaker a b (x ∷ xs) le r = (omega (arith, le, r.0), r.1)

not_below : (a : ℕ) (xs : List ℕ) (x : ℕ) → Rising (suc a) xs → x ≡ a → is_among xs x ≡ false
not_below a xs x r e = false_from_ne_true (is_among xs x) (λ h. let low = rising-lower (suc a) xs x r h in omega arith)

same_tail : (x : ℕ) (xs ys : List ℕ) → Rising (suc x) xs → Rising (suc x) ys → (z : ℕ) → is_among (x ∷ xs) z ≡ is_among (x ∷ ys) z → is_among xs z ≡ is_among ys z
same_tail x xs ys rx ry z e =
    elim (cases_eq z x) [
      | inl same ↦ not_below x xs z rx same ∙ sym (not_below x ys z ry same)
      | inr other ↦ sym (ap (λ b. b || is_among xs z) (ne_eqb z x other)) ∙ (e ∙ ap (λ b. b || is_among ys z) (ne_eqb z x other))
    ]

same_heads : (x y : ℕ) (xs ys : List ℕ) → x ≡ y → Rising (suc x) xs → Rising (suc y) ys → ((z : ℕ) → is_among (x ∷ xs) z ≡ is_among (y ∷ ys) z)
    → ((zs : List ℕ) → Rising (suc x) zs → ((z : ℕ) → is_among xs z ≡ is_among zs z) → xs ≡ zs) → x ∷ xs ≡ y ∷ ys
same_heads x y xs ys e rx ry same rest =
    let r : Rising (suc x) ys = subst (λ v. Rising (suc v) ys) (sym e) ry in
    let at_x : (z : ℕ) → is_among (x ∷ xs) z ≡ is_among (x ∷ ys) z = λ z. same z ∙ ap (λ v. is_among (v ∷ ys) z) (sym e) in
    ap (λ zs. x ∷ zs) (rest ys r (λ z. same_tail x xs ys rx r z (at_x z))) ∙ ap (λ v. v ∷ ys) e

pub same_rising : (a : ℕ) (xs ys : List ℕ) → Rising a xs → Rising a ys → ((z : ℕ) → is_among xs z ≡ is_among ys z) → xs ≡ ys
same_rising a [] [] rx ry same = refl
same_rising a [] (y ∷ ys) rx ry same = absurd (false≢true (same y ∙ among-head y ys))
same_rising a (x ∷ xs) [] rx ry same = absurd (false≢true (sym (same x) ∙ among-head x xs))
same_rising a (x ∷ xs) (y ∷ ys) rx ry same =
    let low = rising-lower y (y ∷ ys) x (omega arith, ry.1) (sym (same x) ∙ among-head x xs) in
    let high = rising-lower x (x ∷ xs) y (omega arith, rx.1) (same y ∙ among-head y ys) in
    same_heads x y xs ys (omega arith) rx.1 ry.1 same (λ zs r e. same_rising (suc x) xs zs rx.1 r e)

rising-from : (a : ℕ) (xs : List ℕ) → (0 < length xs → a ≤ get_or xs 0 0) → IsStrictlyIncreasing xs → Rising a xs
rising-from a [] first up = tt
rising-from a (x ∷ xs) first up = (
  first (omega arith),
  rising-from (suc x) xs
      (λ some. let e : x < get_or xs 0 0 = up 0 (omega arith) in omega arith)
      (λ k lt. let e : suc k + 1 ≡ suc (k + 1) = omega arith in subst (λ j. get_or xs k 0 < get_or (x ∷ xs) j 0) e (up (suc k) (omega arith))),
)

places-cond : (b : Bool) (n : ℕ) {X : Type 0} (x : X) (es : List (ℕ × X)) → Rising (n + 1) (map (λ (e : ℕ × X). e.0) es) → Rising n (map (λ (e : ℕ × X). e.0) (cond b ((n, x) ∷ es) es))
places-cond true n x es r = (omega arith, rising-weaker (suc n) (n + 1) (map (λ e. e.0) es) (omega arith) r)
places-cond false n x es r = rising-weaker n (n + 1) (map (λ e. e.0) es) (omega arith) r

rising-places : {X : Type 0} (n : ℕ) (test : X → Bool) (xs : List X) → Rising n (places_from n test xs)
rising-places n test [] = tt
rising-places {X} n test (x ∷ xs) =
    places-cond (test x) n x (filter (λ (e : ℕ × X). test e.1) (enumerate_from (n + 1) xs)) (rising-places (n + 1) test xs)

-- what a filter of places is, by what stands in it
pub places_are : {X : Type 0} (test : X → Bool) (xs : List X) (ys : List ℕ) → IsStrictlyIncreasing ys → ((z : ℕ) → is_among ys z ≡ passes_at test xs z) → ys ≡ places_where test xs
places_are test xs ys up same =
    same_rising 0 ys (places_where test xs) (rising-from 0 ys (λ some. omega arith) up) (rising-places 0 test xs)
    (λ z. same z ∙ sym (among-places_where test xs z))

same_answer : (x y : Bool) → (x ≡ true → y ≡ true) → (y ≡ true → x ≡ true) → x ≡ y
same_answer true true f g = refl
same_answer true false f g = sym (f refl)
same_answer false true f g = g refl
same_answer false false f g = refl

-- sorted and without repeats a list has the same places
pub among-sorted : (xs ys : List ℕ) → IsPermutation xs ys → (z : ℕ) → is_among (dedup eqb ys) z ≡ is_among xs z
among-sorted xs ys moved z =
    same_answer (is_among (dedup eqb ys) z) (is_among ys z)
    (λ h. among-from_Contains ys z (Contains-from_dedup eqb ys z (Contains-from_among (dedup eqb ys) z h)))
    (λ h. among-from_Contains (dedup eqb ys) z (Contains-dedup_nat ys z (Contains-from_among ys z h)))
    ∙ sym (list_any-IsPermutation (λ p. eqb z p) xs ys moved)

-- the places of some names
among-of_names : (tasks : List PipelineTask) (names : List (List ℕ)) (z : ℕ) → is_among (flat_map (places_of_name tasks) names) z ≡ list_any (λ name. passes_at (λ (t : PipelineTask). bytes_eq name t.name) tasks z) names
among-of_names tasks [] z = refl
among-of_names tasks (name ∷ names) z =
    list_any-append (λ p. eqb z p) (places_of_name tasks name) (flat_map (places_of_name tasks) names)
    ∙ (ap (λ b. b || is_among (flat_map (places_of_name tasks) names) z) (among-places_where (λ (t : PipelineTask). bytes_eq name t.name) tasks z)
    ∙ ap (λ b. passes_at (λ (t : PipelineTask). bytes_eq name t.name) tasks z || b) (among-of_names tasks names z))

any_of_none : (names : List (List ℕ)) → list_any (λ name. false) names ≡ false
any_of_none [] = refl
any_of_none (name ∷ names) = any_of_none names

any_at : (found : Option PipelineTask) (names : List (List ℕ))
    → list_any (λ name. option_map_or (λ (t : PipelineTask). bytes_eq name t.name) found false) names ≡ option_map_or (λ (t : PipelineTask). list_any (λ name. bytes_eq name t.name) names) found false
any_at None names = any_of_none names
any_at (Some t) names = refl

pub places_of_names : (tasks : List PipelineTask) (names : List (List ℕ)) (ys : List ℕ) → IsPermutation (flat_map (places_of_name tasks) names) ys → IsSorted nat_cmp ys
    → dedup eqb ys ≡ places_where (λ (t : PipelineTask). list_any (λ name. bytes_eq name t.name) names) tasks
places_of_names tasks names ys moved sorted =
    places_are (λ (t : PipelineTask). list_any (λ name. bytes_eq name t.name) names) tasks (dedup eqb ys) (IsStrictlyIncreasing-dedup ys sorted)
    (λ z. among-sorted (flat_map (places_of_name tasks) names) ys moved z ∙ (among-of_names tasks names z ∙ any_at (slice_get tasks z) names))

some-cond : (b : Bool) {X : Type 0} (x : ℕ × X) (es : List (ℕ × X)) (any : Bool) → not (eqb (length (map (λ (e : ℕ × X). e.0) es)) 0) ≡ any → not (eqb (length (map (λ (e : ℕ × X). e.0) (cond b (x ∷ es) es))) 0) ≡ (b || any)
some-cond true {X} x es any h = ap not (ne_eqb (suc (length (map (λ (e : ℕ × X). e.0) es))) 0 (λ e. omega arith))
some-cond false x es any h = h

some_place : {X : Type 0} (n : ℕ) (test : X → Bool) (xs : List X) → not (eqb (length (places_from n test xs)) 0) ≡ list_any test xs
some_place n test [] = refl
some_place {X} n test (x ∷ xs) = some-cond (test x) (n, x) (filter (λ (e : ℕ × X). test e.1) (enumerate_from (n + 1) xs)) (list_any test xs) (some_place (n + 1) test xs)

-- there is a place exactly where something passes
pub is_some_place : {X : Type 0} (test : X → Bool) (xs : List X) → not (eqb (length (places_where test xs)) 0) ≡ list_any test xs
is_some_place test xs = some_place 0 test xs
