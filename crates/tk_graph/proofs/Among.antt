-- Lists of places: what stands in them, filters and the first that passes.
use Rattle.std.proofs.Common.{◌≡◌, ℕ, zero, suc, ◌+◌, ◌<◌, ◌≤◌, Bool, true, false, cond, ◌&&◌, ◌||◌, eqb, List, [], ◌∷◌, ◌++◌, length, get_or, Option, Some, refl, sym, ap, ◌∙◌, inl, inr, ◌⊎◌, arith, zero-add}
use Rattle.std.specs.Prelude.{slice_get, find, Contains}
use Rattle.std.specs.List.{filter, list_any, range_with_len}
use Rattle.std.proofs.lemmas.Bool.{false≢true, eq-eqb, eqb-true, or_left, or_right, or_cases, and_right}
use Rattle.std.proofs.lemmas.List.Folds.{list_any_at}
use Rattle.std.proofs.lemmas.List.FromFn.{length-range_with_len, get_or-range_with_len}
use Rattle.std.proofs.lemmas.List.Sums.{length-filter, count_by-le-length}
use Rattle.std.proofs.lemmas.Map.Views.{Contains-from_any}
use Rattle.tk_graph.specs.Cycle.{is_among}

pub among-head : (y : ℕ) (ys : List ℕ) → is_among (y ∷ ys) y ≡ true
among-head y ys = or_left (eqb y y) (is_among ys y) (eq-eqb y y refl)

pub among-tail : (y : ℕ) (ys : List ℕ) (x : ℕ) → is_among ys x ≡ true → is_among (y ∷ ys) x ≡ true
among-tail y ys x h = or_right (eqb x y) (is_among ys x) h

pub among_cases : (y : ℕ) (ys : List ℕ) (x : ℕ) → is_among (y ∷ ys) x ≡ true → (x ≡ y) ⊎ (is_among ys x ≡ true)
among_cases y ys x h = elim (or_cases (eqb x y) (is_among ys x) h) [ inl e ↦ inl (eqb-true x y e) | inr r ↦ inr r ]

pub among-from_Contains : (xs : List ℕ) (x : ℕ) → Contains xs x → is_among xs x ≡ true
among-from_Contains xs x c = list_any_at (eqb x) xs c.0 x c.1 (eq-eqb x (get_or xs c.0 x) (sym c.2))

pub Contains-from_among : (xs : List ℕ) (x : ℕ) → is_among xs x ≡ true → Contains xs x
Contains-from_among xs x h = Contains-from_any {eq = eqb} (λ a b e. eqb-true a b e) x xs h

pub among-range : (n t : ℕ) → t < n → is_among (range_with_len 0 n) t ≡ true
among-range n t lt =
    list_any_at (eqb t) (range_with_len 0 n) t 0 (rw (length-range_with_len 0 n) lt) (eq-eqb t _ (sym (get_or-range_with_len 0 n t 0 lt ∙ zero-add t)))

pub lt_from_range : (n t : ℕ) → is_among (range_with_len 0 n) t ≡ true → t < n
lt_from_range n t h =
    let c = Contains-from_among (range_with_len 0 n) t h in
    let long = length-range_with_len 0 n in
    let lt : c.0 < n = omega (arith, c.1, long) in
    omega (arith, lt, c.2, get_or-range_with_len 0 n c.0 t lt)

-- two tests that agree on what stands in the list
pub filter_agree_within : (p q : ℕ → Bool) (ys : List ℕ) → ((y : ℕ) → is_among ys y ≡ true → p y ≡ q y) → filter p ys ≡ filter q ys
filter_agree_within p q [] agree = refl
filter_agree_within p q (y ∷ ys) agree =
    ap (λ b. cond b (y ∷ filter p ys) (filter p ys)) (agree y (among-head y ys))
    ∙ ap (λ zs. cond (q y) (y ∷ zs) zs) (filter_agree_within p q ys (λ z h. agree z (among-tail y ys z h)))

filter_true : (ys : List ℕ) → filter (λ _. true) ys ≡ ys
filter_true [] = refl
filter_true (y ∷ ys) = ap (λ zs. y ∷ zs) (filter_true ys)

pub filter_all : (p : ℕ → Bool) (ys : List ℕ) → ((y : ℕ) → is_among ys y ≡ true → p y ≡ true) → filter p ys ≡ ys
filter_all p ys all = filter_agree_within p (λ _. true) ys all ∙ filter_true ys

filter-cond : (b : Bool) (q : ℕ → Bool) (y : ℕ) (zs ws : List ℕ) → filter q zs ≡ ws → filter q (cond b (y ∷ zs) zs) ≡ cond (b && q y) (y ∷ ws) ws
filter-cond true q y zs ws h = ap (λ us. cond (q y) (y ∷ us) us) h
filter-cond false q y zs ws h = h

pub filter-filter : (p q : ℕ → Bool) (ys : List ℕ) → filter q (filter p ys) ≡ filter (λ y. p y && q y) ys
filter-filter p q [] = refl
filter-filter p q (y ∷ ys) = filter-cond (p y) q y (filter p ys) (filter (λ z. p z && q z) ys) (filter-filter p q ys)

bools : (b e a c : Bool) → (e ≡ true → c ≡ b) → cond b (e || (a && c)) (a && c) ≡ ((e || a) && c)
bools true true a c h = sym (h refl)
bools true false a c h = refl
bools false true a c h = and_right a c (h refl) ∙ sym (h refl)
bools false false a c h = refl

among-cond : (b : Bool) (x y : ℕ) (zs : List ℕ) → is_among (cond b (y ∷ zs) zs) x ≡ cond b (eqb x y || is_among zs x) (is_among zs x)
among-cond true x y zs = refl
among-cond false x y zs = refl

pub among-filter : (p : ℕ → Bool) (ys : List ℕ) (x : ℕ) → is_among (filter p ys) x ≡ (is_among ys x && p x)
among-filter p [] x = refl
among-filter p (y ∷ ys) x =
    among-cond (p y) x y (filter p ys)
    ∙ (ap (λ r. cond (p y) (eqb x y || r) r) (among-filter p ys x) ∙ bools (p y) (eqb x y) (is_among ys x) (p x) (λ e. ap p (eqb-true x y e)))

pub length-filter-le : (p : ℕ → Bool) (ys : List ℕ) → length (filter p ys) ≤ length ys
length-filter-le p ys = rw (length-filter p ys) (count_by-le-length p ys)

full-cond : (b : Bool) (y : ℕ) (zs ys : List ℕ) → length zs ≤ length ys → (length zs ≡ length ys → zs ≡ ys) → length (cond b (y ∷ zs) zs) ≡ suc (length ys) → cond b (y ∷ zs) zs ≡ y ∷ ys
full-cond true y zs ys le same e = ap (λ us. y ∷ us) (same (omega arith))
full-cond false y zs ys le same e = absurd (omega arith)

-- a filter that keeps the length keeps all
pub filter_full : (p : ℕ → Bool) (ys : List ℕ) → length (filter p ys) ≡ length ys → filter p ys ≡ ys
filter_full p [] e = refl
filter_full p (y ∷ ys) e = full-cond (p y) y (filter p ys) ys (length-filter-le p ys) (filter_full p ys) e

pub list_any_weaker : (p q : ℕ → Bool) → ((x : ℕ) → p x ≡ true → q x ≡ true) → (xs : List ℕ) → list_any p xs ≡ true → list_any q xs ≡ true
list_any_weaker p q weaker [] h = h
list_any_weaker p q weaker (x ∷ xs) h =
    elim (or_cases (p x) (list_any p xs) h) [
      | inl e ↦ or_left (q x) (list_any q xs) (weaker x e)
      | inr r ↦ or_right (q x) (list_any q xs) (list_any_weaker p q weaker xs r)
    ]

-- what is found, where something passes
abbrev pub Found : (ℕ → Bool) → List ℕ → Type 0
Found p xs = (x : ℕ) × (find p xs ≡ Some x) × (is_among xs x ≡ true) × (p x ≡ true)

found_in_cons : (b : Bool) (p : ℕ → Bool) (x : ℕ) (xs : List ℕ) → p x ≡ b → (list_any p xs ≡ true → Found p xs) → (b || list_any p xs) ≡ true → Found p (x ∷ xs)
found_in_cons true p x xs e rest h = (x, ap (λ b. cond b (Some x) (find p xs)) e, among-head x xs, e)
found_in_cons false p x xs e rest h =
    let f = rest h in
    (f.0, ap (λ b. cond b (Some x) (find p xs)) e ∙ f.1, among-tail x xs f.0 f.2, f.3)

pub found : (p : ℕ → Bool) (xs : List ℕ) → list_any p xs ≡ true → Found p xs
found p [] h = absurd (false≢true h)
found p (x ∷ xs) h = found_in_cons (p x) p x xs refl (found p xs) h

head-cond : (b : Bool) (x : ℕ) (zs : List ℕ) (o : Option ℕ) → slice_get zs 0 ≡ o → slice_get (cond b (x ∷ zs) zs) 0 ≡ cond b (Some x) o
head-cond true x zs o h = refl
head-cond false x zs o h = h

-- the first that a filter keeps
pub head-filter : (p : ℕ → Bool) (xs : List ℕ) → slice_get (filter p xs) 0 ≡ find p xs
head-filter p [] = refl
head-filter p (x ∷ xs) = head-cond (p x) x (filter p xs) (find p xs) (head-filter p xs)

pub find_agree_within : (p q : ℕ → Bool) (ys : List ℕ) → ((y : ℕ) → is_among ys y ≡ true → p y ≡ q y) → find p ys ≡ find q ys
find_agree_within p q [] agree = refl
find_agree_within p q (y ∷ ys) agree =
    ap (λ b. cond b (Some y) (find p ys)) (agree y (among-head y ys))
    ∙ ap (λ o. cond (q y) (Some y) o) (find_agree_within p q ys (λ z h. agree z (among-tail y ys z h)))

pub nil_from_none_among : (xs : List ℕ) → ((x : ℕ) → is_among xs x ≡ true → ⊥) → xs ≡ []
nil_from_none_among [] none = refl
nil_from_none_among (x ∷ xs) none = absurd (none x (among-head x xs))

range-push_from : (a n : ℕ) → range_with_len a (n + 1) ≡ range_with_len a n ++ (a + n) ∷ []
range-push_from a zero = let e : a ≡ a + 0 = omega arith in ap (λ x. x ∷ []) e
range-push_from a (suc n) =
    let e : a + 1 + n ≡ a + suc n = omega arith in
    let f : suc n + 1 ≡ suc (n + 1) = omega arith in
    ap (range_with_len a) f ∙ ap (λ xs. a ∷ xs) (range-push_from (a + 1) n ∙ ap (λ x. range_with_len (a + 1) n ++ x ∷ []) e)

-- one more place
pub range-push : (n : ℕ) → range_with_len 0 (n + 1) ≡ range_with_len 0 n ++ n ∷ []
range-push n = let e : 0 + n ≡ n = omega arith in range-push_from 0 n ∙ ap (λ x. range_with_len 0 n ++ x ∷ []) e
