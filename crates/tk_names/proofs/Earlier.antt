-- Steps of the search for a name that stood earlier, and what the definition of a clash means.
use Rattle.std.proofs.Common.{◌≡◌, ℕ, zero, suc, ◌+◌, ◌<◌, ◌≤◌, List, [], ◌∷◌, ◌++◌, map, take, length, get_or, Bool, true, false, cond, eqb, ltb, Option, Some, None, refl, sym, ap, not, ⊎_elim, ◌∙◌, arith, bytes_eq}
use Rattle.std.specs.List.{enumerate_from, position, position_or_len}
use Rattle.std.specs.Option.{option_or, option_map}
use Rattle.std.specs.Map.{update}
use Rattle.std.proofs.lemmas.List.{take_more, length-take-le, length-append}
use Rattle.std.proofs.lemmas.List.Folds.{position_or_len_push}
use Rattle.std.proofs.lemmas.List.Sums.{prefix_len-le-length}
use Rattle.std.proofs.lemmas.Cmp.{nat_list_eq_equiv}
use Rattle.std.proofs.lemmas.Bool.{cases_Bool}
use Rattle.std.proofs.lemmas.Bool.Decides.{nat_tests}
use Rattle.std.proofs.lemmas.Slice.Eq.{bytes_eq-Decides}
use Rattle.tk_types.specs.First.{first_of}
use Rattle.tk_names.specs.Clash.{with_earlier, clash, name_at}

-- ---- the first that is there among the answers at each place
first_of-none : {X Y : Type 0} (f : ℕ × X → Option Y) (a : ℕ) (xs : List X) (d : X) → ((k n : ℕ) → n ≡ a + k → k < length xs → f (n, get_or xs k d) ≡ None) → first_of (map f (enumerate_from a xs)) ≡ None
first_of-none f a [] d h = refl
first_of-none f a (x ∷ xs) d h =
    let here : f (a, x) ≡ None = h 0 a (omega arith) (omega arith) in
    rw here (first_of-none f (a + 1) xs d (λ k n e l. h (suc k) n (omega arith) (omega arith)))

first_of-found : {X Y : Type 0} (f : ℕ × X → Option Y) (a : ℕ) (xs : List X) (d : X) (i : ℕ) (r : Y) → i < length xs → ((k n : ℕ) → n ≡ a + k → k < i → f (n, get_or xs k d) ≡ None) → ((n : ℕ) → n ≡ a + i → f (n, get_or xs i d) ≡ Some r) → first_of (map f (enumerate_from a xs)) ≡ Some r
first_of-found f a [] d i r l h here = absurd (omega arith)
first_of-found f a (x ∷ xs) d zero r l h here =
    let e : f (a, x) ≡ Some r = here a (omega arith) in rw e
first_of-found f a (x ∷ xs) d (suc i) r l h here =
    let e : f (a, x) ≡ None = h 0 a (omega arith) (omega arith) in
    rw e (first_of-found f (a + 1) xs d i r (omega arith) (λ k n q m. h (suc k) n (omega arith) (omega arith)) (λ n q. here n (omega arith)))

pub clash-none : (names : List (List ℕ)) (end : ℕ) → length names ≤ end → ((k : ℕ) → k < end → with_earlier names (k, name_at names k) ≡ None) → clash names ≡ None
clash-none names end l h =
    first_of-none (with_earlier names) 0 names [] (λ k n e m. let same : n ≡ k = omega arith in rw same (h k (omega arith)))

pub clash-found : (names : List (List ℕ)) (earlier later : ℕ) → later < length names → ((k : ℕ) → k < later → with_earlier names (k, name_at names k) ≡ None) → with_earlier names (later, name_at names later) ≡ Some (earlier, later) → clash names ≡ Some (earlier, later)
clash-found names earlier later l h here =
    first_of-found (with_earlier names) 0 names [] later (earlier, later) l (λ k n e m. let same : n ≡ k = omega arith in rw same (h k m)) (λ n e. let same : n ≡ later = omega arith in rw same here)

-- ---- the first place of a name among the first i and among one more
option_or-None : {X : Type 0} (o : Option X) → option_or o None ≡ o
option_or-None None = refl
option_or-None (Some x) = refl

pushed : (n len : ℕ) (b : Bool) → n ≤ len → cond (ltb (cond (eqb n len) (len + cond b 0 1) n) (len + 1)) (Some (cond (eqb n len) (len + cond b 0 1) n)) None ≡ option_or (cond (ltb n len) (Some n) None) (cond b (Some len) None)
pushed n len true h = grind (arith, nat_tests, option_or-None)
pushed n len false h = grind (arith, nat_tests, option_or-None)

position-push : {X : Type 0} (p : X → Bool) (xs : List X) (y : X) → position p (xs ++ y ∷ []) ≡ option_or (position p xs) (cond (p y) (Some (length xs)) None)
position-push p xs y =
    rw (position_or_len_push p xs y, length-append) (pushed (position_or_len p xs) (length xs) (p y) (prefix_len-le-length (λ x. not (p x)) xs))

pub position-more : {X : Type 0} (p : X → Bool) (xs : List X) (i : ℕ) (d : X) → i < length xs → position p (take (i + 1) xs) ≡ option_or (position p (take i xs)) (cond (p (get_or xs i d)) (Some i) None)
position-more p xs i d h =
    let n : length (take i xs) ≡ i = length-take-le i xs (omega arith) in
    rw (take_more xs i d h) (position-push p (take i xs) (get_or xs i d) ∙ ap (λ k. option_or (position p (take i xs)) (cond (p (get_or xs i d)) (Some k) None)) n)

-- the map of first places after one more name, which did not stand earlier
key_step : (i : ℕ) (name : List ℕ) (f : List ℕ → Option ℕ) (q : List ℕ) → f name ≡ None → cond (bytes_eq name q) (Some i) (f q) ≡ option_or (f q) (cond (bytes_eq q name) (Some i) None)
key_step i name f q absent =
    let turned : bytes_eq q name ≡ bytes_eq name q = nat_list_eq_equiv.symm q name in
    ⊎_elim
    (λ t. let same : name ≡ q = (bytes_eq-Decides name q).0 t in
    let none : f q ≡ None = rw same at absent in
    rw (turned, t, none) refl)
    (λ e. let no : bytes_eq name q ≡ false = e in
    rw (turned, no) (sym (option_or-None (f q))))
    (cases_Bool (bytes_eq name q))

pub places-more : (names : List (List ℕ)) (i : ℕ) (name : List ℕ) (f : List ℕ → Option ℕ) → i < length names → name ≡ name_at names i → ((q : List ℕ) → f q ≡ position (bytes_eq q) (take i names)) → f name ≡ None → (q : List ℕ) → update bytes_eq f name (Some i) q ≡ position (bytes_eq q) (take (i + 1) names)
places-more names i name f h is inv absent q =
    rw (position-more (bytes_eq q) names i [] h, ← is, ← inv q) (key_step i name f q absent)

-- a place whose name stands, or does not stand, before it
pub with_earlier-is : (names : List (List ℕ)) (i : ℕ) (name : List ℕ) (o : Option ℕ) → name ≡ name_at names i → position (bytes_eq name) (take i names) ≡ o → with_earlier names (i, name_at names i) ≡ option_map (λ earlier. (earlier, i)) o
with_earlier-is names i name o is found = rw (← is, found) refl
