-- The places of the elements that pass a test.
use Rattle.std.proofs.Common.{◌≡◌, ℕ, suc, ◌+◌, ◌<◌, Bool, true, false, cond, List, [], ◌∷◌, ◌++◌, map, length, get_or, take, refl, sym, ap, ◌∙◌, arith}
use Rattle.std.specs.List.{enumerate_from, filter}
use Rattle.std.proofs.lemmas.List.{map-append, append-nil, take_more, length-take-le}
use Rattle.std.proofs.lemmas.List.Elements.{filter-append}
use Rattle.tk_types.specs.Lists.{places_where}

pub enumerate_from-push : {X : Type 0} (n : ℕ) (xs : List X) (x : X) → enumerate_from n (xs ++ x ∷ []) ≡ enumerate_from n xs ++ (n + length xs, x) ∷ []
enumerate_from-push n [] x = let e : n ≡ n + 0 = omega arith in ap (λ m. (m, x) ∷ []) e
enumerate_from-push n (y ∷ xs) x =
    let e : n + 1 + length xs ≡ n + suc (length xs) = omega arith in
    ap (λ es. (n, y) ∷ es) (enumerate_from-push (n + 1) xs x ∙ ap (λ m. enumerate_from (n + 1) xs ++ (m, x) ∷ []) e)

first_of_one : {X : Type 0} (b : Bool) (n : ℕ) (x : X) → map (λ (e : ℕ × X). e.0) (cond b ((n, x) ∷ []) []) ≡ cond b (n ∷ []) []
first_of_one true n x = refl
first_of_one false n x = refl

-- one more element
pub places_where-push : {X : Type 0} (test : X → Bool) (xs : List X) (x : X) → places_where test (xs ++ x ∷ []) ≡ places_where test xs ++ cond (test x) (length xs ∷ []) []
places_where-push {X} test xs x =
    ap (λ es. map (λ (e : ℕ × X). e.0) (filter (λ (e : ℕ × X). test e.1) es)) (enumerate_from-push 0 xs x)
    ∙ (ap (map (λ (e : ℕ × X). e.0)) (filter-append (λ (e : ℕ × X). test e.1) (enumerate_from 0 xs) ((0 + length xs, x) ∷ []))
    ∙ (map-append (λ (e : ℕ × X). e.0) (filter (λ (e : ℕ × X). test e.1) (enumerate_from 0 xs)) (cond (test x) ((0 + length xs, x) ∷ []) [])
    ∙ (let e : 0 + length xs ≡ length xs = omega arith in
    ap (λ ys. places_where test xs ++ ys) (first_of_one (test x) (0 + length xs) x ∙ ap (λ n. cond (test x) (n ∷ []) []) e))))

-- a step of a loop: the element at i
pub places_where_more : {X : Type 0} (test : X → Bool) (xs : List X) (i : ℕ) (x : X) → i < length xs → x ≡ get_or xs i x → places_where test (take (i + 1) xs) ≡ places_where test (take i xs) ++ cond (test x) (i ∷ []) []
places_where_more test xs i x lt is =
    let long : length (take i xs) ≡ i = length-take-le i xs (omega arith) in
    ap (places_where test) (take_more xs i x lt ∙ ap (λ y. take i xs ++ y ∷ []) (sym is))
    ∙ (places_where-push test (take i xs) x ∙ ap (λ n. places_where test (take i xs) ++ cond (test x) (n ∷ []) []) long)

pub places_where_yes : {X : Type 0} (test : X → Bool) (xs : List X) (i : ℕ) (x : X) (ys : List ℕ) → i < length xs → x ≡ get_or xs i x → test x ≡ true → ys ≡ places_where test (take i xs) → ys ++ i ∷ [] ≡ places_where test (take (i + 1) xs)
places_where_yes test xs i x ys lt is pass e =
    rw e (sym (places_where_more test xs i x lt is ∙ ap (λ b. places_where test (take i xs) ++ cond b (i ∷ []) []) pass))

pub places_where_no : {X : Type 0} (test : X → Bool) (xs : List X) (i : ℕ) (x : X) (ys : List ℕ) → i < length xs → x ≡ get_or xs i x → test x ≡ false → ys ≡ places_where test (take i xs) → ys ≡ places_where test (take (i + 1) xs)
places_where_no test xs i x ys lt is fail e =
    e ∙ sym (places_where_more test xs i x lt is ∙ (ap (λ b. places_where test (take i xs) ++ cond b (i ∷ []) []) fail ∙ append-nil (places_where test (take i xs))))
