-- Facts on lists of texts that the other files use.
use Rattle.std.proofs.Common.{◌≡◌, ℕ, List, [], ◌∷◌, ◌++◌, map, length, take, refl, sym, ◌∙◌, ap, subst, Bool, true, false, ◌&&◌, ◌||◌, eqb, arith}
use Rattle.std.specs.Prelude.{bytes_eq, flat_map, take_while, if◌then◌else◌}
use Rattle.std.specs.List.{list_any, list_all, prefix_len, AllByRecursion}
use Rattle.std.proofs.lemmas.Bool.{eqb-true}
use Rattle.std.proofs.Math.Seq.{take-append_seam}
use Rattle.std.proofs.lemmas.Slice.Eq.{bytes_eq-Decides}
use Rattle.tk_vars.specs.Grammar.{joins, text_where}
use Rattle.tk_vars.specs.Steps.{StopsAt}

pub and_first : (a b : Bool) → (a && b) ≡ true → a ≡ true
and_first true b e = refl
and_first false b e = e

pub and_second : (a b : Bool) → (a && b) ≡ true → b ≡ true
and_second true b e = e
and_second false b e = cc

pub same_text : (xs ys : List ℕ) → bytes_eq xs ys ≡ true → xs ≡ ys
same_text xs ys e = (bytes_eq-Decides xs ys).0 e

-- what passes the first test passes the second
pub all_pass : (p q : ℕ → Bool) → ((b : ℕ) → p b ≡ true → q b ≡ true) → (xs : List ℕ) → list_all p xs ≡ true → list_all q xs ≡ true
all_pass p q implies [] all = refl
all_pass p q implies (x ∷ xs) all =
    rw (implies x (and_first (p x) (list_all p xs) all)) (all_pass p q implies xs (and_second (p x) (list_all p xs) all))

-- a byte that passes a test isn't one that fails it
pub other_byte : (p : ℕ → Bool) (k : ℕ) → p k ≡ false → (b : ℕ) → p b ≡ true → eqb b k ≡ false
other_byte p k fails b passes = go (eqb b k) refl
  where
    go : (r : Bool) → eqb b k ≡ r → r ≡ false
    go false e = refl
    go true e = let same : b ≡ k = eqb-true b k e in let passes_too : p k ≡ true = subst (λ c. p c ≡ true) same passes in cc

pub append-all : (p : ℕ → Bool) (xs ys : List ℕ) → list_all p xs ≡ true → list_all p ys ≡ true → list_all p (xs ++ ys) ≡ true
append-all p [] ys first second = second
append-all p (x ∷ xs) ys first second = rw (and_first (p x) (list_all p xs) first) (append-all p xs ys (and_second (p x) (list_all p xs) first) second)

prefix_len-stops : (p : ℕ → Bool) (xs ys : List ℕ) → list_all p xs ≡ true → StopsAt p ys → prefix_len p (xs ++ ys) ≡ length xs
prefix_len-stops p [] [] all stops = refl
prefix_len-stops p [] (y ∷ ys) all stops = rw stops refl
prefix_len-stops p (x ∷ xs) ys all stops =
    let rest : prefix_len p (xs ++ ys) ≡ length xs = prefix_len-stops p xs ys (and_second (p x) (list_all p xs) all) stops in
    rw (and_first (p x) (list_all p xs) all) (omega arith)

pub take_while-stops : (p : ℕ → Bool) (xs ys : List ℕ) → list_all p xs ≡ true → StopsAt p ys → take_while p (xs ++ ys) ≡ xs
take_while-stops p xs ys all stops = ap (λ n. take n (xs ++ ys)) (prefix_len-stops p xs ys all stops) ∙ take-append_seam xs ys

-- facts of each text of a list

pub each-append : {X : Type 0} (P : X → Type 0) (xs ys : List X) → AllByRecursion P xs → AllByRecursion P ys → AllByRecursion P (xs ++ ys)
each-append P [] ys first second = second
each-append P (x ∷ xs) ys first second = (first.0, each-append P xs ys first.1 second)

pub each-map : {X Y : Type 0} (P : X → Type 0) (Q : Y → Type 0) (f : X → Y) (xs : List X) → ((x : X) → P x → Q (f x)) → AllByRecursion P xs → AllByRecursion Q (map f xs)
each-map P Q f [] step all = tt
each-map P Q f (x ∷ xs) step all = (step x all.0, each-map P Q f xs step all.1)

pub each-flat_map : {X Y : Type 0} (P : X → Type 0) (Q : Y → Type 0) (f : X → List Y) (xs : List X) → ((x : X) → P x → AllByRecursion Q (f x)) → AllByRecursion P xs → AllByRecursion Q (flat_map f xs)
each-flat_map P Q f [] step all = tt
each-flat_map P Q f (x ∷ xs) step all = each-append Q (f x) (flat_map f xs) (step x all.0) (each-flat_map P Q f xs step all.1)

pub each-joins : (P Q R : List ℕ → Type 0) (xs ys : List (List ℕ)) → ((x y : List ℕ) → P x → Q y → R (x ++ y))
    → AllByRecursion P xs → AllByRecursion Q ys → AllByRecursion R (joins xs ys)
each-joins P Q R xs ys join all_x all_y = each-flat_map P R (λ x. map (λ y. x ++ y) ys) xs (λ x p. each-map Q R (λ y. x ++ y) ys (λ y q. join x y p q) all_y) all_x

pub each-where : (P : List ℕ → Type 0) (test : Bool) (text : List ℕ) → (test ≡ true → P text) → AllByRecursion P (text_where test text)
each-where P true text h = (h refl, tt)
each-where P false text h = tt

pub each-if : {X : Type 0} (P : X → Type 0) (test : Bool) (xs : List X) → (test ≡ true → AllByRecursion P xs) → AllByRecursion P (if test then xs else [])
each-if P true xs h = h refl
each-if P false xs h = tt

-- a fact of each text holds of one that equals some
first_or_rest : (P : List ℕ → Type 0) (s x : List ℕ) (r : Bool) (others : Bool) → bytes_eq s x ≡ r → P x → (others ≡ true → P s) → (r || others) ≡ true → P s
first_or_rest P s x true others same first rest e = subst P (sym (same_text s x same)) first
first_or_rest P s x false others other first rest e = rest e

pub from_each : (P : List ℕ → Type 0) (s : List ℕ) (xs : List (List ℕ)) → AllByRecursion P xs → list_any (bytes_eq s) xs ≡ true → P s
from_each P s [] all e = cc
from_each P s (x ∷ xs) all e = first_or_rest P s x (bytes_eq s x) (list_any (bytes_eq s) xs) refl all.0 (from_each P s xs all.1) e
