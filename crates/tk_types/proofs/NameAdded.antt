-- One name more, and names that are found one after another.
use Rattle.std.proofs.Common.{◌≡◌, ℕ, ◌+◌, ◌<◌, Bool, true, false, ◌||◌, List, [], ◌∷◌, ◌++◌, map, take, length, get_or, bytes_eq, refl, ap, ◌∙◌}
use Rattle.std.specs.List.{list_any}
use Rattle.std.proofs.lemmas.List.{take_more}
use denote.Ref.{Bor}
use Rattle.tk_types.proofs.FirstFound.{bytes_eq-swap}

or_false : (b : Bool) → (b || false) ≡ b
or_false true = refl
or_false false = refl

or_assoc : (a b c : Bool) → (a || (b || c)) ≡ ((a || b) || c)
or_assoc true b c = refl
or_assoc false b c = refl

pub any_more : (name : List ℕ) (xs : List (Bor (List ℕ))) (x : Bor (List ℕ)) → list_any (bytes_eq name) (map (λ n. n.now) (xs ++ x ∷ [])) ≡ (list_any (bytes_eq name) (map (λ n. n.now) xs) || bytes_eq name x.now)
any_more name [] x = or_false (bytes_eq name x.now)
any_more name (y ∷ xs) x =
    ap (λ b. bytes_eq name y.now || b) (any_more name xs x) ∙ or_assoc (bytes_eq name y.now) (list_any (bytes_eq name) (map (λ n. n.now) xs)) (bytes_eq name x.now)

-- a step of a loop
pub any_taken : (name : List ℕ) (xs : List (Bor (List ℕ))) (i : ℕ) (x : Bor (List ℕ)) → i < length xs → list_any (bytes_eq name) (map (λ n. n.now) (take (i + 1) xs)) ≡ (list_any (bytes_eq name) (map (λ n. n.now) (take i xs)) || bytes_eq name (get_or xs i x).now)
any_taken name xs i x lt =
    ap (λ ys. list_any (bytes_eq name) (map (λ n. n.now) ys)) (take_more xs i x lt) ∙ any_more name (take i xs) (get_or xs i x)

-- one after another
pub any_swapped : (name : List ℕ) (xs : List (Bor (List ℕ))) → list_any (λ other. bytes_eq other.now name) xs ≡ list_any (bytes_eq name) (map (λ n. n.now) xs)
any_swapped name [] = refl
any_swapped name (x ∷ xs) =
    ap (λ b. b || list_any (λ other. bytes_eq other.now name) xs) (bytes_eq-swap x.now name) ∙ ap (λ b. bytes_eq name x.now || b) (any_swapped name xs)
