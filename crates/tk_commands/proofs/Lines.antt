-- Lines of tasks and of those behind them.
use Rattle.std.proofs.Common.{◌≡◌, ℕ, ◌+◌, List, [], ◌∷◌, ◌++◌, length, sym, ap, ◌∙◌, append_assoc, arith}
use Rattle.std.specs.Prelude.{flat_map}
use Rattle.std.specs.List.{enumerate_from}
use Rattle.std.proofs.lemmas.Grind.{flat_map-append}

-- places of two lists behind each other
pub places_split : {X : Type 0} (n m : ℕ) (xs ys : List X) → n + length xs ≡ m → enumerate_from n (xs ++ ys) ≡ enumerate_from n xs ++ enumerate_from m ys
places_split n m [] ys e = ap (λ (k : ℕ). enumerate_from k ys) (omega arith)
places_split n m (x ∷ xs) ys e = ap (λ rest. (n, x) ∷ rest) (places_split (n + 1) m xs ys (omega arith))

pub lines_split : {X : Type 0} (line : ℕ × X → List ℕ) (xs ys : List X) (start : List ℕ)
    → (start ++ flat_map line (enumerate_from 0 xs)) ++ flat_map line (enumerate_from (length xs) ys) ≡ start ++ flat_map line (enumerate_from 0 (xs ++ ys))
lines_split line xs ys start =
    append_assoc start (flat_map line (enumerate_from 0 xs)) (flat_map line (enumerate_from (length xs) ys))
    ∙ ap (λ (l : List ℕ). start ++ l) (sym (ap (flat_map line) (places_split 0 (length xs) xs ys (omega arith)) ∙ flat_map-append line (enumerate_from 0 xs) (enumerate_from (length xs) ys)))
