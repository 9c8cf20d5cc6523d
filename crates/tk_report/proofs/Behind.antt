-- Lines of things one behind the other.
use Rattle.std.proofs.Common.{◌≡◌, ℕ, suc, ◌+◌, ◌-◌, ◌<◌, List, [], ◌∷◌, ◌++◌, length, sym, ap, ◌∙◌, append_assoc, arith}
use Rattle.std.specs.Prelude.{flat_map}
use Rattle.std.specs.List.{enumerate_from, range_with_len}
use Rattle.std.proofs.lemmas.Grind.{flat_map-append}

-- places of two lists behind each other
places_split : {X : Type 0} (n m : ℕ) (xs ys : List X) → n + length xs ≡ m → enumerate_from n (xs ++ ys) ≡ enumerate_from n xs ++ enumerate_from m ys
places_split n m [] ys e = ap (λ (k : ℕ). enumerate_from k ys) (omega (arith, e))
places_split n m (x ∷ xs) ys e = ap (λ rest. (n, x) ∷ rest) (places_split (n + 1) m xs ys (omega (arith, e)))

pub lines_split : {X Y : Type 0} (line : ℕ × X → List Y) (xs ys : List X) (start : List Y)
    → (start ++ flat_map line (enumerate_from 0 xs)) ++ flat_map line (enumerate_from (length xs) ys) ≡ start ++ flat_map line (enumerate_from 0 (xs ++ ys))
lines_split {Y = Y} line xs ys start =
    append_assoc start (flat_map line (enumerate_from 0 xs)) (flat_map line (enumerate_from (length xs) ys))
    ∙ ap (λ (l : List Y). start ++ l) (sym (ap (flat_map line) (places_split 0 (length xs) xs ys (omega arith)) ∙ flat_map-append line (enumerate_from 0 xs) (enumerate_from (length xs) ys)))

range_next : (i n : ℕ) → i < n → range_with_len i (n - i) ≡ i ∷ range_with_len (i + 1) (n - (i + 1))
range_next i n lt = let left : n - i ≡ suc (n - (i + 1)) = omega (arith, lt) in ap (range_with_len i) left

-- the lines so far, and those of the numbers that are left
pub lines_next : {Y : Type 0} (f : ℕ → List Y) (before after : List Y) (i n : ℕ) → i < n → after ≡ before ++ f i
    → after ++ flat_map f (range_with_len (i + 1) (n - (i + 1))) ≡ before ++ flat_map f (range_with_len i (n - i))
lines_next {Y = Y} f before after i n lt is =
    ap (λ (l : List Y). l ++ flat_map f (range_with_len (i + 1) (n - (i + 1)))) is
    ∙ append_assoc before (f i) (flat_map f (range_with_len (i + 1) (n - (i + 1))))
    ∙ ap (λ (l : List ℕ). before ++ flat_map f l) (sym (range_next i n lt))
