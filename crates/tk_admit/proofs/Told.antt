-- Numbers that are told up to 64 bits.
use Rattle.std.proofs.Common.{◌≡◌, ℕ, ◌+◌, ◌-◌, ◌^◌, ◌<◌, min, List, [], ◌∷◌, ◌++◌, length, take, get_or, sum_by, sym, ap, ◌∙◌, arith}
use Rattle.std.proofs.lemmas.List.{length_push}
use Rattle.std.proofs.lemmas.List.Sums.{sum_by_more}
use Rattle.tk_early.specs.Possible.{told_count}

-- a sum of told numbers is told as the sum of the numbers
pub told_sum : (a b m n : ℕ) → m ≡ told_count a → n ≡ told_count b → min (m + n) (2 ^ 64 - 1) ≡ told_count (a + b)
told_sum a b m n first second = omega arith

-- one more of the numbers that are added
pub told_more : {A B : Type 0} (f : B → ℕ) (zs : List B) (xs : List A) (x : A) (z : B) (total one new : ℕ) → length xs < length zs → z ≡ get_or zs (length xs) z → total ≡ told_count (sum_by f (take (length xs) zs)) → one ≡ told_count (f z) → new ≡ min (total + one) (2 ^ 64 - 1) → new ≡ told_count (sum_by f (take (length (xs ++ x ∷ [])) zs))
told_more f zs xs x z total one new lt is before here now =
    now
    ∙ (told_sum (sum_by f (take (length xs) zs)) (f (get_or zs (length xs) z)) total one before (here ∙ ap (λ y. told_count (f y)) is)
    ∙ ap told_count (sym (sum_by_more f zs (length xs) z lt) ∙ ap (λ n. sum_by f (take n zs)) (sym (length_push xs x))))
