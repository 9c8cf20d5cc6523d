-- Two attempts never share a pod's name.
use Rattle.std.proofs.Common.{◌≡◌, ℕ, ◌<◌, ◌≤◌, ◌+◌, ◌%◌, ◌^◌, List, [], ◌∷◌, ◌++◌, length, All, refl, sym, ◌∙◌, ap, arith, append_assoc, length-append, codes, decimal}
use Rattle.std.proofs.lemmas.Fmt.{decimal_is_IsNumeral, decimal_by_steps}
use Rattle.std.proofs.lemmas.List.Elements.{All-nil, All-cons, All-push, All-head, All-tail}
use Rattle.std.specs.Str.Parse.{digits_value}
use Rattle.tk_names.specs.Children.{pod_name, most_attempts}

abbrev IsHigh : ℕ → Type 0
IsHigh byte = 48 ≤ byte

-- a list of digits has no dash
no_dash : (xs ys ds : List ℕ) → All IsHigh ds → ds ≡ xs ++ 45 ∷ ys → ⊥
no_dash [] ys [] high is = cc
no_dash [] ys (d ∷ ds) high is = let first : d ≡ 45 = cc in omega (arith, All-head IsHigh d ds high)
no_dash (x ∷ xs) ys [] high is = cc
no_dash (x ∷ xs) ys (d ∷ ds) high is = no_dash xs ys ds (All-tail IsHigh d ds high) (cc)

split_last : (xs ys ds es : List ℕ) → All IsHigh ds → All IsHigh es → xs ++ 45 ∷ ds ≡ ys ++ 45 ∷ es → (xs ≡ ys) × (ds ≡ es)
split_last [] [] ds es high_ds high_es is = (refl, cc)
split_last [] (y ∷ ys) ds es high_ds high_es is = absurd (no_dash ys es ds high_ds (cc))
split_last (x ∷ xs) [] ds es high_ds high_es is = absurd (no_dash xs ds es high_es (cc))
split_last (x ∷ xs) (y ∷ ys) ds es high_ds high_es is =
    let rest : xs ++ 45 ∷ ds ≡ ys ++ 45 ∷ es = cc in
    let parts = split_last xs ys ds es high_ds high_es rest in
    (cc (parts.0), parts.1)

cancel_right : (xs ys zs : List ℕ) → xs ++ zs ≡ ys ++ zs → xs ≡ ys
cancel_right [] [] zs is = refl
cancel_right [] (y ∷ ys) zs is = absurd (omega (arith, ap length is, length-append ys zs))
cancel_right (x ∷ xs) [] zs is = absurd (omega (arith, ap length is, length-append xs zs))
cancel_right (x ∷ xs) (y ∷ ys) zs is = let rest = cancel_right xs ys zs (cc) in cc (rest)

decimal_high : (n : ℕ) → n < 2 ^ 64 → All IsHigh (decimal n)
decimal_high n small = decimal_by_steps (λ m ds. All IsHigh ds) (λ m below. All-cons IsHigh (48 + m) [] (omega arith) (All-nil IsHigh)) (λ m ds more high. All-push IsHigh ds (48 + m % 10) high (omega arith)) n small

abbrev before : List ℕ
before = 45 ∷ 112 ∷ 111 ∷ 100 ∷ []

parted : (a : List ℕ) (m : ℕ) → (a ++ before) ++ 45 ∷ decimal m ≡ pod_name a m
parted a m = append_assoc a before (45 ∷ decimal m) ∙ sym (append_assoc a (codes "-pod-") (decimal m))

pub pods_apart : (a b : List ℕ) (m n : ℕ) → m ≤ most_attempts → n ≤ most_attempts → pod_name a m ≡ pod_name b n → (a ≡ b) × (m ≡ n)
pods_apart a b m n few_m few_n same =
    let parts = split_last (a ++ before) (b ++ before) (decimal m) (decimal n) (decimal_high m (omega arith)) (decimal_high n (omega arith)) (parted a m ∙ same ∙ sym (parted b n)) in
    (cancel_right a b before parts.0, sym (decimal_is_IsNumeral m (omega arith)).1 ∙ ap (digits_value 10) parts.1 ∙ (decimal_is_IsNumeral n (omega arith)).1)
