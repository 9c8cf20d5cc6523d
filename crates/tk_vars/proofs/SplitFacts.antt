-- What a search for the first byte says of the text before it and behind it.
use Rattle.std.proofs.Common.{◌≡◌, ℕ, suc, ◌+◌, ◌<◌, ◌≤◌, List, [], ◌∷◌, ◌++◌, length, take, drop, refl, sym, ◌∙◌, ap, subst, Bool, true, false, not, cond, ltb, eqb, Option, Some, None, arith, get_or, drop-cons}
use Rattle.std.specs.Prelude.{unwrap_or, position}
use Rattle.std.specs.List.{list_all, prefix_len, position_or_len}
use Rattle.std.proofs.lemmas.Bool.{ltb-true, ltb-false, eqb-true}
use Rattle.std.proofs.lemmas.List.{take-append-drop, take_all}
use Rattle.tk_vars.proofs.TextFacts.{all_pass}
use Rattle.std.proofs.lemmas.List.Sums.{prefix_len-le-length}
use Rattle.tk_vars.specs.Steps.{StopsAt, SplitsAt, IsBracketed, in_bracket}

front_passes : (q : ℕ → Bool) (xs : List ℕ) → list_all q (take (prefix_len q xs) xs) ≡ true
front_passes q [] = refl
front_passes q (x ∷ xs) = by_test (q x) refl (front_passes q xs)
  where
    by_test : (r : Bool) → q x ≡ r → list_all q (take (prefix_len q xs) xs) ≡ true → list_all q (take (cond r (1 + prefix_len q xs) 0) (x ∷ xs)) ≡ true
    by_test false e others = refl
    by_test true e others =
        let more : suc (prefix_len q xs) ≡ 1 + prefix_len q xs = omega arith in
        subst (λ n. list_all q (take n (x ∷ xs)) ≡ true) more (rw e others)

rest_stops : (q : ℕ → Bool) (xs : List ℕ) → StopsAt q (drop (prefix_len q xs) xs)
rest_stops q [] = tt
rest_stops q (x ∷ xs) = by_test (q x) refl (rest_stops q xs)
  where
    by_test : (r : Bool) → q x ≡ r → StopsAt q (drop (prefix_len q xs) xs) → StopsAt q (drop (cond r (1 + prefix_len q xs) 0) (x ∷ xs))
    by_test false e others = e
    by_test true e others =
        let more : suc (prefix_len q xs) ≡ 1 + prefix_len q xs = omega arith in
        subst (λ n. StopsAt q (drop n (x ∷ xs))) more others

splits_front : (q : ℕ → Bool) (xs : List ℕ) → SplitsAt q xs (take (prefix_len q xs) xs) (drop (prefix_len q xs) xs)
splits_front q xs = record { text_is = sym (take-append-drop (prefix_len q xs) xs); within = front_passes q xs; stops = rest_stops q xs }

end_of_front : (p : ℕ → Bool) (xs : List ℕ) → unwrap_or (position p xs) (length xs) ≡ position_or_len p xs
end_of_front p xs = by_test (ltb (position_or_len p xs) (length xs)) refl
  where
    by_test : (r : Bool) → ltb (position_or_len p xs) (length xs) ≡ r → unwrap_or (cond r (Some (position_or_len p xs)) None) (length xs) ≡ position_or_len p xs
    by_test true e = refl
    by_test false e =
        let below : position_or_len p xs ≤ length xs = prefix_len-le-length (λ x. not (p x)) xs in
        let above : length xs ≤ position_or_len p xs = ltb-false (position_or_len p xs) (length xs) e in
        omega arith

-- a text is split before the first byte that passes the test
pub splits_before : (p : ℕ → Bool) (xs front rest : List ℕ) (o : Option ℕ) (n : ℕ) → o ≡ position p xs → n ≡ unwrap_or o (length xs) → front ≡ take n xs → rest ≡ drop n xs
    → SplitsAt (λ b. not (p b)) xs front rest
splits_before p xs front rest o n found n_is front_is rest_is =
    let at : n ≡ position_or_len p xs = n_is ∙ (ap (λ (r : Option ℕ). unwrap_or r (length xs)) found ∙ end_of_front p xs) in
    subst (λ r. SplitsAt (λ b. not (p b)) xs front r) (sym (rest_is ∙ ap (λ k. drop k xs) at))
    (subst (λ f. SplitsAt (λ b. not (p b)) xs f (drop (position_or_len p xs) xs)) (sym (front_is ∙ ap (λ k. take k xs) at)) (splits_front (λ b. not (p b)) xs))

same_all : (q p : ℕ → Bool) → ((b : ℕ) → q b ≡ p b) → (xs : List ℕ) → list_all q xs ≡ true → list_all p xs ≡ true
same_all q p same xs all = all_pass q p (λ b e. sym (same b) ∙ e) xs all

same_stop : (q p : ℕ → Bool) → ((b : ℕ) → q b ≡ p b) → (xs : List ℕ) → StopsAt q xs → StopsAt p xs
same_stop q p same [] stops = tt
same_stop q p same (x ∷ xs) stops = sym (same x) ∙ stops

pub splits_by_same : (q p : ℕ → Bool) → ((b : ℕ) → q b ≡ p b) → (xs front rest : List ℕ) → SplitsAt q xs front rest → SplitsAt p xs front rest
splits_by_same q p same xs front rest split =
    record { text_is = split.text_is; within = same_all q p same front split.within; stops = same_stop q p same rest split.stops }

pub not_not : (b : Bool) → not (not b) ≡ b
not_not true = refl
not_not false = refl

-- the first bracket that ends

bracket_behind : (k : ℕ) (xs : List ℕ) → StopsAt in_bracket (drop k xs) → k < length xs → drop k xs ≡ 93 ∷ drop (k + 1) xs
bracket_behind k xs stops lt =
    let cut : drop k xs ≡ get_or xs k 0 ∷ drop (suc k) xs = drop-cons xs k 0 lt in
    let first : eqb (get_or xs k 0) 93 ≡ true = passes (eqb (get_or xs k 0) 93) (subst (StopsAt in_bracket) cut stops) in
    let same : get_or xs k 0 ≡ 93 = eqb-true (get_or xs k 0) 93 first in
    let more : suc k ≡ k + 1 = omega arith in
    cut ∙ (ap (λ (b : ℕ). b ∷ drop (suc k) xs) same ∙ ap (λ n. 93 ∷ drop n xs) more)
  where
    passes : (r : Bool) → not r ≡ false → r ≡ true
    passes true e = refl
    passes false e = cc

pub found_bracket : (xs front rest : List ℕ) (k : ℕ) → position (λ b. eqb b 93) xs ≡ Some k → front ≡ take k xs → rest ≡ drop (k + 1) xs → IsBracketed (91 ∷ xs) front rest
found_bracket xs front rest k found front_is rest_is = by_test (ltb n (length xs)) refl found
  where
    n : ℕ
    n = position_or_len (λ b. eqb b 93) xs

    by_test : (r : Bool) → ltb n (length xs) ≡ r → cond r (Some n) None ≡ Some k → IsBracketed (91 ∷ xs) front rest
    by_test false e some = cc
    by_test true e some =
        let at : n ≡ k = cc in
        let split : SplitsAt in_bracket xs (take n xs) (drop n xs) = splits_front in_bracket xs in
        let behind : drop n xs ≡ 93 ∷ drop (n + 1) xs = bracket_behind n xs split.stops (ltb-true n (length xs) e) in
        let front_at : take n xs ≡ front = ap (λ j. take j xs) at ∙ sym front_is in
        let rest_at : drop (n + 1) xs ≡ rest = ap (λ j. drop (j + 1) xs) at ∙ sym rest_is in
        record {
          text_is = ap (λ ys. 91 ∷ ys) (split.text_is ∙ (ap (λ ys. take n xs ++ ys) behind ∙ (ap (λ f. f ++ 93 ∷ drop (n + 1) xs) front_at ∙ ap (λ r. front ++ 93 ∷ r) rest_at)));
          within = subst (λ f. list_all in_bracket f ≡ true) front_at split.within;
        }

pub no_bracket : (xs : List ℕ) → position (λ b. eqb b 93) xs ≡ None → not (list_all in_bracket xs) ≡ false
no_bracket xs none = by_test (ltb n (length xs)) refl none
  where
    n : ℕ
    n = position_or_len (λ b. eqb b 93) xs

    by_test : (r : Bool) → ltb n (length xs) ≡ r → cond r (Some n) None ≡ None → not (list_all in_bracket xs) ≡ false
    by_test true e some = cc
    by_test false e some =
        let below : n ≤ length xs = prefix_len-le-length in_bracket xs in
        let above : length xs ≤ n = ltb-false n (length xs) e in
        let whole : n ≡ length xs = omega arith in
        let all : list_all in_bracket xs ≡ true = subst (λ ys. list_all in_bracket ys ≡ true) (ap (λ j. take j xs) whole ∙ take_all (length xs) xs (omega arith)) (front_passes in_bracket xs) in
        ap not all
