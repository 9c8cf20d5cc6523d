-- Fronts of a text that grow.
use Rattle.std.proofs.Common.{◌≡◌, ℕ, ◌+◌, ◌-◌, ◌≤◌, List, ◌++◌, length, take, drop, subst, sym, ap, ◌∙◌, Some, None, append_assoc, arith}
use Rattle.std.specs.Prelude.{Option}
use Rattle.std.specs.Io.KnownBytes.{Appends}
use Rattle.std.proofs.lemmas.List.{take-append-drop, take-take, drop-take, length-drop, take_all}

-- a front and what follows it, up to a place
take_plus : (xs : List ℕ) (n m : ℕ) → take (n + m) xs ≡ take n xs ++ take m (drop n xs)
take_plus xs n m =
    sym (take-append-drop n (take (n + m) xs)) ∙ (λ i. take-take n (n + m) xs (omega arith) i ++ drop-take n m xs i)

-- what is behind a place of a text
rest_is : (text : List ℕ) (start : ℕ) → take (length text - start) (drop start text) ≡ drop start text
rest_is text start = take_all (length text - start) (drop start text) (let rest : length (drop start text) ≡ length text - start = length-drop start text in omega arith)

more : (old mid new : Option (List ℕ)) (text : List ℕ) (start count : ℕ)
    → Appends old mid (take start text) → Appends mid new (take count (drop start text)) → Appends old new (take (start + count) text)
more None mid new text start count first then = tt
more (Some old) None new text start count first then = absurd first
more (Some old) (Some mid) None text start count first then = absurd then
more (Some old) (Some mid) (Some new) text start count first then =
    then ∙ (ap (λ (bs : List ℕ). bs ++ take count (drop start text)) first ∙ (append_assoc old (take start text) (take count (drop start text))
    ∙ ap (λ (bs : List ℕ). old ++ bs) (sym (take_plus text start count))))

-- a piece behind a front is a longer front
pub front_grows : (old mid new : Option (List ℕ)) (text : List ℕ) (start count : ℕ)
    → Appends old mid (take start text) → Appends mid new (take count (take (length text - start) (drop start text))) → Appends old new (take (start + count) text)
front_grows old mid new text start count first then =
    more old mid new text start count first (subst (λ (bs : List ℕ). Appends mid new (take count bs)) (rest_is text start) then)

-- what fits behind a front fits in the whole
pub start_within : (text : List ℕ) (start count : ℕ) → start ≤ length text → count ≤ length (take (length text - start) (drop start text)) → start + count ≤ length text
start_within text start count inside fits =
    let rest : length (take (length text - start) (drop start text)) ≡ length text - start = ap length (rest_is text start) ∙ length-drop start text in omega arith
