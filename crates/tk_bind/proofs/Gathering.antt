-- Answers for the elements of a list, one after the other: each loop goes on as long as there is no error.
use Rattle.std.proofs.Common.{◌≡◌, ℕ, ◌+◌, ◌<◌, ◌≤◌, List, [], ◌∷◌, ◌++◌, map, length, get_or, drop, Result, Ok, Err, refl, ap, sym, ◌∙◌, append_assoc, append-nil}
use Rattle.std.specs.List.{flat_map}
use Rattle.std.proofs.lemmas.List.{at_drop_more, at_drop_all}
use Rattle.tk_types.specs.Lists.{all_ok}
use Rattle.tk_bind.specs.Refusal.{IsUnavailable}
use Rattle.tk_bind.specs.Substitute.{on_ok}
use Rattle.tk_bind.specs.declared.refusal.SubstituteError.{SubstituteError}
use Rattle.tk_bind.specs.declared.refusal.SubstituteError.TheVariants.{Memory, Unavailable}

-- all lists joined, or the first error
abbrev pub all_joined : {Y E : Type 0} → List (Result (List Y) E) → Result (List Y) E
all_joined {Y} rs = on_ok (flat_map (λ (ys : List Y). ys)) (all_ok rs)

-- what is there already, in front
abbrev pub after : {Y E : Type 0} → List Y → Result (List Y) E → Result (List Y) E
after ys r = on_ok (λ zs. ys ++ zs) r

after_none : {Y E : Type 0} (r : Result (List Y) E) → after [] r ≡ r
after_none (Ok zs) = refl
after_none (Err e) = refl

joined_step : {Y E : Type 0} (done y : List Y) (r : Result (List (List Y)) E) → after done (on_ok (flat_map (λ (ys : List Y). ys)) (elim r [ Ok ys ↦ Ok (y ∷ ys) | Err e ↦ Err e ])) ≡ after (done ++ y) (on_ok (flat_map (λ (ys : List Y). ys)) r)
joined_step done y (Ok ys) = ap Ok (sym (append_assoc done y _))
joined_step done y (Err e) = refl

joined-cons : {Y E : Type 0} (r : Result (List Y) E) (rs : List (Result (List Y) E)) (done more : List Y) → after done r ≡ Ok more → after done (all_joined (r ∷ rs)) ≡ after more (all_joined rs)
joined-cons (Ok y) rs done more e = joined_step done y (all_ok rs) ∙ ap (λ zs. after zs (all_joined rs)) (let f : done ++ y ≡ more = cc in f)
joined-cons (Err x) rs done more e = absurd (let f : ⊥ = cc in f)

-- a turn of the loop: the element at i gave more
pub joined_turn : {X Y E : Type 0} (f : X → Result (List Y) E) (xs : List X) (i : ℕ) (x : X) (done more : List Y) (all : Result (List Y) E) → i < length xs → x ≡ get_or xs i x → after done (all_joined (map f (drop i xs))) ≡ all → after done (f x) ≡ Ok more → after more (all_joined (map f (drop (i + 1) xs))) ≡ all
joined_turn f xs i x done more all lt is before step =
    sym (joined-cons (f x) (map f (drop (i + 1) xs)) done more step)
    ∙ (ap (λ y. after done (all_joined (f y ∷ map f (drop (i + 1) xs)))) is
    ∙ (sym (at_drop_more (λ ys. after done (all_joined (map f ys))) xs i x lt) ∙ before))

-- before the loop
pub joined_start : {X Y E : Type 0} (f : X → Result (List Y) E) (xs : List X) (done : List Y) → done ≡ [] → after done (all_joined (map f (drop 0 xs))) ≡ all_joined (map f xs)
joined_start f xs done none = ap (λ ys. after ys (all_joined (map f xs))) none ∙ after_none (all_joined (map f xs))

-- behind the loop
pub joined_end : {X Y E : Type 0} (f : X → Result (List Y) E) (xs : List X) (i : ℕ) (done : List Y) (all : Result (List Y) E) → length xs ≤ i → after done (all_joined (map f (drop i xs))) ≡ all → all ≡ Ok done
joined_end f xs i done all past before =
    sym before ∙ (at_drop_all (λ ys. after done (all_joined (map f ys))) xs i past ∙ ap Ok (append-nil done))

joined_stop : {Y E : Type 0} (r : Result (List Y) E) (rs : List (Result (List Y) E)) (done : List Y) (e : E) → r ≡ Err e → after done (all_joined (r ∷ rs)) ≡ Err e
joined_stop r rs done e is = ap (λ a. after done (all_joined (a ∷ rs))) is

-- the element at i has no value
pub joined_refused : {X Y : Type 0} (f : X → Result (List Y) (List ℕ)) (xs : List X) (i : ℕ) (x : X) (done : List Y) (all : Result (List Y) (List ℕ)) (e : SubstituteError) → i < length xs → x ≡ get_or xs i x → after done (all_joined (map f (drop i xs))) ≡ all → IsUnavailable (f x) e → IsUnavailable all e
joined_refused f xs i x done all Memory lt is before refused = tt
joined_refused f xs i x done all (Unavailable s) lt is before refused =
    sym before
    ∙ (at_drop_more (λ ys. after done (all_joined (map f ys))) xs i x lt
    ∙ joined_stop (f (get_or xs i x)) (map f (drop (i + 1) xs)) done s (ap f (sym is) ∙ refused))
