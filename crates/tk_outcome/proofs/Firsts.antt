-- Of each name the first.
use Rattle.std.proofs.Common.{◌≡◌, ◌≢◌, ℕ, suc, ◌<◌, ◌+◌, List, [], ◌∷◌, ◌++◌, length, get_or, drop, Bool, true, false, not, ◌&&◌, ◌||◌, cond, refl, sym, ◌∙◌, ap, inl, inr, arith, filter, bytes_eq, Contains, All, AllPairs, drop-cons}
use Rattle.std.specs.List.{list_any}
use Rattle.std.proofs.lemmas.Bool.{cases_Bool}
use Rattle.std.proofs.lemmas.List.Elements.{All-cons, All-nil, All-filter, All-weaker, filter_passes}
use Rattle.std.proofs.lemmas.List.Folds.{list_any-append}
use Rattle.std.proofs.lemmas.List.Kept.{AllPairs-cons, AllPairs-filter}
use Rattle.std.proofs.lemmas.Slice.Eq.{bytes_eq-Decides}
use Rattle.tk_types.specs.declared.value.ResultSpec.{ResultSpec}
use Rattle.tk_outcome.specs.Walked.{once_each}

-- filters

filter_all : {X : Type 0} (p : X → Bool) (xs : List X) → All (λ x. p x ≡ true) xs → filter p xs ≡ xs
filter_all p [] all = refl
filter_all p (x ∷ xs) all =
    let here : p x ≡ true = all 0 x (omega arith) in
    rw here (ap (λ ys. x ∷ ys) (filter_all p xs (λ k d less. all (suc k) d (omega (arith, less)))))

-- the second filter leaves out nothing that the first keeps
filter_weaker : {X : Type 0} (p q : X → Bool) → ((x : X) → p x ≡ true → q x ≡ true) → (xs : List X) → filter p (filter q xs) ≡ filter p xs
filter_weaker p q weaker [] = refl
filter_weaker p q weaker (x ∷ xs) = elim (cases_Bool (p x)) [
  | inl hit ↦ (let also : q x ≡ true = weaker x hit in rw (also, hit) (ap (λ ys. x ∷ ys) (filter_weaker p q weaker xs)))
  | inr miss ↦ elim (cases_Bool (q x)) [
    | inl kept ↦ rw (kept, miss) (filter_weaker p q weaker xs)
    | inr gone ↦ rw (gone, miss) (filter_weaker p q weaker xs)
  ]
]

-- two filters are one
filter_both : {X : Type 0} (p q r : X → Bool) → ((x : X) → r x ≡ (p x && q x)) → (xs : List X) → filter p (filter q xs) ≡ filter r xs
filter_both p q r both [] = refl
filter_both p q r both (x ∷ xs) = elim (cases_Bool (q x)) [
  | inl hit ↦ elim (cases_Bool (p x)) [
    | inl here ↦ (let so : r x ≡ true = both x ∙ rw (hit, here) refl in rw (hit, here, so) (ap (λ ys. x ∷ ys) (filter_both p q r both xs)))
    | inr gone ↦ (let so : r x ≡ false = both x ∙ rw gone refl in rw (hit, gone, so) (filter_both p q r both xs))
  ]
  | inr miss ↦ elim (cases_Bool (p x)) [
    | inl here ↦ (let so : r x ≡ false = both x ∙ rw (miss, here) refl in rw (miss, so) (filter_both p q r both xs))
    | inr gone ↦ (let so : r x ≡ false = both x ∙ rw gone refl in rw (miss, so) (filter_both p q r both xs))
  ]
]

-- the elements from a place on, where this one stands there
from_here : {X : Type 0} (xs : List X) (i : ℕ) (x : X) → i < length xs → x ≡ get_or xs i x → drop i xs ≡ x ∷ drop (i + 1) xs
from_here xs i x below is =
    let next : suc i ≡ i + 1 = omega arith in
    drop-cons xs i x below ∙ (ap (λ j. get_or xs i x ∷ drop j xs) next ∙ ap (λ y. y ∷ drop (i + 1) xs) (sym is))

-- one of these has the name
abbrev pub has : List ResultSpec → List ℕ → Bool
has kept name = list_any (λ (spec : ResultSpec). bytes_eq spec.name name) kept

-- those whose names none of the kept ones has
abbrev pub unseen : List ResultSpec → ResultSpec → Bool
unseen kept spec = not (has kept spec.name)

same_has : (kept : List ResultSpec) (a b : List ℕ) → bytes_eq a b ≡ true → has kept a ≡ has kept b
same_has kept a b hit = ap (has kept) ((bytes_eq-Decides a b).0 hit)

-- a name that was there before
pub seen_step : (kept rest : List ResultSpec) (spec : ResultSpec) → has kept spec.name ≡ true
    → filter (unseen kept) (once_each (spec ∷ rest)) ≡ filter (unseen kept) (once_each rest)
seen_step kept rest spec seen =
    let gone : unseen kept spec ≡ false = rw seen refl in
    rw gone (filter_weaker (unseen kept) (λ (other : ResultSpec). not (bytes_eq spec.name other.name)) apart (once_each rest))
  where
    apart : (other : ResultSpec) → unseen kept other ≡ true → not (bytes_eq spec.name other.name) ≡ true
    apart other fresh = elim (cases_Bool (bytes_eq spec.name other.name)) [
      | inl hit ↦
          let there : has kept other.name ≡ true = sym (same_has kept spec.name other.name hit) ∙ seen in
          let bad : false ≡ true = rw there at fresh in
          cc
      | inr miss ↦ rw miss refl
    ]

-- a new name
pub unseen_step : (kept rest : List ResultSpec) (spec : ResultSpec) → has kept spec.name ≡ false
    → kept ++ filter (unseen kept) (once_each (spec ∷ rest)) ≡ (kept ++ spec ∷ []) ++ filter (unseen (kept ++ spec ∷ [])) (once_each rest)
unseen_step kept rest spec fresh =
    let stays : unseen kept spec ≡ true = rw fresh refl in
    let more : filter (unseen kept) (filter (λ (other : ResultSpec). not (bytes_eq spec.name other.name)) (once_each rest)) ≡ filter (unseen (kept ++ spec ∷ [])) (once_each rest)
    = filter_both (unseen kept) (λ (other : ResultSpec). not (bytes_eq spec.name other.name)) (unseen (kept ++ spec ∷ [])) both (once_each rest) in
    rw stays (ap (λ ys. kept ++ spec ∷ ys) more ∙ regroup kept spec (filter (unseen (kept ++ spec ∷ [])) (once_each rest)))
  where
    not_or : (a b : Bool) → not (a || (b || false)) ≡ (not a && not b)
    not_or true b = refl
    not_or false true = refl
    not_or false false = refl

    both : (other : ResultSpec) → unseen (kept ++ spec ∷ []) other ≡ (unseen kept other && not (bytes_eq spec.name other.name))
    both other = ap not (list_any-append (λ (s : ResultSpec). bytes_eq s.name other.name) kept (spec ∷ [])) ∙ not_or (has kept other.name) (bytes_eq spec.name other.name)

    regroup : (xs : List ResultSpec) (x : ResultSpec) (ys : List ResultSpec) → xs ++ x ∷ ys ≡ (xs ++ x ∷ []) ++ ys
    regroup [] x ys = refl
    regroup (y ∷ xs) x ys = ap (λ zs. y ∷ zs) (regroup xs x ys)

-- the same at a place of a list
pub seen_at : (kept specs : List ResultSpec) (i : ℕ) (spec : ResultSpec) → i < length specs → spec ≡ get_or specs i spec → has kept spec.name ≡ true
    → filter (unseen kept) (once_each (drop i specs)) ≡ filter (unseen kept) (once_each (drop (i + 1) specs))
seen_at kept specs i spec less is seen = ap (λ ss. filter (unseen kept) (once_each ss)) (from_here specs i spec less is) ∙ seen_step kept (drop (i + 1) specs) spec seen

pub unseen_at : (kept specs : List ResultSpec) (i : ℕ) (spec : ResultSpec) → i < length specs → spec ≡ get_or specs i spec → has kept spec.name ≡ false
    → kept ++ filter (unseen kept) (once_each (drop i specs)) ≡ (kept ++ spec ∷ []) ++ filter (unseen (kept ++ spec ∷ [])) (once_each (drop (i + 1) specs))
unseen_at kept specs i spec less is fresh =
    ap (λ ss. kept ++ filter (unseen kept) (once_each ss)) (from_here specs i spec less is) ∙ unseen_step kept (drop (i + 1) specs) spec fresh

pub none_seen : (specs : List ResultSpec) → filter (unseen []) specs ≡ specs
none_seen specs = filter_all (unseen []) specs (λ k d less. refl)

-- what it keeps

tail_has : (spec : ResultSpec) (specs : List ResultSpec) (x : ResultSpec) → Contains specs x → Contains (spec ∷ specs) x
tail_has spec specs x (k, less, is) = (suc k, omega (arith, less), is)

pub once_within : (specs : List ResultSpec) → All (Contains specs) (once_each specs)
once_within [] = All-nil (Contains [])
once_within (spec ∷ specs) =
    All-cons (Contains (spec ∷ specs)) spec (filter (λ (other : ResultSpec). not (bytes_eq spec.name other.name)) (once_each specs)) (0, omega arith, refl)
    (All-filter (λ (other : ResultSpec). not (bytes_eq spec.name other.name)) (Contains (spec ∷ specs)) (once_each specs)
    (All-weaker (Contains specs) (Contains (spec ∷ specs)) (tail_has spec specs) (once_each specs) (once_within specs)))

abbrev pub Differ : ResultSpec → ResultSpec → Type 0
Differ a b = a.name ≢ b.name

not_false : (b : Bool) → not b ≡ true → b ≡ false
not_false true is = sym is
not_false false is = refl

apart : (a b : ResultSpec) → not (bytes_eq a.name b.name) ≡ true → Differ a b
apart a b test same =
    let hit : bytes_eq a.name b.name ≡ true = (bytes_eq-Decides a.name b.name).1 same in
    let miss : bytes_eq a.name b.name ≡ false = not_false (bytes_eq a.name b.name) test in
    cc

pub once_differ : (specs : List ResultSpec) → AllPairs Differ (once_each specs)
once_differ [] = λ i j d before less. absurd (omega (arith, less))
once_differ (spec ∷ specs) =
    let rest = filter (λ (other : ResultSpec). not (bytes_eq spec.name other.name)) (once_each specs) in
    AllPairs-cons Differ spec rest
    (All-weaker (λ (other : ResultSpec). not (bytes_eq spec.name other.name) ≡ true) (Differ spec) (apart spec) rest (filter_passes (λ (other : ResultSpec). not (bytes_eq spec.name other.name)) (once_each specs)))
    (AllPairs-filter Differ (λ (other : ResultSpec). not (bytes_eq spec.name other.name)) (once_each specs) (once_differ specs))

-- of names that differ all

differ_test : (a b : ResultSpec) → Differ a b → not (bytes_eq a.name b.name) ≡ true
differ_test a b differ = elim (cases_Bool (bytes_eq a.name b.name)) [
  | inl hit ↦ absurd (differ ((bytes_eq-Decides a.name b.name).0 hit))
  | inr miss ↦ rw miss refl
]

pub none_left_out : (specs : List ResultSpec) → AllPairs Differ specs → once_each specs ≡ specs
none_left_out [] differ = refl
none_left_out (spec ∷ specs) differ =
    let rest : once_each specs ≡ specs = none_left_out specs (λ i j d before less. differ (suc i) (suc j) d (omega (arith, before)) (omega (arith, less))) in
    ap (λ ss. spec ∷ filter (λ (other : ResultSpec). not (bytes_eq spec.name other.name)) ss) rest
    ∙ ap (λ ss. spec ∷ ss) (filter_all (λ (other : ResultSpec). not (bytes_eq spec.name other.name)) specs (λ k d less. differ_test spec (get_or specs k d) (differ 0 (suc k) d (omega arith) (omega (arith, less)))))
