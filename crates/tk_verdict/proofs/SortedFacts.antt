-- A stable sort gives the one list in order that keeps the order of equal keys.
use Rattle.std.proofs.Common.{◌≡◌, ℕ, zero, suc, ◌<◌, ◌≤◌, Bool, true, false, cond, List, [], ◌∷◌, length, get_or, map, filter, nat_cmp, is_lt, refl, sym, ap, ◌∙◌, arith, inl, inr, suc-le-suc, zero-le}
use Rattle.std.specs.Prelude.{nat_le}
use Rattle.std.specs.List.Sorted.{ties, IsNonDecreasingBy, IsStableByKey}
use Rattle.std.proofs.lemmas.Bool.{cond-true, cond-false, cases_Bool, leb-true, leb-false}
use Rattle.std.proofs.lemmas.Bool.Decides.{nat_tests}
use Rattle.tk_types.specs.declared.run.Child.{Child}
use Rattle.tk_verdict.specs.Available.{with_child, by_index}

ties_at : (m n : ℕ) → (ties (λ x y. is_lt (nat_cmp x y)) m n ≡ true → m ≡ n) × (m ≡ n → ties (λ x y. is_lt (nat_cmp x y)) m n ≡ true)
ties_at m n = (λ h. grind (arith, nat_tests), λ h. grind (arith, nat_tests))

module _ {X : Type 0} (key : X → ℕ) where
  -- an element in its place, and all in their places
  abbrev put : X → List X → List X
  put x [] = x ∷ []
  put x (y ∷ ys) = cond (nat_le (key x) (key y)) (x ∷ y ∷ ys) (y ∷ put x ys)

  abbrev in_order : List X → List X
  in_order [] = []
  in_order (x ∷ xs) = put x (in_order xs)

  abbrev same : X → X → Bool
  same = ties (λ x y. is_lt (nat_cmp (key x) (key y)))

  same-true : (x y : X) → same x y ≡ true → key x ≡ key y
  same-true x y = (ties_at (key x) (key y)).0

  same_from : (x y : X) → key x ≡ key y → same x y ≡ true
  same_from x y = (ties_at (key x) (key y)).1

  kept : (p : X → Bool) (y : X) (ys : List X) → p y ≡ true → filter p (y ∷ ys) ≡ y ∷ filter p ys
  kept p y ys h = cond-true _ _ _ h

  dropped : (p : X → Bool) (y : X) (ys : List X) → p y ≡ false → filter p (y ∷ ys) ≡ filter p ys
  dropped p y ys h = cond-false _ _ _ h

  -- an element that is put after a lower one is kept by at most one of their tests
  filter-put : (x c : X) (ds : List X) → filter (same x) (put c ds) ≡ filter (same x) (c ∷ ds)
  filter-put x c [] = refl
  filter-put x c (d ∷ ds) =
      let p = same x in
      elim (cases_Bool (nat_le (key c) (key d))) [
        | inl first ↦ ap (filter p) (cond-true _ _ _ first)
        | inr past ↦
            let lower = leb-false (key c) (key d) past in
            ap (filter p) (cond-false _ _ _ past)
            ∙ elim (cases_Bool (p d)) [
              | inr without ↦ dropped p d (put c ds) without ∙ (filter-put x c ds ∙ ap (λ l. cond (p c) (c ∷ l) l) (sym (dropped p d ds without)))
              | inl with ↦
                  elim (cases_Bool (p c)) [
                    | inl both ↦ absurd (omega (arith, lower, same-true x c both, same-true x d with))
                    | inr only ↦ kept p d (put c ds) with ∙ (ap (λ l. d ∷ l) (filter-put x c ds ∙ dropped p c ds only) ∙ sym (dropped p c (d ∷ ds) only ∙ kept p d ds with))
                  ]
            ]
      ]

  filter-in_order : (x : X) (cs : List X) → filter (same x) (in_order cs) ≡ filter (same x) cs
  filter-in_order x [] = refl
  filter-in_order x (c ∷ cs) = filter-put x c (in_order cs) ∙ ap (λ l. cond (same x c) (c ∷ l) l) (filter-in_order x cs)

  abbrev AreAtLeast : ℕ → List X → Type 0
  AreAtLeast n [] = Unit {0}
  AreAtLeast n (y ∷ ys) = (n ≤ key y) × AreAtLeast n ys

  abbrev Rises : List X → Type 0
  Rises [] = Unit {0}
  Rises (y ∷ ys) = AreAtLeast (key y) ys × Rises ys

  AreAtLeast-le : (n m : ℕ) (ys : List X) → n ≤ m → AreAtLeast m ys → AreAtLeast n ys
  AreAtLeast-le n m [] le h = tt
  AreAtLeast-le n m (y ∷ ys) le h = let first = h.0 in (omega arith, AreAtLeast-le n m ys le h.1)

  AreAtLeast-at : (n : ℕ) (ys : List X) → ((j : ℕ) (d : X) → j < length ys → n ≤ key (get_or ys j d)) → AreAtLeast n ys
  AreAtLeast-at n [] h = tt
  AreAtLeast-at n (y ∷ ys) h = (h zero y (suc-le-suc zero-le), AreAtLeast-at n ys (λ j d lt. h (suc j) d (suc-le-suc lt)))

  Rises-from_sort : (ys : List X) → IsNonDecreasingBy key ys → Rises ys
  Rises-from_sort [] h = tt
  Rises-from_sort (y ∷ ys) h = (
    AreAtLeast-at (key y) ys (λ j d lt. h zero (suc j) d zero-le (suc-le-suc lt)),
    Rises-from_sort ys (λ i j d le lt. h (suc i) (suc j) d (suc-le-suc le) (suc-le-suc lt)),
  )

  either : (P : List X → Type 0) (b : Bool) (xs ys : List X) → (b ≡ true → P xs) → (b ≡ false → P ys) → P (cond b xs ys)
  either P true xs ys f g = f refl
  either P false xs ys f g = g refl

  AreAtLeast-put : (n : ℕ) (c : X) (ds : List X) → n ≤ key c → AreAtLeast n ds → AreAtLeast n (put c ds)
  AreAtLeast-put n c [] le h = (le, tt)
  AreAtLeast-put n c (d ∷ ds) le h = either (AreAtLeast n) (nat_le (key c) (key d)) _ _ (λ first. (le, h)) (λ past. (h.0, AreAtLeast-put n c ds le h.1))

  Rises-put : (c : X) (ds : List X) → Rises ds → Rises (put c ds)
  Rises-put c [] h = (tt, tt)
  Rises-put c (d ∷ ds) h =
      either Rises (nat_le (key c) (key d)) _ _
      (λ first. let le = leb-true (key c) (key d) first in ((le, AreAtLeast-le (key c) (key d) ds le h.0), h))
      (λ past. let lt = leb-false (key c) (key d) past in (AreAtLeast-put (key d) c ds (omega arith) h.0, Rises-put c ds h.1))

  Rises-in_order : (cs : List X) → Rises (in_order cs)
  Rises-in_order [] = tt
  Rises-in_order (c ∷ cs) = Rises-put c (in_order cs) (Rises-in_order cs)

  -- the key of x occurs among them
  AreAtLeast-found : (n : ℕ) (x : X) (ys : List X) (w : X) (ws : List X) → AreAtLeast n ys → filter (same x) ys ≡ w ∷ ws → n ≤ key x
  AreAtLeast-found n x [] w ws h e = cc
  AreAtLeast-found n x (y ∷ ys) w ws h e =
      elim (cases_Bool (same x y)) [
        | inl with ↦ omega (arith, h.0, same-true x y with)
        | inr without ↦ AreAtLeast-found n x ys w ws h.1 (sym (dropped (same x) y ys without) ∙ e)
      ]

  -- two lists in order that have the same elements of each key, in the same order, are equal
  same_lists : (ys zs : List X) → Rises ys → Rises zs → ((x : X) → filter (same x) ys ≡ filter (same x) zs) → ys ≡ zs
  same_lists [] [] left right each = refl
  same_lists [] (z ∷ zs) left right each =
      let clash = each z ∙ kept (same z) z zs (same_from z z refl) in cc
  same_lists (y ∷ ys) [] left right each =
      let clash = sym (each y) ∙ kept (same y) y ys (same_from y y refl) in cc
  same_lists (y ∷ ys) (z ∷ zs) left right each =
      let at_y = kept (same y) y ys (same_from y y refl) in
      let at_z = kept (same z) z zs (same_from z z refl) in
      let up = AreAtLeast-found (key z) y (z ∷ zs) y _ (omega arith, right.0) (sym (each y) ∙ at_y) in
      let down = AreAtLeast-found (key y) z (y ∷ ys) z _ (omega arith, left.0) (each z ∙ at_z) in
      let heads = sym at_y ∙ (each y ∙ kept (same y) z zs (same_from y z (omega arith))) in
      let head : y ≡ z = cc in
      let tails : (x : X) → filter (same x) ys ≡ filter (same x) zs =
      λ x. elim (cases_Bool (same x y)) [
        | inl with ↦
            let both = sym (kept (same x) y ys with) ∙ (each x ∙ kept (same x) z zs (ap (same x) (sym head) ∙ with)) in cc
        | inr without ↦ sym (dropped (same x) y ys without) ∙ (each x ∙ dropped (same x) z zs (ap (same x) (sym head) ∙ without))
      ] in
      ap (λ w. w ∷ ys) head ∙ ap (λ l. z ∷ l) (same_lists ys zs left.1 right.1 tails)

  in_order-from_sort : (xs ys : List X) → IsNonDecreasingBy key ys → IsStableByKey key nat_cmp xs ys → ys ≡ in_order xs
  in_order-from_sort xs ys sorted stable =
      same_lists ys (in_order xs) (Rises-from_sort ys sorted) (Rises-in_order xs) (λ x. stable x ∙ sym (filter-in_order x xs))

map-cond : {X Y : Type 0} (f : X → Y) (b : Bool) (xs ys : List X) → map f (cond b xs ys) ≡ cond b (map f xs) (map f ys)
map-cond f true xs ys = refl
map-cond f false xs ys = refl

map-put : {X : Type 0} (f : X → Child) (x : X) (xs : List X) → map f (put (λ y. (f y).index) x xs) ≡ with_child (f x) (map f xs)
map-put f x [] = refl
map-put f x (y ∷ ys) =
    let b = nat_le (f x).index (f y).index in
    map-cond f b _ _ ∙ ap (λ cs. cond b (f x ∷ f y ∷ map f ys) (f y ∷ cs)) (map-put f x ys)

map-in_order : {X : Type 0} (f : X → Child) (xs : List X) → map f (in_order (λ y. (f y).index) xs) ≡ by_index (map f xs)
map-in_order f [] = refl
map-in_order f (x ∷ xs) = map-put f x (in_order (λ y. (f y).index) xs) ∙ ap (with_child (f x)) (map-in_order f xs)

-- what a stable sort by index gives
pub by_index-from_sort : {X : Type 0} (f : X → Child) (xs ys : List X) → IsNonDecreasingBy (λ y. (f y).index) ys → IsStableByKey (λ y. (f y).index) nat_cmp xs ys → map f ys ≡ by_index (map f xs)
by_index-from_sort f xs ys sorted stable = ap (map f) (in_order-from_sort (λ y. (f y).index) xs ys sorted stable) ∙ map-in_order f xs
