-- What comes first: by a key, by task and index, and among Ready tasks.
use Rattle.std.proofs.Common.{◌≡◌, ℕ, zero, suc, ◌+◌, ◌<◌, ◌≤◌, List, [], ◌∷◌, map, Option, Some, None, Bool, true, false, refl, sym, ◌∙◌, ap, subst, inl, inr, ◌⊎◌, arith, Contains}
use Rattle.std.specs.Prelude.{◌&&◌, find, nat_lt, nat_le, nat_eq}
use Rattle.std.specs.List.{list_all}
use Rattle.std.proofs.lemmas.Bool.{cases_Bool, cases_lt, and_parts, and_from, leb-true, eqb-true, eq-eqb}
use Rattle.std.proofs.lemmas.Option.{same_Some}
use Rattle.tk_types.specs.declared.verdict.Verdict.{Verdict}
use Rattle.tk_types.specs.declared.verdict.Verdict.TheVariants as labels
use Rattle.tk_journal.specs.Choice.{IsBefore}
use Rattle.tk_runrec.specs.declared.found.Found.{Found}
use Rattle.tk_runrec.specs.Found.{first_found, sooner, is_before}
use Rattle.std.specs.List.{range_with_len}
use Rattle.tk_verdict.specs.Verdict.{is_ready}
use Rattle.tk_runrec.specs.Labels.{first_ready}
use Rattle.tk_runrec.proofs.Meaning.{split, none_in, every_is, or_is, lt_is, is_lt, true_and_false, or_left, or_right}

-- by a key that rises

abbrev pub rises : {X : Type 0} → (X → ℕ) → List X → Bool
rises key [] = true
rises key (x ∷ xs) = list_all (λ y. nat_le (key x) (key y)) xs && rises key xs

pub find_least : {X : Type 0} (test : X → Bool) (key : X → ℕ) (xs : List X) (x y : X) → rises key xs ≡ true → find test xs ≡ Some x → Contains xs y → test y ≡ true → key x ≤ key y
find_least test key [] x y rising is has hit = absurd (none_in y has)
find_least test key (z ∷ xs) x y rising is has hit =
    let parts = and_parts (list_all (λ w. nat_le (key z) (key w)) xs) (rises key xs) rising in
    elim (cases_Bool (test z)) [
      | inl first ↦
          let now : Some z ≡ Some x = rw first at is in
          let same = ap key (same_Some z x now) in
          elim (split z y xs has) [
            | inl equal ↦ let keys = ap key equal in omega (arith, same, keys)
            | inr later ↦ let le = leb-true (key z) (key y) (every_is (λ w. nat_le (key z) (key w)) xs parts.0 y later) in omega (arith, same, le)
          ]
      | inr miss ↦ elim (split z y xs has) [
        | inl equal ↦ absurd (true_and_false (test z) (ap test equal ∙ hit) miss)
        | inr later ↦ find_least test key xs x y parts.1 (rw miss at is) later hit
      ]
    ]

-- by task and index

abbrev pub place : Found → List ℕ
place found = found.task ∷ found.index ∷ []

-- one is not after the other
abbrev pub NotAfter : Found → Found → Type 0
NotAfter a b = IsBefore (place a) (place b)

numbers : (t i u j : ℕ) → (t < u) ⊎ ((t ≡ u) × (i ≤ j)) → IsBefore (t ∷ i ∷ []) (u ∷ j ∷ [])
numbers t i u j (inl less) = inl less
numbers t i u j (inr (same, le)) = elim (cases_lt i j) [
  | inl less ↦ inr (same, inl less)
  | inr more ↦ inr (same, inr (omega (arith, le, more), tt))
]

of_numbers : (t i u j : ℕ) → IsBefore (t ∷ i ∷ []) (u ∷ j ∷ []) → (t < u) ⊎ ((t ≡ u) × (i ≤ j))
of_numbers t i u j (inl less) = inl less
of_numbers t i u j (inr (same, inl less)) = inr (same, omega (arith, less))
of_numbers t i u j (inr (same, inr (equal, done))) = inr (same, omega (arith, equal))

pub not_after_itself : (a : Found) → NotAfter a a
not_after_itself a = numbers a.task a.index a.task a.index (inr (refl, omega arith))

pub not_after_trans : (a b c : Found) → NotAfter a b → NotAfter b c → NotAfter a c
not_after_trans a b c first second = numbers a.task a.index c.task c.index (join (of_numbers a.task a.index b.task b.index first) (of_numbers b.task b.index c.task c.index second))
  where
    join : (a.task < b.task) ⊎ ((a.task ≡ b.task) × (a.index ≤ b.index)) → (b.task < c.task) ⊎ ((b.task ≡ c.task) × (b.index ≤ c.index)) → (a.task < c.task) ⊎ ((a.task ≡ c.task) × (a.index ≤ c.index))
    join (inl p) (inl q) = inl (omega (arith, p, q))
    join (inl p) (inr (q, r)) = inl (omega (arith, p, q))
    join (inr (p, q)) (inl r) = inl (omega (arith, p, r))
    join (inr (p, q)) (inr (r, s)) = inr (p ∙ r, omega (arith, q, s))

before_is : (a b : Found) → is_before a b ≡ true → NotAfter a b
before_is a b is = elim (or_is (nat_lt a.task b.task) (nat_eq a.task b.task && nat_lt a.index b.index) is) [
  | inl less ↦ inl (lt_is a.task b.task less)
  | inr same ↦
      let parts = and_parts (nat_eq a.task b.task) (nat_lt a.index b.index) same in
      inr (eqb-true a.task b.task parts.0, inl (lt_is a.index b.index parts.1))
]

not_before_is : (a b : Found) → is_before a b ≡ false → NotAfter b a
not_before_is a b miss = elim (cases_lt a.task b.task) [
  | inl less ↦ absurd (true_and_false (is_before a b) (by_task less) miss)
  | inr more ↦ elim (cases_lt b.task a.task) [
    | inl later ↦ inl later
    | inr other ↦ elim (cases_lt a.index b.index) [
      | inl less ↦ absurd (true_and_false (is_before a b) (by_index (omega (arith, more, other)) less) miss)
      | inr le ↦ numbers b.task b.index a.task a.index (inr (omega (arith, more, other), le))
    ]
  ]
]
  where
    by_task : a.task < b.task → is_before a b ≡ true
    by_task less = or_left (nat_lt a.task b.task) (nat_eq a.task b.task && nat_lt a.index b.index) (is_lt a.task b.task less)

    by_index : a.task ≡ b.task → a.index < b.index → is_before a b ≡ true
    by_index same less = or_right (nat_lt a.task b.task) (nat_eq a.task b.task && nat_lt a.index b.index) (and_from (nat_eq a.task b.task) (nat_lt a.index b.index) (eq-eqb a.task b.task same) (is_lt a.index b.index less))

sooner_least : (best found : Option Found) (f : Found) → sooner best found ≡ Some f → ((b : Found) → best ≡ Some b → NotAfter f b) × ((g : Found) → found ≡ Some g → NotAfter f g)
sooner_least None None f is = absurd (cc (is))
sooner_least (Some best) None f is =
    let same = same_Some best f is in
    ((λ b at. subst (NotAfter f) (sym same ∙ same_Some best b at) (not_after_itself f)), (λ g at. absurd (cc (at))))
sooner_least None (Some found) f is =
    let same = same_Some found f is in
    ((λ b at. absurd (cc (at))), (λ g at. subst (NotAfter f) (sym same ∙ same_Some found g at) (not_after_itself f)))
sooner_least (Some best) (Some found) f is = elim (cases_Bool (is_before found best)) [
  | inl hit ↦
      let now : Some found ≡ Some f = rw hit at is in
      let same = same_Some found f now in
      let before = subst (λ (x : Found). NotAfter x best) same (before_is found best hit) in
      ((λ b at. subst (NotAfter f) (same_Some best b at) before), (λ g at. subst (NotAfter f) (sym same ∙ same_Some found g at) (not_after_itself f)))
  | inr miss ↦
      let now : Some best ≡ Some f = rw miss at is in
      let same = same_Some best f now in
      let before = subst (λ (x : Found). NotAfter x found) same (not_before_is found best miss) in
      ((λ b at. subst (NotAfter f) (sym same ∙ same_Some best b at) (not_after_itself f)), (λ g at. subst (NotAfter f) (same_Some found g at) before))
]

some_sooner : (best found : Option Found) (f : Found) → (best ≡ Some f) ⊎ (found ≡ Some f) → (s : Found) × (sooner best found ≡ Some s)
some_sooner None None f (inl is) = absurd (cc (is))
some_sooner None None f (inr is) = absurd (cc (is))
some_sooner (Some best) None f is = (best, refl)
some_sooner None (Some found) f is = (found, refl)
some_sooner (Some best) (Some found) f is = elim (cases_Bool (is_before found best)) [
  | inl hit ↦ (found, rw hit refl)
  | inr miss ↦ (best, rw miss refl)
]

module _ {X : Type 0} (finds : X → Option Found) where
  -- nothing stays found
  kept : (b : Found) (xs : List X) → first_found finds (Some b) xs ≡ None → ⊥
  kept b [] none = absurd (cc (none))
  kept b (x ∷ xs) none =
      let s = some_sooner (Some b) (finds x) b (inl refl) in
      kept s.0 xs (subst (λ (o : Option Found). first_found finds o xs ≡ None) s.1 none)

  pub found_none : (xs : List X) (y : X) (g : Found) → first_found finds None xs ≡ None → Contains xs y → finds y ≡ Some g → ⊥
  found_none [] y g none has at = none_in y has
  found_none (x ∷ xs) y g none has at = elim (split x y xs has) [
    | inl same ↦
        let at_x = ap finds same ∙ at in
        let s = some_sooner None (finds x) g (inr at_x) in
        kept s.0 xs (subst (λ (o : Option Found). first_found finds o xs ≡ None) s.1 none)
    | inr later ↦ by_first (finds x) refl (λ rest. found_none xs y g rest later at)
  ]
    where
      by_first : (o : Option Found) → finds x ≡ o → (first_found finds None xs ≡ None → ⊥) → ⊥
      by_first None here rest = rest (subst (λ (o : Option Found). first_found finds (sooner None o) xs ≡ None) here none)
      by_first (Some b) here rest = kept b xs (subst (λ (o : Option Found). first_found finds (sooner None o) xs ≡ None) here none)

  -- what is found is not after what was known, nor after what any element gives
  least_known : (best : Option Found) (xs : List X) (f b : Found) → first_found finds best xs ≡ Some f → best ≡ Some b → NotAfter f b
  least_known best [] f b is at = subst (NotAfter f) (same_Some f b (sym is ∙ at)) (not_after_itself f)
  least_known best (x ∷ xs) f b is at =
      let s = some_sooner best (finds x) b (inl at) in
      let least = least_known (sooner best (finds x)) xs f s.0 is s.1 in
      not_after_trans f s.0 b least ((sooner_least best (finds x) s.0 s.1).0 b at)

  pub least_found : (best : Option Found) (xs : List X) (f : Found) (y : X) (g : Found) → first_found finds best xs ≡ Some f → Contains xs y → finds y ≡ Some g → NotAfter f g
  least_found best [] f y g is has at = absurd (none_in y has)
  least_found best (x ∷ xs) f y g is has at = elim (split x y xs has) [
    | inl same ↦
        let at_x = ap finds same ∙ at in
        let s = some_sooner best (finds x) g (inr at_x) in
        let least = least_known (sooner best (finds x)) xs f s.0 is s.1 in
        not_after_trans f s.0 g least ((sooner_least best (finds x) s.0 s.1).1 g at_x)
    | inr later ↦ least_found (sooner best (finds x)) xs f y g is later at
  ]

-- among Ready tasks

pub is_ready_of : (label : Verdict) → label ≡ labels.Ready → is_ready label ≡ true
is_ready_of label same = rw same refl

pub ready_least : (label : ℕ → Verdict) (may : ℕ → Bool) (first n task : ℕ) → first ≤ task → task < first + n → label task ≡ labels.Ready → may task ≡ true → (found : ℕ) × (first_ready may first (map label (range_with_len first n)) ≡ Some found) × (found ≤ task)
ready_least label may first zero task from below ready going = absurd (omega (arith, from, below))
ready_least label may first (suc n) task from below ready going = elim (cases_Bool (is_ready (label first) && may first)) [
  | inl hit ↦ (first, rw hit refl, omega (arith, from))
  | inr miss ↦ elim (cases_lt first task) [
    | inl less ↦
        let rest = ready_least label may (suc first) n task (omega (arith, less)) (omega (arith, below)) ready going in
        let e : first + 1 ≡ suc first = omega arith in
        (rest.0, rw (miss, e) rest.1, rest.2)
    | inr more ↦
        let same : first ≡ task = omega (arith, from, more) in
        let hit : (is_ready (label task) && may task) ≡ true = and_from (is_ready (label task)) (may task) (is_ready_of (label task) ready) going in
        absurd (true_and_false (is_ready (label first) && may first) (subst (λ (t : ℕ). (is_ready (label t) && may t) ≡ true) (sym same) hit) miss)
  ]
]
