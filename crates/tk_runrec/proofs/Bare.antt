-- Tasks without children, counted.
use Rattle.std.proofs.Common.{◌≡◌, ◌≢◌, ℕ, zero, suc, ◌+◌, ◌<◌, ◌≤◌, List, [], ◌∷◌, length, get_or, Bool, true, false, refl, sym, ◌∙◌, ap, ap₂, inl, inr, arith, cond}
use Rattle.std.specs.Prelude.{filter, not, ◌&&◌, ◌||◌, nat_lt, nat_eq, if◌then◌else◌}
use Rattle.std.specs.List.{list_any, range_with_len}
use Rattle.std.proofs.lemmas.Bool.{cases_Bool, cases_lt, eqb-true, eq-eqb, ltb-true, le-leb}
use Rattle.tk_types.specs.Lists.{is_empty}
use Rattle.tk_journal.specs.declared.object.Scheduled.{Scheduled}
use Rattle.tk_runrec.specs.Fit.{AreApart}
use Rattle.tk_runrec.specs.Tests.{is_bare, has_children}

is_lt : (a b : ℕ) → a < b → nat_lt a b ≡ true
is_lt a b less = le-leb (suc a) b (omega (arith, less))

not_lt : (a b : ℕ) → b ≤ a → nat_lt a b ≡ false
not_lt a b le = elim (cases_Bool (nat_lt a b)) [
  | inl hit ↦ let less = ltb-true a b hit in absurd (omega (arith, less, le))
  | inr miss ↦ miss
]

apart_from : (a n : ℕ) → a ≡ n → nat_eq a n ≡ false → ⊥
apart_from a n same apart = let hit = eq-eqb a n same in absurd (cc (hit, apart))

lt_other : (a n : ℕ) → nat_eq a n ≡ false → nat_lt a (suc n) ≡ nat_lt a n
lt_other a n apart = elim (cases_lt a n) [
  | inl less ↦ is_lt a (suc n) (omega (arith, less)) ∙ sym (is_lt a n less)
  | inr more ↦ elim (cases_lt n a) [
    | inl above ↦ not_lt a (suc n) (omega (arith, above)) ∙ sym (not_lt a n more)
    | inr below ↦ let same : a ≡ n = omega (arith, more, below) in absurd (apart_from a n same apart)
  ]
]

lt_again : (a b : ℕ) → nat_lt (suc a) (suc b) ≡ nat_lt a b
lt_again a b = elim (cases_lt a b) [
  | inl less ↦ is_lt (suc a) (suc b) (omega (arith, less)) ∙ sym (is_lt a b less)
  | inr more ↦ not_lt (suc a) (suc b) (omega (arith, more)) ∙ sym (not_lt a b more)
]

module _ (n : ℕ) where
  abbrev before : Scheduled → Bool
  before part = has_children n part

  abbrev after : Scheduled → Bool
  after part = has_children (suc n) part

  abbrev one : Bool → ℕ
  one b = cond b 1 0

  same_other : (s : Scheduled) → nat_eq s.task n ≡ false → after s ≡ before s
  same_other s miss = ap (λ (b : Bool). b && not (is_empty s.bindings)) (lt_other s.task n miss)

  not_before : (s : Scheduled) → nat_eq s.task n ≡ true → before s ≡ false
  not_before s hit = let same = eqb-true s.task n hit in ap (λ (b : Bool). b && not (is_empty s.bindings)) (not_lt s.task n (omega (arith, same)))

  is_after : (s : Scheduled) → nat_eq s.task n ≡ true → after s ≡ not (is_empty s.bindings)
  is_after s hit = let same = eqb-true s.task n hit in ap (λ (b : Bool). b && not (is_empty s.bindings)) (is_lt s.task (suc n) (omega (arith, same)))

  abbrev size : (Scheduled → Bool) → List Scheduled → ℕ
  size test ss = length (filter test ss)

  one_more : (b : Bool) (s : Scheduled) (ss : List Scheduled) → length (if b then s ∷ ss else ss) ≡ one b + length ss
  one_more true s ss = omega arith
  one_more false s ss = omega arith

  size_more : (test : Scheduled → Bool) (s : Scheduled) (ss : List Scheduled) → size test (s ∷ ss) ≡ one (test s) + size test ss
  size_more test s ss = one_more (test s) s (filter test ss)

  -- none of them is of the task
  none_of : (ss : List Scheduled) → ((k : ℕ) (d : Scheduled) → k < length ss → n ≢ (get_or ss k d).task) → size after ss ≡ size before ss
  none_of [] apart = refl
  none_of (s ∷ ss) apart = elim (cases_Bool (nat_eq s.task n)) [
    | inl hit ↦ absurd (apart 0 s (omega arith) (sym (eqb-true s.task n hit)))
    | inr miss ↦
        size_more after s ss
        ∙ ap₂ (λ (b : Bool) (m : ℕ). one b + m) (same_other s miss) (none_of ss (λ k d below. apart (suc k) d (omega (arith, below))))
        ∙ sym (size_more before s ss)
  ]

  one_not : (b : Bool) (m : ℕ) → one (not b) + m ≡ cond b 0 1 + m
  one_not true m = refl
  one_not false m = refl

  zero_more : (m : ℕ) → 0 + m ≡ m
  zero_more m = omega arith

  swapped : (a b m : ℕ) → a + (b + m) ≡ b + (a + m)
  swapped a b m = omega arith

  counted_more : (ss : List Scheduled) → AreApart ss → size after ss ≡ cond (is_bare ss n) 0 1 + size before ss
  counted_more [] once = refl
  counted_more (s ∷ ss) once = elim (cases_Bool (nat_eq s.task n)) [
    | inl hit ↦
        let same = eqb-true s.task n hit in
        let rest = none_of ss (λ k d below mine. once 0 (suc k) d (omega arith) (omega (arith, below)) (same ∙ mine)) in
        let bare : is_bare (s ∷ ss) n ≡ is_empty s.bindings = rw hit refl in
        let gone : size before (s ∷ ss) ≡ size before ss = size_more before s ss ∙ ap (λ (b : Bool). one b + size before ss) (not_before s hit) ∙ zero_more (size before ss) in
        size_more after s ss
        ∙ ap₂ (λ (b : Bool) (m : ℕ). one b + m) (is_after s hit) rest
        ∙ one_not (is_empty s.bindings) (size before ss)
        ∙ ap₂ (λ (b : Bool) (m : ℕ). cond b 0 1 + m) (sym bare) (sym gone)
    | inr miss ↦
        let bare : is_bare (s ∷ ss) n ≡ is_bare ss n = rw miss refl in
        let rest = counted_more ss (λ i j d less below. once (suc i) (suc j) d (omega (arith, less)) (omega (arith, below))) in
        size_more after s ss
        ∙ ap₂ (λ (b : Bool) (m : ℕ). one b + m) (same_other s miss) rest
        ∙ swapped (one (before s)) (cond (is_bare ss n) 0 1) (size before ss)
        ∙ ap₂ (λ (b : Bool) (m : ℕ). cond b 0 1 + m) (sym bare) (sym (size_more before s ss))
  ]

or_last : (a b c : Bool) → (a || (b || c)) ≡ (a || b || c)
or_last true b c = refl
or_last false b c = refl

or_true : (a b : Bool) → b ≡ true → (a || b) ≡ true
or_true true b hit = refl
or_true false b hit = hit

or_none : (b : Bool) → (b || false) ≡ b
or_none true = refl
or_none false = refl

any_more : (test : ℕ → Bool) (first n : ℕ) → list_any test (range_with_len first (suc n)) ≡ (list_any test (range_with_len first n) || test (first + n))
any_more test first zero = let z : first ≡ first + 0 = omega arith in or_none (test first) ∙ ap test z
any_more test first (suc n) =
    let e : first + 1 + n ≡ first + suc n = omega arith in
    ap (λ (b : Bool). test first || b) (any_more test (first + 1) n ∙ ap (λ (k : ℕ). list_any test (range_with_len (first + 1) n) || test k) e)
    ∙ or_last (test first) (list_any test (range_with_len (first + 1) n)) (test (first + suc n))

record IsCounted (ss : List Scheduled) (n : ℕ) : Type 0 where
  few : length (filter (has_children n) ss) ≤ n
  less : nat_lt (length (filter (has_children n) ss)) n ≡ list_any (is_bare ss) (range_with_len 0 n)

none_first : (ss : List Scheduled) → length (filter (has_children 0) ss) ≡ 0
none_first [] = refl
none_first (s ∷ ss) = let miss : has_children 0 s ≡ false = ap (λ (b : Bool). b && not (is_empty s.bindings)) (not_lt s.task 0 (omega arith)) in rw miss (none_first ss)

one_counted : (ss : List Scheduled) (n : ℕ) → AreApart ss → IsCounted ss n → (b : Bool) → is_bare ss n ≡ b → IsCounted ss (suc n)
one_counted ss n once rest true hit =
    let few = rest.few in
    let size : length (filter (has_children (suc n)) ss) ≡ 0 + length (filter (has_children n) ss) = counted_more n ss once ∙ ap (λ (b : Bool). cond b 0 1 + length (filter (has_children n) ss)) hit in
    let z : 0 + n ≡ n = omega arith in
    let any : list_any (is_bare ss) (range_with_len 0 (suc n)) ≡ true = any_more (is_bare ss) 0 n ∙ or_true (list_any (is_bare ss) (range_with_len 0 n)) (is_bare ss (0 + n)) (ap (is_bare ss) z ∙ hit) in
    record { few = omega (arith, few, size); less = is_lt _ (suc n) (omega (arith, few, size)) ∙ sym any }
one_counted ss n once rest false miss =
    let few = rest.few in
    let size : length (filter (has_children (suc n)) ss) ≡ 1 + length (filter (has_children n) ss) = counted_more n ss once ∙ ap (λ (b : Bool). cond b 0 1 + length (filter (has_children n) ss)) miss in
    let e : 1 + length (filter (has_children n) ss) ≡ suc (length (filter (has_children n) ss)) = omega arith in
    let z : 0 + n ≡ n = omega arith in
    let any : list_any (is_bare ss) (range_with_len 0 (suc n)) ≡ list_any (is_bare ss) (range_with_len 0 n) =
    any_more (is_bare ss) 0 n ∙ ap (λ (b : Bool). list_any (is_bare ss) (range_with_len 0 n) || b) (ap (is_bare ss) z ∙ miss) ∙ or_none (list_any (is_bare ss) (range_with_len 0 n)) in
    record { few = omega (arith, few, size); less = ap (λ (k : ℕ). nat_lt k (suc n)) (size ∙ e) ∙ lt_again (length (filter (has_children n) ss)) n ∙ rest.less ∙ sym any }

counted : (ss : List Scheduled) → AreApart ss → (n : ℕ) → IsCounted ss n
counted ss once zero = let none = none_first ss in record { few = omega (arith, none); less = not_lt (length (filter (has_children 0) ss)) 0 (omega arith) }
counted ss once (suc n) = one_counted ss n once (counted ss once n) (is_bare ss n) refl

-- fewer parts with children than tasks: one has none
pub fewer : (ss : List Scheduled) (n : ℕ) → AreApart ss → nat_lt (length (filter (has_children n) ss)) n ≡ list_any (is_bare ss) (range_with_len 0 n)
fewer ss n once = (counted ss once n).less
