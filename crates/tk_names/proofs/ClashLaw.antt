-- A clash is the first: what `clash` finds, and what it means to find none.
use Rattle.std.proofs.Common.{◌≡◌, ◌≢◌, ℕ, zero, suc, ◌<◌, ◌≤◌, List, [], take, length, get_or, Bool, true, false, nat_lt, Option, Some, None, refl, sym, ap, ⊎_elim, ◌∙◌, arith, bytes_eq, inl, inr}
use Rattle.std.specs.Prelude.{◌⊎◌, ◌↔◌, option_map}
use Rattle.std.specs.List.{position, position_or_len}
use Rattle.std.proofs.lemmas.Bool.{cases_Bool, cases_order, false≢true, false_from_ne_true}
use Rattle.std.proofs.lemmas.Bool.Decides.{nat_tests}
use Rattle.std.proofs.lemmas.List.{length-take-le, get_or-take}
use Rattle.std.proofs.lemmas.List.Quantifiers.{position-Some}
use Rattle.std.proofs.lemmas.List.Sums.{position_or_len_is, fails_before_first}
use Rattle.std.proofs.lemmas.Option.{none-some}
use Rattle.std.proofs.lemmas.Slice.Eq.{bytes_eq-Decides}
use Rattle.tk_names.specs.Clash.{with_earlier, clash, name_at, DifferBelow, IsClash}
use Rattle.tk_names.proofs.Earlier.{clash-none, clash-found, with_earlier-is}

-- ---- the first place at which a test passes
position_is : (test : List ℕ → Bool) (xs : List (List ℕ)) (i : ℕ) → i < length xs → ((k : ℕ) → k < i → test (get_or xs k []) ≡ false) → test (get_or xs i []) ≡ true → position test xs ≡ Some i
position_is test xs i inside before here =
    let at : position_or_len test xs ≡ i = position_or_len_is test xs i [] (omega arith) before (λ _. here) in
    let yes : nat_lt i (length xs) ≡ true = grind (arith, nat_tests) in
    rw (at, yes) refl

position_none : (test : List ℕ → Bool) (xs : List (List ℕ)) → ((k : ℕ) → k < length xs → test (get_or xs k []) ≡ false) → position test xs ≡ None
position_none test xs before =
    let at : position_or_len test xs ≡ length xs = position_or_len_is test xs (length xs) [] (omega arith) before (λ past. absurd (omega arith)) in
    let no : nat_lt (length xs) (length xs) ≡ false = grind (arith, nat_tests) in
    rw (at, no) refl

none_passes : (test : List ℕ → Bool) (xs : List (List ℕ)) → position test xs ≡ None → (k : ℕ) → k < length xs → test (get_or xs k []) ≡ false
none_passes test xs none k inside =
    ⊎_elim
    (λ t. let yes : nat_lt (position_or_len test xs) (length xs) ≡ true = t in
    absurd (none-some (position_or_len test xs) (sym (rw yes at none))))
    (λ f. let no : nat_lt (position_or_len test xs) (length xs) ≡ false = f in
    let past : length xs ≤ position_or_len test xs = grind (arith, nat_tests) in
    fails_before_first test xs k [] (omega arith))
    (cases_Bool (nat_lt (position_or_len test xs) (length xs)))

-- ---- of the names before a place
differs : (x y : List ℕ) → x ≢ y → bytes_eq x y ≡ false
differs x y apart = false_from_ne_true _ (λ yes. apart ((bytes_eq-Decides x y).0 yes))

is_apart : (x y : List ℕ) → bytes_eq x y ≡ false → x ≢ y
is_apart x y e same = false≢true (sym e ∙ (bytes_eq-Decides x y).1 same)

mapped_none : {X Y : Type 0} (f : X → Y) (o : Option X) → option_map f o ≡ None → o ≡ None
mapped_none f None e = refl
mapped_none f (Some x) e = absurd (none-some (f x) (sym e))

-- no earlier name is this one
no_earlier : (names : List (List ℕ)) (i : ℕ) → i ≤ length names → ((k : ℕ) → k < i → name_at names k ≢ name_at names i) → with_earlier names (i, name_at names i) ≡ None
no_earlier names i inside apart =
    let long : length (take i names) ≡ i = length-take-le i names inside in
    with_earlier-is names i (name_at names i) None refl (position_none (bytes_eq (name_at names i)) (take i names) (λ k below.
    let less : k < i = omega arith in
    rw (get_or-take i names k [] less) (differs (name_at names i) (name_at names k) (λ same. apart k less (sym same)))))

earlier_differ : (names : List (List ℕ)) (i : ℕ) → i ≤ length names → with_earlier names (i, name_at names i) ≡ None → (k : ℕ) → k < i → name_at names k ≢ name_at names i
earlier_differ names i inside none k less same =
    let long : length (take i names) ≡ i = length-take-le i names inside in
    let nothing = mapped_none (λ (earlier : ℕ). (earlier, i)) (position (bytes_eq (name_at names i)) (take i names)) none in
    let no = none_passes (bytes_eq (name_at names i)) (take i names) nothing k (omega arith) in
    is_apart (name_at names i) (name_at names k) (rw (get_or-take i names k [] less) at no) (sym same)

below_or_at : (k end : ℕ) → k ≤ end → (k < end) ⊎ (k ≡ end)
below_or_at k end h =
    elim (cases_order k end) [
      | inl same ↦ inr same
      | inr (inl less) ↦ inl less
      | inr (inr more) ↦ absurd (omega arith)
    ]

-- up to a place nothing stood earlier, or there is the first place whose name did
record Found (names : List (List ℕ)) (end : ℕ) : Type 0 where
  later : ℕ
  earlier : ℕ
  inside : later < end
  before : (k : ℕ) → k < later → with_earlier names (k, name_at names k) ≡ None
  here : position (bytes_eq (name_at names later)) (take later names) ≡ Some earlier

search_one : (names : List (List ℕ)) (end : ℕ) → ((k : ℕ) → k < end → with_earlier names (k, name_at names k) ≡ None) → (o : Option ℕ) → position (bytes_eq (name_at names end)) (take end names) ≡ o → ((k : ℕ) → k < suc end → with_earlier names (k, name_at names k) ≡ None) ⊎ Found names (suc end)
search_one names end none None is =
    let here = with_earlier-is names end (name_at names end) None refl is in
    inl (λ k below. ⊎_elim (λ less. none k less) (λ same. rw same here) (below_or_at k end (omega arith)))
search_one names end none (Some earlier) is =
    inr (record { later = end; earlier = earlier; inside = omega arith; before = none; here = is })

search_from : (names : List (List ℕ)) (end : ℕ) → ((k : ℕ) → k < end → with_earlier names (k, name_at names k) ≡ None) ⊎ Found names end
search_from names zero = inl (λ k below. absurd (omega arith))
search_from names (suc end) =
    elim (search_from names end) [
      | inr f ↦ inr (record { later = f.later; earlier = f.earlier; inside = omega (arith, f.inside); before = f.before; here = f.here })
      | inl none ↦ search_one names end none (position (bytes_eq (name_at names end)) (take end names)) refl
    ]

-- ---- both ways
pub clash-none_is : (names : List (List ℕ)) → (clash names ≡ None) ↔ DifferBelow names (length names)
clash-none_is names = (
  λ e i j less inside. elim (search_from names (length names)) [
    | inl none ↦ earlier_differ names j (omega arith) (none j inside) i less
    | inr f ↦ absurd (none-some (f.earlier, f.later) (sym e ∙ clash-found names f.earlier f.later f.inside f.before (with_earlier-is names f.later (name_at names f.later) (Some f.earlier) refl f.here)))
  ],
  λ apart. clash-none names (length names) (omega arith) (λ k inside. no_earlier names k (omega arith) (λ j less. apart j k less inside)),
)

found_is : (names : List (List ℕ)) (end : ℕ) → end ≤ length names → (f : Found names end) → IsClash names f.earlier f.later
found_is names end whole f =
    let long : length (take f.later names) ≡ f.later = length-take-le f.later names (omega (arith, f.inside)) in
    let first = position-Some (bytes_eq (name_at names f.later)) (take f.later names) f.earlier [] f.here in
    let less : f.earlier < f.later = omega (arith, first.0) in
    let same = (bytes_eq-Decides (name_at names f.later) (name_at names f.earlier)).0 (rw (get_or-take f.later names f.earlier [] less) at first.1) in
    record {
      ordered = less;
      within = omega (arith, f.inside);
      same = sym same;
      first = λ i j below until. earlier_differ names j (omega (arith, f.inside)) (f.before j until) i below;
    }

some_same : {X : Type 0} {x y : X} → Some x ≡ Some y → x ≡ y
some_same e = cc

to_clash : (names : List (List ℕ)) (earlier later : ℕ) → clash names ≡ Some (earlier, later) → IsClash names earlier later
to_clash names earlier later e =
    elim (search_from names (length names)) [
      | inl none ↦ absurd (none-some (earlier, later) (sym (clash-none names (length names) (omega arith) none) ∙ e))
      | inr f ↦
          let pair : (f.earlier, f.later) ≡ (earlier, later) = some_same (sym (clash-found names f.earlier f.later f.inside f.before (with_earlier-is names f.later (name_at names f.later) (Some f.earlier) refl f.here)) ∙ e) in
          let first : f.earlier ≡ earlier = ap (λ (p : ℕ × ℕ). p.0) pair in
          let second : f.later ≡ later = ap (λ (p : ℕ × ℕ). p.1) pair in
          rw (first, second) at (found_is names (length names) (omega arith) f)
    ]

from_clash : (names : List (List ℕ)) (earlier later : ℕ) → IsClash names earlier later → clash names ≡ Some (earlier, later)
from_clash names earlier later c =
    let long : length (take later names) ≡ later = length-take-le later names (omega (arith, c.within)) in
    let here : position (bytes_eq (name_at names later)) (take later names) ≡ Some earlier = position_is (bytes_eq (name_at names later)) (take later names) earlier (omega (arith, c.ordered)) (λ k below.
    let until : k < later = omega (arith, c.ordered) in
    rw (get_or-take later names k [] until) (differs (name_at names later) (name_at names k) (λ same. c.first k earlier below c.ordered (sym same ∙ sym c.same))))
    (let less = c.ordered in rw (get_or-take later names earlier [] less) ((bytes_eq-Decides (name_at names later) (name_at names earlier)).1 (sym c.same))) in
    clash-found names earlier later c.within (λ k below. no_earlier names k (omega (arith, c.within)) (λ j less. c.first j k less below)) (with_earlier-is names later (name_at names later) (Some earlier) refl here)

pub clash-found_is : (names : List (List ℕ)) (earlier later : ℕ) → (clash names ≡ Some (earlier, later)) ↔ IsClash names earlier later
clash-found_is names earlier later = (to_clash names earlier later, from_clash names earlier later)
