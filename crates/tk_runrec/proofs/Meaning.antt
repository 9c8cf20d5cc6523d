-- What the tests of a run worker say, in the words of the rows: each way.
use Rattle.std.proofs.Common.{◌≡◌, ◌≢◌, ℕ, zero, suc, ◌+◌, ◌<◌, ◌≤◌, List, [], ◌∷◌, map, take, drop, get_or, Option, Some, None, Bool, true, false, refl, sym, ◌∙◌, ap, subst, inl, inr, ◌⊎◌, arith, All, Contains, nat_eq}
use Rattle.std.specs.Prelude.{is_none, is_some, not, ◌||◌, nat_lt, nat_le}
use Rattle.std.specs.List.{list_any, list_all}
use Rattle.std.proofs.lemmas.Bool.{cases_Bool, cases_lt, and_parts, and_from, leb-true, le-leb, eqb-true}
use Rattle.std.proofs.lemmas.Option.{same_Some}
use Rattle.std.proofs.lemmas.List.Elements.{All-contains, Contains-get_or}
use Rattle.tk_types.specs.Lists.{is_empty}
use Rattle.tk_types.specs.declared.run.Start.{Start}
use Rattle.tk_types.specs.declared.run.Start.TheVariants.{Ready, Unstartable}
use Rattle.tk_types.specs.declared.run.Stop.{Stop}
use Rattle.tk_types.specs.declared.run.Stop.TheVariants as stops
use Rattle.tk_types.specs.declared.verdict.Verdict.{Verdict}
use Rattle.std.specs.List.{range_with_len}
use Rattle.tk_journal.specs.RunRows.{IsDone}
use Rattle.tk_types.specs.declared.object.Asked.{Asked}
use Rattle.tk_types.specs.declared.object.Asked.TheVariants as asks
use Rattle.tk_journal.specs.declared.object.RunState.{RunState}
use Rattle.tk_journal.specs.declared.object.TaskRunState.{TaskRunState}
use Rattle.tk_journal.specs.Lists.{IsThere, Has}
use Rattle.tk_types.specs.Behaviour.{level_of}
use Rattle.tk_verdict.specs.Verdict.{is_done}
use Rattle.tk_journal.specs.RunRows.{IsHighestAsked}
use Rattle.tk_journal.specs.Stops.{asked_level, asked_stop, reach_level, IsReached, HasPassed}
use Rattle.tk_runrec.specs.Labels.{is_undone}
use Rattle.tk_runrec.specs.Tests.{starts_ready, is_closed, asks_for, is_highest, is_recorded, is_above, is_reached, has_passed}

-- elements

pub here : {X : Type 0} (x : X) (xs : List X) → Contains (x ∷ xs) x
here x xs = (0, omega arith, refl)

pub there : {X : Type 0} (x y : X) (xs : List X) → Contains xs y → Contains (x ∷ xs) y
there x y xs (k, below, is) = (suc k, omega arith, is)

pub split : {X : Type 0} (x y : X) (xs : List X) → Contains (x ∷ xs) y → (x ≡ y) ⊎ Contains xs y
split x y xs (zero, below, is) = inl is
split x y xs (suc k, below, is) = inr (k, omega arith, is)

pub none_in : {X : Type 0} (y : X) → Contains [] y → ⊥
none_in y (k, below, is) = omega arith

pub any_is : {X : Type 0} (test : X → Bool) (xs : List X) → list_any test xs ≡ true → (x : X) × Contains xs x × (test x ≡ true)
any_is test [] is = absurd (cc (is))
any_is test (x ∷ xs) is = elim (cases_Bool (test x)) [
  | inl hit ↦ (x, here x xs, hit)
  | inr miss ↦ let rest = any_is test xs (rw miss at is) in (rest.0, there x rest.0 xs rest.1, rest.2)
]

pub any_from : {X : Type 0} (test : X → Bool) (xs : List X) (y : X) → Contains xs y → test y ≡ true → list_any test xs ≡ true
any_from test [] y has hit = absurd (none_in y has)
any_from test (x ∷ xs) y has hit = elim (split x y xs has) [
  | inl same ↦ let at_x : test x ≡ true = ap test same ∙ hit in rw at_x refl
  | inr later ↦ elim (cases_Bool (test x)) [
    | inl first ↦ rw first refl
    | inr miss ↦ rw miss (any_from test xs y later hit)
  ]
]

pub every_is : {X : Type 0} (test : X → Bool) (xs : List X) → list_all test xs ≡ true → (y : X) → Contains xs y → test y ≡ true
every_is test [] is y has = absurd (none_in y has)
every_is test (x ∷ xs) is y has =
    let parts = and_parts (test x) (list_all test xs) is in
    elim (split x y xs has) [
      | inl same ↦ ap test (sym same) ∙ parts.0
      | inr later ↦ every_is test xs parts.1 y later
    ]

pub every_from : {X : Type 0} (test : X → Bool) (xs : List X) → ((y : X) → Contains xs y → test y ≡ true) → list_all test xs ≡ true
every_from test [] each = refl
every_from test (x ∷ xs) each = and_from (test x) (list_all test xs) (each x (here x xs)) (every_from test xs (λ y has. each y (there x y xs has)))

pub all_from : {X : Type 0} (P : X → Type 0) (xs : List X) → ((y : X) → Contains xs y → P y) → All P xs
all_from P xs each k d below = each (get_or xs k d) (Contains-get_or xs k d below)

-- a test that decides a fact, of all elements
pub all_is : {X : Type 0} (test : X → Bool) (P : X → Type 0) → ((x : X) → test x ≡ true → P x) → (xs : List X) → list_all test xs ≡ true → All P xs
all_is test P means xs is = all_from P xs (λ y has. means y (every_is test xs is y has))

pub is_all : {X : Type 0} (test : X → Bool) (P : X → Type 0) → ((x : X) → P x → test x ≡ true) → (xs : List X) → All P xs → list_all test xs ≡ true
is_all test P means xs all = every_from test xs (λ y has. means y (All-contains P xs y all has))

-- truth values

pub not_is : (b : Bool) → not b ≡ true → b ≡ false
not_is true is = absurd (cc (is))
not_is false is = refl

pub true_and_false : (b : Bool) → b ≡ true → b ≡ false → ⊥
true_and_false true hit miss = absurd (cc (miss))
true_and_false false hit miss = absurd (cc (hit))

pub or_is : (a b : Bool) → (a || b) ≡ true → (a ≡ true) ⊎ (b ≡ true)
or_is true b is = inl refl
or_is false b is = inr is

pub or_left : (a b : Bool) → a ≡ true → (a || b) ≡ true
or_left true b is = refl
or_left false b is = absurd (cc (is))

pub or_right : (a b : Bool) → b ≡ true → (a || b) ≡ true
or_right true b is = refl
or_right false b is = is

-- what is left where the test holds
pub or_then : (a b : Bool) → a ≡ true → (not a || b) ≡ true → b ≡ true
or_then true b hit is = is
or_then false b hit is = absurd (cc (hit))

pub lt_is : (a b : ℕ) → nat_lt a b ≡ true → a < b
lt_is a b is = let le = leb-true (suc a) b is in omega (arith, le)

pub is_lt : (a b : ℕ) → a < b → nat_lt a b ≡ true
is_lt a b less = le-leb (suc a) b (omega (arith, less))

pub none_is : {X : Type 0} (o : Option X) → is_none o ≡ true → o ≡ None
none_is None is = refl
none_is (Some x) is = absurd (cc (is))

pub is_none_of : {X : Type 0} (o : Option X) → o ≡ None → is_none o ≡ true
is_none_of None none = refl
is_none_of (Some x) none = absurd (cc (none))

pub some_is : {X : Type 0} (o : Option X) → is_some o ≡ true → IsThere o
some_is None is = absurd (cc (is))
some_is (Some x) is = (x, refl)

pub is_some_of : {X : Type 0} (o : Option X) → IsThere o → is_some o ≡ true
is_some_of o (x, is) = rw is refl

pub empty_is : {X : Type 0} (xs : List X) → is_empty xs ≡ true → xs ≡ []
empty_is [] is = refl
empty_is (x ∷ xs) is = absurd (cc (is))

pub is_empty_of : {X : Type 0} (xs : List X) → xs ≡ [] → is_empty xs ≡ true
is_empty_of xs none = rw none refl

-- starts, labels and TaskRuns

pub startable_is : (start : Start) → starts_ready start ≡ true → start ≡ Ready
startable_is Ready is = refl
startable_is (Unstartable reason) is = absurd (cc (is))

pub unstartable_is : (start : Start) → starts_ready start ≡ false → start ≢ Ready
unstartable_is Ready is same = absurd (cc (is))
unstartable_is (Unstartable reason) is same = absurd (cc (same))

pub is_startable_of : (start : Start) → start ≡ Ready → starts_ready start ≡ true
is_startable_of start same = rw same refl

pub undone_is : (label : Verdict) → is_undone label ≡ true → IsDone label → ⊥
undone_is label is done = true_and_false (is_done label) done (not_is (is_done label) is)

pub is_undone_of : (label : Verdict) → (IsDone label → ⊥) → is_undone label ≡ true
is_undone_of label undone = elim (cases_Bool (is_done label)) [
  | inl hit ↦ absurd (undone hit)
  | inr miss ↦ rw miss refl
]

pub closed_is : (o : Option TaskRunState) → is_closed o ≡ true → Has o (λ task_run. IsThere task_run.closed)
closed_is None is = absurd (cc (is))
closed_is (Some task_run) is = record { it = task_run; is = refl; has = some_is task_run.closed is }

pub is_closed_of : (o : Option TaskRunState) → Has o (λ task_run. IsThere task_run.closed) → is_closed o ≡ true
is_closed_of o has = ap is_closed has.is ∙ is_some_of has.it.closed has.has

-- stops

pub asks_is : (stop : Stop) (status : Asked) → asks_for stop status ≡ true → asked_stop status ≡ Some stop
asks_is stops.StoppedRunFinally asks.StoppedRunFinally is = refl
asks_is stops.CancelledRunFinally asks.CancelledRunFinally is = refl
asks_is stops.Cancelled asks.Cancelled is = refl
asks_is stop status is = absurd (cc (is))

pub is_asks : (stop : Stop) (status : Asked) → asked_stop status ≡ Some stop → asks_for stop status ≡ true
is_asks stop asks.Start is = absurd (cc (is))
is_asks stop asks.TaskRunCancelled is = absurd (cc (is))
is_asks stop asks.StoppedRunFinally is = subst (λ (s : Stop). asks_for s asks.StoppedRunFinally ≡ true) (same_Some _ stop is) refl
is_asks stop asks.CancelledRunFinally is = subst (λ (s : Stop). asks_for s asks.CancelledRunFinally ≡ true) (same_Some _ stop is) refl
is_asks stop asks.Cancelled is = subst (λ (s : Stop). asks_for s asks.Cancelled ≡ true) (same_Some _ stop is) refl

pub highest_is : (run : RunState) (stop : Stop) → is_highest run.asked stop ≡ true → IsHighestAsked run stop
highest_is run stop is =
    let parts = and_parts (list_any (asks_for stop) run.asked) (list_all (λ (a : Asked). nat_le (asked_level a) (level_of stop)) run.asked) is in
    let found = any_is (asks_for stop) run.asked parts.0 in
    record {
      status = found.0;
      asked = found.1;
      same = asks_is stop found.0 found.2;
      highest = all_is (λ (a : Asked). nat_le (asked_level a) (level_of stop)) (λ (a : Asked). asked_level a ≤ level_of stop) (λ a at. leb-true (asked_level a) (level_of stop) at) run.asked parts.1;
    }

pub is_highest_of : (run : RunState) (stop : Stop) → IsHighestAsked run stop → is_highest run.asked stop ≡ true
is_highest_of run stop highest =
    and_from (list_any (asks_for stop) run.asked) (list_all (λ (a : Asked). nat_le (asked_level a) (level_of stop)) run.asked)
    (any_from (asks_for stop) run.asked highest.status highest.asked (is_asks stop highest.status highest.same))
    (is_all (λ (a : Asked). nat_le (asked_level a) (level_of stop)) (λ (a : Asked). asked_level a ≤ level_of stop) (λ a le. le-leb (asked_level a) (level_of stop) le) run.asked highest.highest)

pub above_is : (recorded : List Stop) (stop : Stop) → is_above recorded stop ≡ true → All (λ s. level_of s < level_of stop) recorded
above_is recorded stop is = all_is (λ (s : Stop). nat_lt (level_of s) (level_of stop)) (λ (s : Stop). level_of s < level_of stop) (λ s at. lt_is (level_of s) (level_of stop) at) recorded is

pub is_above_of : (recorded : List Stop) (stop : Stop) → All (λ s. level_of s < level_of stop) recorded → is_above recorded stop ≡ true
is_above_of recorded stop above = is_all (λ (s : Stop). nat_lt (level_of s) (level_of stop)) (λ (s : Stop). level_of s < level_of stop) (λ s less. is_lt (level_of s) (level_of stop) less) recorded above

pub reached_is : (run : RunState) (task : ℕ) → is_reached run task ≡ true → IsReached run task
reached_is run task is =
    let found = any_is (λ (s : Stop). nat_le (reach_level run.spec task) (level_of s)) run.stops is in
    (found.0, found.1, leb-true (reach_level run.spec task) (level_of found.0) found.2)

pub is_reached_of : (run : RunState) (task : ℕ) → IsReached run task → is_reached run task ≡ true
is_reached_of run task reached = any_from (λ (s : Stop). nat_le (reach_level run.spec task) (level_of s)) run.stops reached.0 reached.1 (le-leb (reach_level run.spec task) (level_of reached.0) reached.2)

pub passed_is : (start : Option ℕ) (timeout moment : ℕ) → has_passed start timeout moment ≡ true → HasPassed start timeout moment
passed_is None timeout moment is = absurd (cc (is))
passed_is (Some from) timeout moment is =
    let parts = and_parts (nat_lt 0 timeout) (nat_le (from + timeout) moment) is in
    record { from = from; is = refl; set = lt_is 0 timeout parts.0; late = leb-true (from + timeout) moment parts.1 }

pub is_passed_of : (start : Option ℕ) (timeout moment : ℕ) → HasPassed start timeout moment → has_passed start timeout moment ≡ true
is_passed_of start timeout moment passed =
    ap (λ (o : Option ℕ). has_passed o timeout moment) passed.is
    ∙ and_from (nat_lt 0 timeout) (nat_le (passed.from + timeout) moment) (is_lt 0 timeout passed.set) (le-leb (passed.from + timeout) moment passed.late)

abbrev pub IsRecorded : List Stop → Asked → Type 0
IsRecorded recorded status = 0 < asked_level status → (stop : Stop) × Contains recorded stop × (asked_level status ≤ level_of stop)

pub recorded_is : (recorded : List Stop) (status : Asked) → is_recorded recorded status ≡ true → IsRecorded recorded status
recorded_is recorded status is some = elim (or_is (nat_eq (asked_level status) 0) (list_any (λ (s : Stop). nat_le (asked_level status) (level_of s)) recorded) is) [
  | inl none ↦ absurd (nothing (asked_level status) none some)
  | inr hit ↦ let found = any_is (λ (s : Stop). nat_le (asked_level status) (level_of s)) recorded hit in (found.0, found.1, leb-true (asked_level status) (level_of found.0) found.2)
]
  where
    nothing : (n : ℕ) → nat_eq n 0 ≡ true → 0 < n → ⊥
    nothing n is some = let none = eqb-true n 0 is in omega (arith, none, some)

pub is_recorded_of : (recorded : List Stop) (status : Asked) → IsRecorded recorded status → is_recorded recorded status ≡ true
is_recorded_of recorded status recorded_if = by_level (asked_level status) refl
  where
    by_level : (n : ℕ) → asked_level status ≡ n → is_recorded recorded status ≡ true
    by_level zero at = or_left (nat_eq (asked_level status) 0) _ (ap (λ (m : ℕ). nat_eq m 0) at)
    by_level (suc n) at =
        let found = recorded_if (omega (arith, at)) in
        or_right (nat_eq (asked_level status) 0) _ (any_from (λ (s : Stop). nat_le (asked_level status) (level_of s)) recorded found.0 found.1 (le-leb (asked_level status) (level_of found.0) found.2))

-- labels in a part of the tasks

pub undone_from : (label : ℕ → Verdict) (first n : ℕ) → list_any is_undone (map label (range_with_len first n)) ≡ true → (task : ℕ) × (first ≤ task) × (task < first + n) × (IsDone (label task) → ⊥)
undone_from label first zero is = absurd (cc (is))
undone_from label first (suc n) is = elim (cases_Bool (is_undone (label first))) [
  | inl hit ↦ (first, omega arith, omega arith, undone_is (label first) hit)
  | inr miss ↦
      let rest = undone_from label (first + 1) n (rw miss at is) in
      let from = rest.1 in
      let below = rest.2 in
      (rest.0, omega (arith, from), omega (arith, below), rest.3)
]

pub is_undone_from : (label : ℕ → Verdict) (first n task : ℕ) → first ≤ task → task < first + n → (IsDone (label task) → ⊥) → list_any is_undone (map label (range_with_len first n)) ≡ true
is_undone_from label first zero task from below undone = absurd (omega (arith, from, below))
is_undone_from label first (suc n) task from below undone = elim (cases_lt first task) [
  | inl less ↦ elim (cases_Bool (is_undone (label first))) [
    | inl hit ↦ rw hit refl
    | inr miss ↦ rw miss (is_undone_from label (first + 1) n task (omega (arith, less)) (omega (arith, below)) undone)
  ]
  | inr more ↦
      let same : first ≡ task = omega (arith, from, more) in
      let hit : is_undone (label first) ≡ true = ap (λ (t : ℕ). is_undone (label t)) same ∙ is_undone_of (label task) undone in
      rw hit refl
]

-- a part of the labels
pub take_count : (label : ℕ → Verdict) (first m n : ℕ) → take m (map label (range_with_len first (m + n))) ≡ map label (range_with_len first m)
take_count label first zero n = let e : 0 + n ≡ n = omega arith in take_zero (map label (range_with_len first (0 + n)))
  where
    take_zero : (xs : List Verdict) → take 0 xs ≡ []
    take_zero [] = refl
    take_zero (x ∷ xs) = refl
take_count label first (suc m) n = let e : suc m + n ≡ suc (m + n) = omega arith in rw e (ap (λ (rest : List Verdict). label first ∷ rest) (take_count label (first + 1) m n))

pub drop_count : (label : ℕ → Verdict) (first m n : ℕ) → drop m (map label (range_with_len first (m + n))) ≡ map label (range_with_len (first + m) n)
drop_count label first zero n = let e : 0 + n ≡ n = omega arith in let f : first + 0 ≡ first = omega arith in rw (e, f) (drop_zero (map label (range_with_len first n)))
  where
    drop_zero : (xs : List Verdict) → drop 0 xs ≡ xs
    drop_zero [] = refl
    drop_zero (x ∷ xs) = refl
drop_count label first (suc m) n =
    let e : suc m + n ≡ suc (m + n) = omega arith in
    let f : first + suc m ≡ first + 1 + m = omega arith in
    rw (e, f) (drop_count label (first + 1) m n)
