-- The attempts of the outcomes so far, and a step over the outcomes.
use Rattle.std.proofs.Common.{◌≡◌, ℕ, ◌+◌, ◌<◌, List, [], ◌∷◌, ◌++◌, map, take, drop, length, get_or, Bool, true, false, cond, Some, None, refl, sym, ◌∙◌, ap, arith, bytes_eq, not, Bor, Ordering, add-one}
use Rattle.std.specs.Prelude.{◌&&◌, ◌||◌, ◌==◌, codes}
use Rattle.std.specs.BTreeSet.{BTreeSet, Updates, contains, contains_by}
use Rattle.std.specs.Cmp.{tied_then, unsigned_tied}
use Rattle.std.specs.Cmp.Lexicographic.{slice_cmp}
use Rattle.std.specs.List.{list_any}
use Rattle.std.specs.Option.{option_or}
use Rattle.std.specs.Ordering.{is_eq, nat_cmp, ordering_then}
use Rattle.std.proofs.Math.Seq.{drop-cons}
use Rattle.std.proofs.lemmas.Cmp.{nat_list_eq_equiv, nat_eq_equiv}
use Rattle.std.proofs.lemmas.List.{map-append, take_more}
use Rattle.std.proofs.lemmas.List.Folds.{list_any-append}
use Rattle.std.proofs.lemmas.Map.Text.{is_eq-slice_cmp}
use Rattle.serde_json.specs.Data.{Data}
use Rattle.serde_json.specs.declared.value.Value.{Value}
use Rattle.serde_json.specs.View.{view}
use Rattle.tk_types.specs.Fault.{bad_choice}
use Rattle.tk_types.specs.Place.{Place, ◌#◌}
use Rattle.tk_fields.specs.Get.{number_at, text_at}
use Rattle.tk_scenario.specs.Scenario.{first_bad_outcome, is_same_attempt, new_outcome, outcome}

-- the outcome is of this attempt
abbrev pub is_of : List ℕ → ℕ → Data → Bool
is_of task_run attempt d = bytes_eq task_run (text_at (codes "taskRun") d) && (attempt == number_at (codes "attempt") d)

-- an attempt as the set holds it, and the order of the set
abbrev pub Key : Type 0
Key = Bor (List ℕ) × ℕ

abbrev pub against : List ℕ → ℕ → Key → Ordering
against task_run attempt k = ordering_then (slice_cmp nat_cmp task_run k.0.now) (nat_cmp attempt k.1)

abbrev pub order : Key → Key → Ordering
order a b = against a.0.now a.1 b

abbrev key_of : List ℕ → ℕ → Key
key_of task_run attempt = (record { ref_ptr = (0, 0); now = task_run }, attempt)

same_key : (a b : List ℕ) (m n : ℕ) → is_eq (ordering_then (slice_cmp nat_cmp a b) (nat_cmp m n)) ≡ (bytes_eq a b && (m == n))
same_key a b m n = rw (← tied_then (slice_cmp nat_cmp a b) (nat_cmp m n), is_eq-slice_cmp, unsigned_tied) refl

turned : (a b : List ℕ) (m n : ℕ) → (bytes_eq a b && (m == n)) ≡ (bytes_eq b a && (n == m))
turned a b m n = rw (nat_list_eq_equiv.symm a b, nat_eq_equiv.symm m n) refl

either : (b c : Bool) → cond b true c ≡ (c || b)
either true true = refl
either true false = refl
either false true = refl
either false false = refl

or-false : (b : Bool) → (b || false) ≡ b
or-false true = refl
or-false false = refl

-- the set after one more outcome
pub among-more : (old new : BTreeSet Key) (key : Key) (before : List Data) (d : Data) → key.0.now ≡ text_at (codes "taskRun") d → key.1 ≡ number_at (codes "attempt") d → Updates order old new key true → ((task_run : List ℕ) (attempt : ℕ) → contains_by (against task_run attempt) old ≡ list_any (is_of task_run attempt) before) → (task_run : List ℕ) (attempt : ℕ) → contains_by (against task_run attempt) new ≡ list_any (is_of task_run attempt) (before ++ d ∷ [])
among-more old new key before d name number updates among task_run attempt =
    let step : contains_by (against task_run attempt) new ≡ cond (is_eq (order key (key_of task_run attempt))) true (contains_by (against task_run attempt) old)
    = updates.0 (key_of task_run attempt) in
    let here : is_eq (order key (key_of task_run attempt)) ≡ is_of task_run attempt d
    = same_key key.0.now task_run key.1 attempt ∙ (turned key.0.now task_run key.1 attempt ∙ rw (name, number) refl) in
    step ∙ (rw (here, among task_run attempt) (either (is_of task_run attempt d) (list_any (is_of task_run attempt) before))
    ∙ sym (list_any-append (is_of task_run attempt) before (d ∷ []) ∙ ap (λ b. list_any (is_of task_run attempt) before || b) (or-false (is_of task_run attempt d))))

-- whether an attempt stands among those before
pub among-same : (old : BTreeSet Key) (key : Key) (before : List Data) (d : Data) → key.0.now ≡ text_at (codes "taskRun") d → key.1 ≡ number_at (codes "attempt") d → ((task_run : List ℕ) (attempt : ℕ) → contains_by (against task_run attempt) old ≡ list_any (is_of task_run attempt) before) → contains order old key ≡ list_any (is_same_attempt d) before
among-same old key before d name number among = among key.0.now key.1 ∙ rw (name, number) refl

-- what the answer of `insert` says of it
pub stood : (added there same : Bool) → added ≡ not there → there ≡ same → added ≡ false → same ≡ true
stood added there same is e none = grind (arith, is, e, none)

pub stood_not : (added there same : Bool) → added ≡ not there → there ≡ same → added ≡ true → same ≡ false
stood_not added there same is e new = grind (arith, is, e, new)

-- what is found at an outcome
pub new_outcome-found : (before : List Data) (place : Place) (d : Data) → outcome place d ≡ None → list_any (is_same_attempt d) before ≡ true → new_outcome before place d ≡ Some (bad_choice place)
unfolding new_outcome
new_outcome-found before place d right same = rw (right, same) refl

pub new_outcome-none : (before : List Data) (place : Place) (d : Data) → outcome place d ≡ None → list_any (is_same_attempt d) before ≡ false → new_outcome before place d ≡ None
unfolding new_outcome
new_outcome-none before place d right other = rw (right, other) refl

-- the outcomes so far after one more
pub taken-more : (items : List Value) (i : ℕ) (v : Value) → i < length items → v ≡ get_or items i v → map view (take (i + 1) items) ≡ map view (take i items) ++ view v ∷ []
taken-more items i v lt is = rw (take_more items i v lt, map-append, ← is) refl

-- what is wrong first with the outcomes from one on
pub left-step : (place : Place) (items : List Value) (i : ℕ) (v : Value) → i < length items → v ≡ get_or items i v → first_bad_outcome place i (map view (take i items)) (map view (drop i items)) ≡ option_or (new_outcome (map view (take i items)) (place # i) (view v)) (first_bad_outcome place (i + 1) (map view (take (i + 1) items)) (map view (drop (i + 1) items)))
left-step place items i v lt is = rw (drop-cons items i v lt, ← is, taken-more items i v lt is, add-one) refl
