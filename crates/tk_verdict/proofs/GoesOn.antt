-- A run has a condition, gives its Ready tasks bindings, and goes on once its children ended.
use Rattle.std.proofs.Common.{◌≡◌, ◌≢◌, ℕ, zero, suc, ◌-◌, ◌<◌, ◌≤◌, Bool, true, false, cond, ◌||◌, not, List, [], ◌∷◌, map, length, get_or, Option, Some, None, refl, sym, ap, ◌∙◌, subst, inl, inr, ◌⊎◌, arith}
use Rattle.std.specs.Prelude.{◌↔◌, Contains, All, IsSome, if◌then◌else◌, is_none, is_some, slice_get, slice_index, option_and_then, option_map, filter, find, nat_eq, nat_le}
use Rattle.std.specs.List.{list_any, list_all, AllByRecursion}
use Rattle.std.specs.Option.{option_or, option_map_or}
use Rattle.std.proofs.lemmas.Bool.{cases_Bool, cases_lt, or_parts, and_from, false_from_ne_true, leb-false, eqb-true}
use Rattle.std.proofs.lemmas.List.{get_or-take, length-take-le}
use Rattle.std.proofs.lemmas.List.Elements.{All-nil, All-cons, All-head, All-tail, All-filter}
use Rattle.std.proofs.lemmas.Option.{slice_get_cases, slice_get_past}
use Rattle.tk_types.specs.declared.value.Param.{Param}
use Rattle.tk_types.specs.declared.task.PipelineTask.{PipelineTask}
use Rattle.tk_types.specs.declared.run.Facts.{Facts}
use Rattle.tk_types.specs.declared.run.Child.{Child}
use Rattle.tk_types.specs.declared.run.Outcome.{Outcome}
use Rattle.tk_types.specs.declared.run.Start.{Start}
use Rattle.tk_types.specs.declared.run.Start.TheVariants.{Ready as Startable, Unstartable}
use Rattle.tk_types.specs.declared.run.Stop.{Stop}
use Rattle.tk_types.specs.declared.verdict.Binding.{Binding}
use Rattle.tk_types.specs.declared.verdict.Condition.{Condition}
use Rattle.tk_types.specs.declared.verdict.SkipReason.{SkipReason}
use Rattle.tk_types.specs.declared.verdict.SkipReason.TheVariants.{Parent, Missing, Broken, When, EmptyMatrix, Stopped}
use Rattle.tk_types.specs.declared.verdict.Verdict.{Verdict}
use Rattle.tk_types.specs.declared.verdict.Verdict.TheVariants.{Ran, Skipped, Runs, Ready, Waits, Wrong}
use Rattle.tk_types.specs.Lists.{is_empty, first_row}
use Rattle.tk_graph.specs.Parents.{parents, IsAcyclic}
use Rattle.tk_bind.specs.declared.env.Env.{Env}
use Rattle.tk_verdict.specs.Bindings.{fits_at, guards_in, combinations_in, is_broken, is_refused, has_no_combination}
use Rattle.tk_verdict.specs.Condition.{condition_of, finished, false_with}
use Rattle.tk_types.specs.Behaviour.{level_of}
use Rattle.tk_verdict.specs.Facts.{all_tasks, task_total, children_of, is_running, has_ended, all_ended, is_good, first_stop, first_late_stop}
use Rattle.tk_verdict.specs.Gives.{label_of, first_labels, Gives, to_task, to_final}
use Rattle.tk_verdict.specs.Labels.{finally_line, labels_of, labelled_parents, label_by, bindings_in, bindings_at, ready_bindings}
use Rattle.tk_verdict.specs.Progress.{AllDone, SomeReady, HasBadChild, IsFailing}
use Rattle.tk_verdict.specs.Rows.{is_good_parent, own_rows, lacks_result, task_row, finally_row}
use Rattle.tk_verdict.specs.Verdict.{is_done, is_ready, blocks}
use Rattle.tk_verdict.specs.Words.{task_env, finally_env}
use Rattle.tk_verdict.proofs.Elements.{front_get, same_default, all_at, any_at, map_in, first_in, next_in}
use Rattle.tk_verdict.proofs.GivenRight.{task_none, final_none, NoOwnRow, behind_none}
use Rattle.tk_verdict.proofs.Lines.{next_by, ready_parts, waits_parts, skipped_parts, label_shape, labels_length, past_waits, task_judged, final_judged, task_label, final_label}
use Rattle.tk_verdict.proofs.Locality.{parents_within}
use Rattle.tk_verdict.proofs.Steps.{place_of, of_tasks, of_finally, beyond, Place, ready_finished}

-- all of the first numbers pass, or one fails
search_below : (test : ℕ → Bool) (n : ℕ) → ((i : ℕ) → i < n → test i ≡ true) ⊎ ((i : ℕ) × (i < n) × (test i ≡ false))
search_below test zero = inl (λ i lt. absurd (omega arith))
search_below test (suc n) =
    elim (search_below test n) [
      | inl all ↦ elim (cases_Bool (test n)) [
        | inl pass ↦ inl (λ i lt. elim (cases_lt i n) [ inl less ↦ all i less | inr more ↦ let same : n ≡ i = omega arith in subst (λ k. test k ≡ true) same pass ])
        | inr fail ↦ inr (n, omega arith, fail)
      ]
      | inr found ↦ inr (found.0, omega (arith, found.1), found.2)
    ]

-- the labels of a list's places
all_from : (labels : List Verdict) → ((i : ℕ) → i < length labels → is_done (get_or labels i Waits) ≡ true) → list_all is_done labels ≡ true
all_from [] each = refl
all_from (v ∷ labels) each = and_from (is_done v) (list_all is_done labels) (each 0 (omega arith)) (all_from labels (λ i lt. each (suc i) (omega arith)))

all_done_at : (labels : List Verdict) (i : ℕ) → i < length labels → list_all is_done labels ≡ true → is_done (get_or labels i Waits) ≡ true
all_done_at labels i lt all = all_at is_done labels (get_or labels i Waits) all (i, lt, same_default labels i (get_or labels i Waits) Waits lt)

-- the condition

all_done_is : (facts : Facts) → AllDone facts → list_all is_done (labels_of facts) ≡ true
all_done_is facts all = all_from (labels_of facts) (λ i lt. all i (subst (λ n. i < n) (labels_length facts) lt))

is_all_done : (facts : Facts) → list_all is_done (labels_of facts) ≡ true → AllDone facts
is_all_done facts all place lt = all_done_at (labels_of facts) place (rw (labels_length facts) lt) all

start_by : (start : Start) (all : Bool) (condition : Condition)
    → is_some (elim start [ Unstartable reason ↦ Some (false_with reason) | Startable ↦ if all then Some condition else None ]) ≡ true → (start ≢ Startable) ⊎ (all ≡ true)
start_by (Unstartable reason) all condition is = inl (λ e. cc)
start_by Startable true condition is = inr refl
start_by Startable false condition is = cc

by_start : (start : Start) (all : Bool) (condition : Condition) → (start ≢ Startable) ⊎ (all ≡ true)
    → is_some (elim start [ Unstartable reason ↦ Some (false_with reason) | Startable ↦ if all then Some condition else None ]) ≡ true
by_start (Unstartable reason) all condition either = refl
by_start Startable all condition (inl differs) = absurd (differs refl)
by_start Startable all condition (inr is) = rw is refl

pub decided : (facts : Facts) → IsSome (condition_of facts (labels_of facts)) ↔ ((facts.spec.start ≢ Startable) ⊎ AllDone facts)
decided facts = (there, back)
  where
    there : IsSome (condition_of facts (labels_of facts)) → (facts.spec.start ≢ Startable) ⊎ AllDone facts
    there is = elim (start_by facts.spec.start (list_all is_done (labels_of facts)) (finished facts (labels_of facts)) is) [
      | inl differs ↦ inl differs
      | inr all ↦ inr (is_all_done facts all)
    ]

    back : (facts.spec.start ≢ Startable) ⊎ AllDone facts → IsSome (condition_of facts (labels_of facts))
    back either = by_start facts.spec.start (list_all is_done (labels_of facts)) (finished facts (labels_of facts))
        (elim either [ inl differs ↦ inl differs | inr all ↦ inr (all_done_is facts all) ])

-- a Ready task

bound_if : (guards : Bool) (fits : List (List Param) → Bool) (made : Option (List (List Param))) → (guards || not (option_map_or fits made false)) ≡ false → (params : List (List Param)) × (made ≡ Some params)
bound_if guards fits None is = absurd (false_or guards is)
  where
    false_or : (b : Bool) → (b || true) ≡ false → ⊥
    false_or true e = cc
    false_or false e = cc
bound_if guards fits (Some params) is = (params, refl)

bound_by : (facts : Facts) (env : Env) (place : ℕ) (task : PipelineTask) → NoOwnRow facts env place task → (params : List (List Param)) × (combinations_in env task ≡ Some params)
bound_by facts env place task row = bound_if (is_none (guards_in env task)) (list_all (fits_at facts place)) (combinations_in env task) row.not_broken

abbrev binding : List Param → Binding
binding params = record { params = params }

-- the bindings that are computed are given
pub record IsGiven (facts : Facts) (place : ℕ) : Type 0 where
  pub bindings : List Binding
  pub computed : ready_bindings facts (labels_of facts) place ≡ Some bindings
  pub given : Gives facts place bindings

ready_only : (v : Verdict) (o : Option (List Binding)) → v ≡ Ready → (if is_ready v then o else None) ≡ o
ready_only v o is = rw is refl

bindings_task : (facts : Facts) (place : ℕ) (task : PipelineTask) → slice_get facts.spec.tasks place ≡ Some task → bindings_at facts (labels_of facts) place ≡ bindings_in (task_env facts task) task
bindings_task facts place task is =
    ap (λ (found : Option PipelineTask).
    elim found [
      | Some t ↦ bindings_in (task_env facts t) t
      | None ↦ option_and_then (λ (t : PipelineTask). bindings_in (finally_env facts (first_labels facts) t) t) (slice_get facts.spec.finally (place - length facts.spec.tasks))
    ])
    is

bindings_final : (facts : Facts) (place : ℕ) (task : PipelineTask) → slice_get facts.spec.tasks place ≡ None → slice_get facts.spec.finally (place - length facts.spec.tasks) ≡ Some task
    → bindings_at facts (labels_of facts) place ≡ bindings_in (finally_env facts (first_labels facts) task) task
bindings_final facts place task none is =
    λ i.
    elim (none i) [
      | Some t ↦ bindings_in (task_env facts t) t
      | None ↦ option_and_then (λ (t : PipelineTask). bindings_in (finally_env facts (first_labels facts) t) t) (is i)
    ]

given : (facts : Facts) (place : ℕ) → IsAcyclic facts.spec.tasks → label_of facts place ≡ Ready → IsGiven facts place
given facts place acyclic ready = by_place (place_of facts place)
  where
    by_place : Place facts place → IsGiven facts place
    by_place (of_tasks task within is) =
        let env = task_env facts task in
        let ps = labelled_parents facts (labels_of facts) place in
        let line = task_label facts acyclic place task is in
        let parts = ready_parts (children_of facts place) (combinations_in env task) (task_row facts ps env place task) (first_stop facts) (list_all (is_good_parent facts) ps) (sym line ∙ ready) in
        let made = bound_by facts env place task (task_none facts ps env place task parts.3 parts.1) in
        let bound : bindings_in env task ≡ Some (map binding made.0) = ap (option_map (map binding)) made.1 in
        record {
          bindings = map binding made.0;
          computed = ready_only (label_of facts place) (bindings_at facts (labels_of facts) place) ready ∙ (bindings_task facts place task is ∙ bound);
          given = to_task (record { of_tasks = is; good = parts.3; no_row = parts.1; bound = bound });
        }
    by_place (of_finally task past is) =
        let done = ready_finished facts acyclic place task past is ready in
        let env = finally_env facts (first_labels facts) task in
        let line : label_of facts place ≡ label_by (children_of facts place) (combinations_in env task) (finally_row facts env place task) (first_late_stop facts) (next_by true)
        = final_label facts acyclic place task past is ∙ rw done refl in
        let parts = ready_parts (children_of facts place) (combinations_in env task) (finally_row facts env place task) (first_late_stop facts) true (sym line ∙ ready) in
        let made = bound_by facts env place task (final_none facts env place task parts.1) in
        let bound : bindings_in env task ≡ Some (map binding made.0) = ap (option_map (map binding)) made.1 in
        let none : slice_get facts.spec.tasks place ≡ None = slice_get_past facts.spec.tasks place past in
        record {
          bindings = map binding made.0;
          computed = ready_only (label_of facts place) (bindings_at facts (labels_of facts) place) ready ∙ (bindings_final facts place task none is ∙ bound);
          given = to_final (record { past = past; of_finally = is; done = done; no_row = parts.1; bound = bound });
        }
    by_place (beyond past) = let waits = past_waits facts place past in cc

pub ready_gives : (facts : Facts) (place : ℕ) → IsAcyclic facts.spec.tasks → label_of facts place ≡ Ready
    → (bindings : List Binding) × (ready_bindings facts (labels_of facts) place ≡ Some bindings) × Gives facts place bindings
ready_gives facts place acyclic ready = let g = given facts place acyclic ready in (g.bindings, g.computed, g.given)

-- no stop is in its way

no_first : (stops : List Stop) → slice_get stops 0 ≡ None → stops ≡ []
no_first [] is = refl
no_first (s ∷ stops) is = cc

not_late : (stops : List Stop) → find (λ stop. nat_le 3 (level_of stop)) stops ≡ None → All (λ s. level_of s < 3) stops
not_late [] is = All-nil (λ s. level_of s < 3)
not_late (s ∷ stops) is =
    elim (cases_Bool (nat_le 3 (level_of s))) [
      | inl late ↦ let found = rw late at is in cc (found)
      | inr early ↦ All-cons (λ t. level_of t < 3) s stops (leb-false 3 (level_of s) early) (not_late stops (rw early at is))
    ]

pub ready_unstopped : (facts : Facts) (place : ℕ) → place < length facts.spec.tasks → label_of facts place ≡ Ready → facts.stops ≡ []
ready_unstopped facts place lt ready =
    elim (slice_get_cases facts.spec.tasks place).1 [
      | inl found ↦
          let env = task_env facts found.0 in
          let judged = task_judged facts place found.0 found.2 in
          let ps = judged.0 in
          let parts = ready_parts (children_of facts place) (combinations_in env found.0) (task_row facts ps env place found.0) (first_stop facts) (list_all (is_good_parent facts) ps) (sym judged.1 ∙ ready) in
          no_first facts.stops parts.2
      | inr past ↦ absurd (omega arith)
    ]

-- a task of `finally` that is Ready by some labels of `tasks`
final_not_late : (facts : Facts) (labels : List Verdict) (place : ℕ) (task : PipelineTask) → finally_line facts labels place task ≡ Ready → first_late_stop facts ≡ None
final_not_late facts labels place task ready =
    let env = finally_env facts labels task in
    let combinations = combinations_in env task in
    elim (cases_Bool (list_all is_done labels)) [
      | inl done ↦ (ready_parts (children_of facts place) combinations (finally_row facts env place task) (first_late_stop facts) true (rw done at ready)).2
      | inr waits ↦ (let wrong = (ready_parts (children_of facts place) combinations None None false (rw waits at ready)).3 in cc (wrong))
    ]

pub ready_not_late : (facts : Facts) (place : ℕ) → label_of facts place ≡ Ready → All (λ s. level_of s < 3) facts.stops
ready_not_late facts place ready = by_place (place_of facts place)
  where
    by_place : Place facts place → All (λ s. level_of s < 3) facts.stops
    by_place (of_tasks task within is) = rw (ready_unstopped facts place within ready) (All-nil (λ s. level_of s < 3))
    by_place (of_finally task past is) =
        let judged = final_judged facts place task past is in
        not_late facts.stops (final_not_late facts judged.0 place task (sym judged.1 ∙ ready))
    by_place (beyond past) = let waits = past_waits facts place past in cc

-- once all children ended

all_found : {X : Type 0} (f : X → Bool) (xs : List X) → list_all f xs ≡ false → (x : X) × Contains xs x × (f x ≡ false)
all_found f [] is = cc
all_found f (x ∷ xs) is =
    elim (cases_Bool (f x)) [
      | inl pass ↦ let rest = all_found f xs (rw pass at is) in (rest.0, next_in rest.0 x xs rest.1, rest.2)
      | inr fail ↦ (x, first_in x xs, fail)
    ]

mapped_found : {X Y : Type 0} (f : X → Y) (xs : List X) (y : Y) → Contains (map f xs) y → (x : X) × Contains xs x × (f x ≡ y)
mapped_found f [] y c = absurd (omega (arith, c.1))
mapped_found f (x ∷ xs) y (zero, lt, is) = (x, first_in x xs, is)
mapped_found f (x ∷ xs) y (suc k, lt, is) = let rest = mapped_found f xs y (k, omega (arith, lt), is) in (rest.0, next_in rest.0 x xs rest.1, rest.2)

kept_found : {X : Type 0} (test : X → Bool) (y x : X) (xs : List X) → (Contains (filter test xs) x → Contains xs x × (test x ≡ true)) → test y ≡ true → Contains (y ∷ filter test xs) x
    → Contains (y ∷ xs) x × (test x ≡ true)
kept_found test y x xs rest pass (zero, lt, is) = ((0, omega arith, is), subst (λ z. test z ≡ true) is pass)
kept_found test y x xs rest pass (suc k, lt, is) = let found = rest (k, omega (arith, lt), is) in (next_in x y xs found.0, found.1)

filtered_found : {X : Type 0} (test : X → Bool) (xs : List X) (x : X) → Contains (filter test xs) x → Contains xs x × (test x ≡ true)
filtered_found test [] x c = absurd (omega (arith, c.1))
filtered_found test (y ∷ xs) x c =
    elim (cases_Bool (test y)) [
      | inl pass ↦ kept_found test y x xs (filtered_found test xs x) pass (subst (λ b. Contains (cond b (y ∷ filter test xs) (filter test xs)) x) pass c)
      | inr fail ↦ let rest = filtered_found test xs x (subst (λ b. Contains (cond b (y ∷ filter test xs) (filter test xs)) x) fail c) in (next_in x y xs rest.0, rest.1)
    ]

-- the reasons of rows are no stops
abbrev is_stop : SkipReason → Bool
is_stop (Stopped stop) = true
is_stop _ = false

reason_of_row : (rows : List (Bool × SkipReason)) (reason : SkipReason) → AllByRecursion (λ (r : Bool × SkipReason). is_stop r.1 ≡ false) rows → first_row rows ≡ Some reason → is_stop reason ≡ false
reason_of_row [] reason all is = cc
reason_of_row (row ∷ rows) reason all is =
    elim (cases_Bool row.0) [
      | inl holds ↦ let same : Some row.1 ≡ Some reason = rw holds at is in ap is_stop (sym (same_reason row.1 reason same)) ∙ all.0
      | inr not_holds ↦ reason_of_row rows reason all.1 (rw not_holds at is)
    ]
  where
    same_reason : (a b : SkipReason) → Some a ≡ Some b → a ≡ b
    same_reason a b e = cc

rows_not_stop : (all : Bool) (a b c d e : Bool)
    → AllByRecursion (λ (r : Bool × SkipReason). is_stop r.1 ≡ false) ((a, Parent) ∷ (if all then (b, Missing) ∷ (c, Broken) ∷ (d, When) ∷ (e, EmptyMatrix) ∷ [] else []))
rows_not_stop true a b c d e = (refl, (refl, (refl, (refl, (refl, tt)))))
rows_not_stop false a b c d e = (refl, tt)

row_not_stop : (facts : Facts) (ps : List (ℕ × Verdict)) (env : Env) (place : ℕ) (task : PipelineTask) (stop : Stop) → task_row facts ps env place task ≡ Some (Stopped stop) → ⊥
row_not_stop facts ps env place task stop is =
    let own = (lacks_result facts ps task, Missing) ∷ own_rows facts env place task in
    let no = reason_of_row ((list_any (λ (p : ℕ × Verdict). blocks p.1) ps, Parent) ∷ (if list_all (is_good_parent facts) ps then own else [])) (Stopped stop) (rows_not_stop (list_all (is_good_parent facts) ps) (list_any (λ (p : ℕ × Verdict). blocks p.1) ps) (lacks_result facts ps task) (is_broken facts env place task) (is_refused env task) (has_no_combination env task)) is in
    cc

no_stop_reason : (row : Option SkipReason) (reason : SkipReason) → option_or row None ≡ Some reason → row ≡ Some reason
no_stop_reason None reason is = is
no_stop_reason (Some other) reason is = is

-- a task that ran has children
ran_some : (children : List Child) (combinations : Option (List (List Param))) (row : Option SkipReason) (stop : Option Stop) (b : Bool) → label_by children combinations row stop (next_by b) ≡ Ran → is_empty children ≡ false
ran_some [] combinations None None true is = cc
ran_some [] combinations None None false is = cc
ran_some [] combinations None (Some stop) b is = cc
ran_some [] combinations (Some reason) stop b is = cc
ran_some (c ∷ cs) combinations row stop b is = refl

-- a child of a task that runs hasn't ended
runs_some : (children : List Child) (combinations : Option (List (List Param))) (row : Option SkipReason) (stop : Option Stop) (b : Bool) → label_by children combinations row stop (next_by b) ≡ Runs → list_any is_running children ≡ true
runs_some [] combinations None None true is = cc
runs_some [] combinations None None false is = cc
runs_some [] combinations None (Some stop) b is = cc
runs_some [] combinations (Some reason) stop b is = cc
runs_some (c ∷ cs) combinations row stop b is = by_runs (list_any is_running (c ∷ cs)) _ is
  where
    by_runs : (runs right : Bool) → (if runs then Runs else (if right then Ran else Wrong)) ≡ Runs → runs ≡ true
    by_runs true right is = refl
    by_runs false true is = cc
    by_runs false false is = cc

none_runs : (children : List Child) → All (λ (c : Child). IsSome c.outcome) children → list_any is_running children ≡ false
none_runs [] all = refl
none_runs (c ∷ cs) all = rw (ended c.outcome (All-head (λ (d : Child). IsSome d.outcome) c cs all), none_runs cs (All-tail (λ (d : Child). IsSome d.outcome) c cs all)) refl
  where
    ended : (o : Option Outcome) → is_some o ≡ true → is_none o ≡ false
    ended None is = cc
    ended (Some outcome) is = refl

not_good_parts : (test : Outcome → Bool) (children : List Child) → is_empty children ≡ false → all_ended test children ≡ false → (c : Child) × Contains children c × (has_ended test c ≡ false)
not_good_parts test [] some is = cc
not_good_parts test (c ∷ cs) some is = all_found (has_ended test) (c ∷ cs) is

bad_outcome : (test : Outcome → Bool) (o : Option Outcome) → is_some o ≡ true → option_map_or test o false ≡ false → (outcome : Outcome) × (o ≡ Some outcome) × (test outcome ≡ false)
bad_outcome test None some is = cc
bad_outcome test (Some outcome) some is = (outcome, refl, is)

at_all : {X : Type 0} (P : X → Type 0) (xs : List X) (x : X) → All P xs → Contains xs x → P x
at_all P xs x all c = subst P c.2 (all c.0 x c.1)

module _ (facts : Facts) (acyclic : IsAcyclic facts.spec.tasks) (ended : All (λ (child : Child). IsSome child.outcome) facts.children)
    (right : (place : ℕ) → place < task_total facts → label_of facts place ≢ Wrong) (unready : (place : ℕ) → place < task_total facts → label_of facts place ≢ Ready) where
  abbrev count : ℕ
  count = length facts.spec.tasks

  not_runs : (place : ℕ) → place < task_total facts → label_of facts place ≢ Runs
  not_runs place lt runs =
      let s = label_shape facts place lt in
      let some = runs_some (children_of facts place) s.combinations s.row s.stop s.next (sym s.is ∙ runs) in
      let none = none_runs (children_of facts place) (All-filter (λ (c : Child). nat_eq c.task place) (λ (c : Child). IsSome c.outcome) facts.children ended) in
      cc

  -- a task that isn't done waits
  waits_if : (place : ℕ) (v : Verdict) → v ≢ Ready → v ≢ Runs → v ≢ Wrong → is_done v ≡ false → v ≡ Waits
  waits_if place Waits a b c is = refl
  waits_if place Ready a b c is = absurd (a refl)
  waits_if place Runs a b c is = absurd (b refl)
  waits_if place Wrong a b c is = absurd (c refl)
  waits_if place Ran a b c is = cc
  waits_if place (Skipped reason) a b c is = cc

  waiting : (place : ℕ) → place < task_total facts → is_done (label_of facts place) ≡ false → label_of facts place ≡ Waits
  waiting place lt is = waits_if place (label_of facts place) (unready place lt) (not_runs place lt) (right place lt) is

  -- a parent that ran and isn't good has a child that isn't
  bad_child : (q : ℕ) (parent : PipelineTask) → q < count → slice_get facts.spec.tasks q ≡ Some parent → label_of facts q ≡ Ran → all_ended (is_good parent) (children_of facts q) ≡ false → HasBadChild facts
  bad_child q parent lt is ran bad =
      let s = label_shape facts q (omega arith) in
      let some = ran_some (children_of facts q) s.combinations s.row s.stop s.next (sym s.is ∙ ran) in
      let found = not_good_parts (is_good parent) (children_of facts q) some bad in
      let among = filtered_found (λ (c : Child). nat_eq c.task q) facts.children found.0 found.1 in
      let there = at_all (λ (c : Child). IsSome c.outcome) facts.children found.0 ended among.0 in
      let outcome = bad_outcome (is_good parent) found.0.outcome there found.2 in
      record {
        child = found.0;
        among = among.0;
        task = parent;
        of_tasks = ap (slice_get facts.spec.tasks) (eqb-true found.0.task q among.1) ∙ is;
        outcome = outcome.0;
        ended = outcome.1;
        bad = outcome.2;
      }

  -- a parent that isn't good, by its label
  by_label : (q : ℕ) (parent : PipelineTask) (v : Verdict) → q < count → slice_get facts.spec.tasks q ≡ Some parent → label_of facts q ≡ v → is_good_parent facts (q, v) ≡ false → blocks v ≡ false → first_stop facts ≡ None
      → HasBadChild facts ⊎ (v ≡ Waits)
  by_label q parent Waits lt is label bad quiet none = inr refl
  by_label q parent Ready lt is label bad quiet none = absurd (unready q (omega arith) label)
  by_label q parent Runs lt is label bad quiet none = absurd (not_runs q (omega arith) label)
  by_label q parent Wrong lt is label bad quiet none = absurd (right q (omega arith) label)
  by_label q parent Ran lt is label bad quiet none =
      let here = or_parts (option_map_or (λ (task : PipelineTask). all_ended (is_good task) (children_of facts q)) (slice_get (all_tasks facts) q) false) false bad in
      inl (bad_child q parent lt is label (sym (ap (λ (o : Option PipelineTask). option_map_or (λ (task : PipelineTask). all_ended (is_good task) (children_of facts q)) o false) (front_get facts.spec.tasks facts.spec.finally q parent is)) ∙ here.0))
  by_label q parent (Skipped When) lt is label bad quiet none =
      let skipped = (or_parts (option_map_or (λ (task : PipelineTask). all_ended (is_good task) (children_of facts q)) (slice_get (all_tasks facts) q) false) true bad).1 in
      cc
  by_label q parent (Skipped Parent) lt is label bad quiet none = cc
  by_label q parent (Skipped Missing) lt is label bad quiet none = cc
  by_label q parent (Skipped Broken) lt is label bad quiet none = cc
  by_label q parent (Skipped EmptyMatrix) lt is label bad quiet none = cc
  by_label q parent (Skipped (Stopped stop)) lt is label bad quiet none =
      let ps = labelled_parents facts (labels_of facts) q in
      let env = task_env facts parent in
      let line = task_label facts acyclic q parent is in
      let parts = skipped_parts (children_of facts q) (combinations_in env parent) (task_row facts ps env q parent) (first_stop facts) (list_all (is_good_parent facts) ps) (Stopped stop) (sym line ∙ label) in
      let row = no_stop_reason (task_row facts ps env q parent) (Stopped stop) (subst (λ (o : Option Stop). option_or (task_row facts ps env q parent) (option_map Stopped o) ≡ Some (Stopped stop)) none parts.1) in
      absurd (row_not_stop facts ps env q parent stop row)

  abbrev rank : ℕ → ℕ
  rank p = slice_index acyclic.0 p

  failing_by : (k place : ℕ) → rank place < k → place < count → label_of facts place ≡ Waits → IsFailing facts
  failing_by zero place low lt waits = absurd (omega arith)
  failing_by (suc k) place low lt waits =
      elim (slice_get_cases facts.spec.tasks place).1 [
        | inl found ↦
            let task = found.0 in
            let ps = labelled_parents facts (labels_of facts) place in
            let env = task_env facts task in
            let line = task_label facts acyclic place task found.2 in
            let parts = waits_parts (children_of facts place) (combinations_in env task) (task_row facts ps env place task) (first_stop facts) (list_all (is_good_parent facts) ps) (sym line ∙ waits) in
            let bad = all_found (is_good_parent facts) ps parts.3 in
            let parent = mapped_found (λ (q : ℕ). (q, label_of facts q)) (parents facts.spec.tasks place) bad.0 bad.1 in
            let q = parent.0 in
            let within : q < count = parents_within facts.spec.tasks place q parent.1 in
            let not_good : is_good_parent facts (q, label_of facts q) ≡ false = ap (is_good_parent facts) parent.2 ∙ bad.2 in
            let blocked : list_any (λ (p : ℕ × Verdict). blocks p.1) ps ≡ false = (behind_none (list_any (λ (p : ℕ × Verdict). blocks p.1) ps) Parent (if list_all (is_good_parent facts) ps then (lacks_result facts ps task, Missing) ∷ own_rows facts env place task else []) parts.1).0 in
            let quiet : blocks (label_of facts q) ≡ false
            = false_from_ne_true (blocks (label_of facts q)) (λ is. let some = any_at (λ (p : ℕ × Verdict). blocks p.1) ps (q, label_of facts q) is (map_in (λ (r : ℕ). (r, label_of facts r)) (parents facts.spec.tasks place) q parent.1) in cc) in
            elim (slice_get_cases facts.spec.tasks q).1 [
              | inl there ↦ elim (by_label q there.0 (label_of facts q) within there.2 refl not_good quiet parts.2) [
                | inl child ↦ record { no_stop = no_first facts.stops parts.2; bad = child; idle = record { place = place; within = lt; idle = parts.0 } }
                | inr also ↦ let lower : rank q < rank place = acyclic.1.rising q place parent.1 in failing_by k q (omega arith) within also
              ]
              | inr past ↦ absurd (omega arith)
            ]
        | inr past ↦ absurd (omega arith)
      ]

  -- a task of `tasks` waits, where a task waits
  first_waiting : (place : ℕ) → place < task_total facts → label_of facts place ≡ Waits → (q : ℕ) × (q < count) × (label_of facts q ≡ Waits)
  first_waiting place lt waits = by_place (place_of facts place)
    where
      long : length (first_labels facts) ≡ count
      long = length-take-le count (labels_of facts) (rw (labels_length facts) (omega arith))

      not_all : (task : PipelineTask) → count ≤ place → slice_get facts.spec.finally (place - count) ≡ Some task → list_all is_done (first_labels facts) ≡ true → ⊥
      not_all task past is done =
          let env = finally_env facts (first_labels facts) task in
          let line : label_of facts place ≡ label_by (children_of facts place) (combinations_in env task) (finally_row facts env place task) (first_late_stop facts) (next_by true)
          = final_label facts acyclic place task past is ∙ rw done refl in
          let parts = waits_parts (children_of facts place) (combinations_in env task) (finally_row facts env place task) (first_late_stop facts) true (sym line ∙ waits) in
          let wrong = parts.3 in
          cc

      by_place : Place facts place → (q : ℕ) × (q < count) × (label_of facts q ≡ Waits)
      by_place (of_tasks task within is) = (place, within, waits)
      by_place (of_finally task past is) =
          elim (search_below (λ (q : ℕ). is_done (label_of facts q)) count) [
            | inl all ↦ absurd (not_all task past is (all_from (first_labels facts) (λ i within. let below : i < count = subst (λ n. i < n) long within in ap is_done (get_or-take count (labels_of facts) i Waits below) ∙ all i below)))
            | inr found ↦ (found.0, found.1, waiting found.0 (omega (arith, found.1)) found.2)
          ]
      by_place (beyond past) = absurd (omega arith)

  pub failing_or_done : AllDone facts ⊎ IsFailing facts
  failing_or_done =
      elim (search_below (λ (q : ℕ). is_done (label_of facts q)) (task_total facts)) [
        | inl all ↦ inl all
        | inr found ↦
            let first = first_waiting found.0 found.1 (waiting found.0 found.1 found.2) in
            inr (failing_by (suc (rank first.0)) first.0 (omega arith) first.1 first.2)
      ]

unready_at : (v : Verdict) → not (is_ready v) ≡ true → v ≢ Ready
unready_at v is ready = let no : not (is_ready v) ≡ false = ap (λ (w : Verdict). not (is_ready w)) ready in cc

ready_at : (v : Verdict) → not (is_ready v) ≡ false → v ≡ Ready
ready_at Ready is = refl
ready_at Ran is = cc
ready_at Runs is = cc
ready_at Waits is = cc
ready_at Wrong is = cc
ready_at (Skipped reason) is = cc

pub goes_on : (facts : Facts) → IsAcyclic facts.spec.tasks → All (λ (child : Child). IsSome child.outcome) facts.children → ((place : ℕ) → place < task_total facts → label_of facts place ≢ Wrong)
    → AllDone facts ⊎ (SomeReady facts ⊎ IsFailing facts)
goes_on facts acyclic ended right =
    elim (search_below (λ (q : ℕ). not (is_ready (label_of facts q))) (task_total facts)) [
      | inl none ↦ elim (failing_or_done facts acyclic ended right (λ place lt. unready_at (label_of facts place) (none place lt))) [
        | inl all ↦ inl all
        | inr failing ↦ inr (inr failing)
      ]
      | inr found ↦ inr (inl (record { place = found.0; within = found.1; ready = ready_at (label_of facts found.0) found.2 }))
    ]
