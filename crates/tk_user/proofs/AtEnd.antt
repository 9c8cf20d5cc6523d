-- An ask that nothing refuses is justified at the journal's end.
use Rattle.std.proofs.Common.{◌≡◌, ℕ, ◌<◌, List, [], ◌∷◌, length, Option, Some, None, true, false, refl, sym, ◌∙◌, ap, ap₂, subst, inl, inr, arith, All}
use Rattle.std.specs.Prelude.{is_some, nat_lt}
use Rattle.std.proofs.lemmas.Bool.{cases_Bool, ltb-true, ltb-false}
use Rattle.std.proofs.lemmas.List.Elements.{All-nil, All-cons}
use Rattle.tk_types.specs.declared.object.Asked.{Asked}
use Rattle.tk_types.specs.declared.object.Asked.TheVariants as asks
use Rattle.tk_types.specs.declared.scenario.Kind.TheVariants as kinds
use Rattle.tk_types.specs.Behaviour.{level_of}
use Rattle.tk_journal.specs.declared.entry.Entry.{Entry}
use Rattle.tk_journal.specs.declared.object.RunState.{RunState}
use Rattle.tk_journal.specs.declared.object.TaskRunState.{TaskRunState}
use Rattle.tk_journal.specs.AskRows.{IsHigher, RunAskRow, TaskRunAskRow, AskIsJustified}
use Rattle.tk_journal.specs.Lists.{Has}
use Rattle.tk_journal.specs.History.{past, run_of, task_run_of, version_of, view_at}
use Rattle.tk_journal.specs.Stops.{asked_level}
use Rattle.tk_journal.proofs.Past.{past_whole}
use Rattle.tk_store.specs.Writes.{MayBeTried, version_now, version_seen}
use Rattle.tk_user.specs.Ask.{greatest, top_level, is_higher, is_for_task_run, run_refusal, task_run_refusal, refusal, ask_entry}

whole : (history : List Entry) → past (length history) history ≡ history
whole history = past_whole (length history) history (omega arith)

-- what is read at the end is what is there now
pub run_end : (history : List Entry) (name : List ℕ) (status : Asked) (end version : ℕ) (run : Option RunState) → end ≡ length history
    → version ≡ version_of kinds.Runs name (past end history) → run ≡ run_of (past end history) name
    → run_refusal version status run ≡ run_refusal (version_of kinds.Runs name history) status (run_of history name)
run_end history name status end version run is versions runs =
    let all : past end history ≡ history = ap (λ (n : ℕ). past n history) is ∙ whole history in
    ap₂ (λ (v : ℕ) (o : Option RunState). run_refusal v status o) (versions ∙ ap (version_of kinds.Runs name) all) (runs ∙ ap (λ (h : List Entry). run_of h name) all)

pub task_run_end : (history : List Entry) (name : List ℕ) (end version : ℕ) (task_run : Option TaskRunState) → end ≡ length history
    → version ≡ version_of kinds.TaskRuns name (past end history) → task_run ≡ task_run_of (past end history) name
    → task_run_refusal version task_run ≡ task_run_refusal (version_of kinds.TaskRuns name history) (task_run_of history name)
task_run_end history name end version task_run is versions task_runs =
    let all : past end history ≡ history = ap (λ (n : ℕ). past n history) is ∙ whole history in
    ap₂ (λ (v : ℕ) (o : Option TaskRunState). task_run_refusal v o) (versions ∙ ap (version_of kinds.TaskRuns name) all) (task_runs ∙ ap (λ (h : List Entry). task_run_of h name) all)

-- at the end the version is what it is now
pub seen_end : (history : List Entry) (name : List ℕ) (status : Asked) (moment : ℕ) → version_seen history (ask_entry history name status moment) ≡ version_now history (ask_entry history name status moment)
seen_end history name asks.Start moment = ap (version_of kinds.Runs name) (whole history)
seen_end history name asks.StoppedRunFinally moment = ap (version_of kinds.Runs name) (whole history)
seen_end history name asks.CancelledRunFinally moment = ap (version_of kinds.Runs name) (whole history)
seen_end history name asks.Cancelled moment = ap (version_of kinds.Runs name) (whole history)
seen_end history name asks.TaskRunCancelled moment = ap (version_of kinds.TaskRuns name) (whole history)

not_some : {X : Type 0} (o : Option X) → is_some o ≡ false → o ≡ None
not_some None is = refl
not_some (Some x) is = absurd (cc (is))

greatest_below : {X : Type 0} (level : X → ℕ) (limit most : ℕ) (xs : List X) → greatest level most xs < limit → (most < limit) × All (λ x. level x < limit) xs
greatest_below level limit most [] less = (less, All-nil (λ x. level x < limit))
greatest_below level limit most (x ∷ xs) less = elim (cases_Bool (nat_lt most (level x))) [
  | inl hit ↦
      let rest = greatest_below level limit (level x) xs (rw hit at less) in
      let first = rest.0 in
      let lt = ltb-true most (level x) hit in
      (omega (arith, first, lt), All-cons (λ y. level y < limit) x xs first rest.1)
  | inr miss ↦
      let rest = greatest_below level limit most xs (rw miss at less) in
      let first = rest.0 in
      let ge = ltb-false most (level x) miss in
      (first, All-cons (λ y. level y < limit) x xs (omega (arith, first, ge)) rest.1)
]

above_all : (run : RunState) (limit : ℕ) → nat_lt (top_level run) limit ≡ true → All (λ a. asked_level a < limit) run.asked × All (λ s. level_of s < limit) run.stops
above_all run limit hit =
    let stops = greatest_below level_of limit (greatest asked_level 0 run.asked) run.stops (ltb-true (top_level run) limit hit) in
    ((greatest_below asked_level limit 0 run.asked stops.0).1, stops.1)

higher_is : (run : RunState) (status : Asked) → is_for_task_run status ≡ false → is_higher run status ≡ true → IsHigher run status
higher_is run asks.Start of_run hit = hit
higher_is run asks.StoppedRunFinally of_run hit = above_all run 1 hit
higher_is run asks.CancelledRunFinally of_run hit = above_all run 2 hit
higher_is run asks.Cancelled of_run hit = above_all run 4 hit
higher_is run asks.TaskRunCancelled of_run hit = absurd (cc (of_run))

run_may : (version : ℕ) (status : Asked) (o : Option RunState) → is_for_task_run status ≡ false → run_refusal version status o ≡ None → Has o (RunAskRow status)
run_may version status None of_run none = absurd (cc (none))
run_may version status (Some run) of_run none = elim (cases_Bool (is_some run.closed)) [
  | inl closed ↦ let now : Some _ ≡ None = rw closed at none in absurd (cc (now))
  | inr unclosed ↦ elim (cases_Bool (is_higher run status)) [
    | inl hit ↦ record { it = run; is = refl; has = record { not_closed = not_some run.closed unclosed; higher = higher_is run status of_run hit } }
    | inr miss ↦ let now : Some _ ≡ None = rw (unclosed, miss) at none in absurd (cc (now))
  ]
]

task_run_may : (version : ℕ) (o : Option TaskRunState) → task_run_refusal version o ≡ None → Has o TaskRunAskRow
task_run_may version None none = absurd (cc (none))
task_run_may version (Some task_run) none = elim (cases_Bool (is_some task_run.run)) [
  | inl child ↦ let now : Some _ ≡ None = rw child at none in absurd (cc (now))
  | inr standalone ↦ elim (cases_Bool (is_some task_run.closed)) [
    | inl closed ↦ let now : Some _ ≡ None = rw (standalone, closed) at none in absurd (cc (now))
    | inr unclosed ↦ elim (cases_Bool task_run.marked) [
      | inl marked ↦ let now : Some _ ≡ None = rw (standalone, unclosed, marked) at none in absurd (cc (now))
      | inr unmarked ↦ record { it = task_run; is = refl; has = record { standalone = not_some task_run.run standalone; not_closed = not_some task_run.closed unclosed; not_marked = unmarked } }
    ]
  ]
]

run_at_end : (history : List Entry) (name : List ℕ) (status : Asked) → is_for_task_run status ≡ false → run_refusal (version_of kinds.Runs name history) status (run_of history name) ≡ None
    → Has (run_of (past (length history) history) name) (RunAskRow status)
run_at_end history name status of_run none = subst (λ (h : List Entry). Has (run_of h name) (RunAskRow status)) (sym (whole history)) (run_may (version_of kinds.Runs name history) status (run_of history name) of_run none)

ask_may : (history : List Entry) (name : List ℕ) (status : Asked) (moment : ℕ) → refusal history name status ≡ None → AskIsJustified (view_at (ask_entry history name status moment).fronts history) name status
ask_may history name asks.Start moment none = run_at_end history name asks.Start refl none
ask_may history name asks.StoppedRunFinally moment none = run_at_end history name asks.StoppedRunFinally refl none
ask_may history name asks.CancelledRunFinally moment none = run_at_end history name asks.CancelledRunFinally refl none
ask_may history name asks.Cancelled moment none = run_at_end history name asks.Cancelled refl none
ask_may history name asks.TaskRunCancelled moment none = subst (λ (h : List Entry). Has (task_run_of h name) TaskRunAskRow) (sym (whole history)) (task_run_may (version_of kinds.TaskRuns name history) (task_run_of history name) none)

pub may_ask : (history : List Entry) (name : List ℕ) (status : Asked) (moment : ℕ) → refusal history name status ≡ None → MayBeTried history (ask_entry history name status moment)
may_ask history name status moment none = record {
  no_admission = refl;
  fits = (refl, refl, refl);
  within = record { runs = omega arith; task_runs = omega arith; pods = omega arith };
  justified = (refl, ask_may history name status moment none);
}
