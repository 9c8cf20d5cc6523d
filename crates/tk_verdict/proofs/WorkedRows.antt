-- Worked rows: labels, bindings and conditions of small runs.
use Rattle.std.specs.Prelude.{◌≡◌, refl, ℕ, List, [], ◌∷◌, Some, None, true, codes}
use Rattle.tk_types.specs.declared.value.Param.{Param}
use Rattle.tk_types.specs.declared.value.Value.TheVariants.{Str, Arr}
use Rattle.tk_types.specs.declared.run.Child.{Child}
use Rattle.tk_types.specs.declared.run.Facts.{Facts}
use Rattle.tk_types.specs.declared.run.Outcome.{Outcome}
use Rattle.tk_types.specs.declared.run.Outcome.TheVariants.{Succeeded, Failed, TimedOut, Lost, Cancelled as CancelledOutcome}
use Rattle.tk_types.specs.declared.run.Stop.{Stop}
use Rattle.tk_types.specs.declared.run.Stop.TheVariants.{Failure, StoppedRunFinally, CancelledRunFinally, TasksTimeout, FinallyTimeout, Cancelled, PipelineTimeout}
use Rattle.tk_types.specs.declared.task.PipelineTask.{PipelineTask}
use Rattle.tk_types.specs.declared.verdict.SkipReason.TheVariants.{Parent, Missing, Broken, When, EmptyMatrix, Stopped}
use Rattle.tk_types.specs.declared.verdict.Verdict.TheVariants.{Ran, Skipped, Runs, Ready, Waits, Wrong}
use Rattle.tk_graph.specs.Results.{text_results}
use Rattle.tk_verdict.specs.Condition.{condition_of, true_with, false_with}
use Rattle.tk_verdict.specs.Labels.{labels_of, ready_bindings}
use Rattle.tk_verdict.proofs.SmallRuns.{guarded, run, runs, task, with_text}

abbrev after : List ℕ → List (List ℕ) → PipelineTask
after name names = task name [] names

abbrev a : PipelineTask
a = after (codes "a") []

abbrev b : PipelineTask
b = after (codes "b") (codes "a" ∷ [])

-- a task that needs the result `r` of `a`, and one behind it
abbrev c : PipelineTask
c = task (codes "c") (with_text (codes "$(tasks.a.results.r)")) []

abbrev d : PipelineTask
d = after (codes "d") (codes "c" ∷ [])

-- a child that succeeded without results
abbrev well : ℕ → Child
well place = record { task = place; index = 0; outcome = Some (Succeeded []) }

-- A task skipped by its guard lets those behind it run, but not one that needs its result, nor what is behind that one.

abbrev guards : Facts
guards = run (guarded a ∷ b ∷ c ∷ d ∷ []) [] [] (well 1 ∷ [])

guards_labels : labels_of guards ≡ Skipped When ∷ Ran ∷ Skipped Missing ∷ Skipped Parent ∷ []
unfolding text_results
guards_labels = refl

guards_condition : condition_of guards (Skipped When ∷ Ran ∷ Skipped Missing ∷ Skipped Parent ∷ []) ≡ Some (true_with (codes "Completed"))
guards_condition = refl

-- A list of a matrix is empty.

abbrev matrix_of : List (List ℕ) → PipelineTask
matrix_of texts = record a { matrix = Some record { params = record { name = codes "p"; value = Arr texts } ∷ []; include = [] } }

abbrev empty_list : Facts
empty_list = run (matrix_of [] ∷ []) [] [] []

empty_list_labels : labels_of empty_list ≡ Skipped EmptyMatrix ∷ []
empty_list_labels = refl

empty_list_condition : condition_of empty_list (Skipped EmptyMatrix ∷ []) ≡ Some (true_with (codes "Completed"))
empty_list_condition = refl

-- Each text of a list is a combination, in order.

abbrev bound : List ℕ → List Param
bound text = record { name = codes "p"; value = Str text } ∷ []

two_bindings : ready_bindings (run (matrix_of (codes "x" ∷ codes "y" ∷ []) ∷ []) [] [] []) (Ready ∷ []) 0 ≡ Some (record { params = bound (codes "x") } ∷ record { params = bound (codes "y") } ∷ [])
two_bindings = refl

-- A stop that lets `finally` run skips what hasn't begun.

abbrev stopped : Facts
stopped = run (a ∷ b ∷ []) (after (codes "f") [] ∷ []) (StoppedRunFinally ∷ []) (well 0 ∷ well 2 ∷ [])

stopped_labels : labels_of stopped ≡ Ran ∷ Skipped (Stopped StoppedRunFinally) ∷ Ran ∷ []
stopped_labels = refl

stopped_condition : condition_of stopped (Ran ∷ Skipped (Stopped StoppedRunFinally) ∷ Ran ∷ []) ≡ Some (false_with (codes "Cancelled"))
stopped_condition = refl

-- Of `finally`, one task sees the status of `tasks`, and one needs the result of a task that was skipped.

abbrev finals : Facts
finals =
    run (guarded a ∷ after (codes "b") [] ∷ [])
    (task (codes "f") (with_text (codes "$(tasks.status)")) [] ∷ task (codes "g") (with_text (codes "$(tasks.a.results.r)")) [] ∷ []) [] (well 1 ∷ [])

finals_labels : labels_of finals ≡ Skipped When ∷ Ran ∷ Ready ∷ Skipped Missing ∷ []
unfolding text_results
finals_labels = refl

finals_status : ready_bindings finals (Skipped When ∷ Ran ∷ Ready ∷ Skipped Missing ∷ []) 2 ≡ Some (record { params = with_text (codes "Completed") } ∷ [])
unfolding text_results
finals_status = refl

-- A task that ignores failures: the run goes on, and what it emitted is there.

abbrev lenient : PipelineTask
lenient = record a { ignore_failure = true }

abbrev failed : List Param → Child
failed results = record { task = 0; index = 0; outcome = Some (Failed (Some 1) results) }

abbrev result_r : List Param
result_r = record { name = codes "r"; value = Str (codes "v") } ∷ []

abbrev ignored : Facts
ignored = run (lenient ∷ b ∷ []) [] [] (failed [] ∷ well 1 ∷ [])

ignored_labels : labels_of ignored ≡ Ran ∷ Ran ∷ []
ignored_labels = refl

ignored_condition : condition_of ignored (Ran ∷ Ran ∷ []) ≡ Some (true_with (codes "Succeeded"))
ignored_condition = refl

abbrev uses : List Param → Facts
uses results = run (lenient ∷ c ∷ []) [] [] (failed results ∷ [])

uses_ready : labels_of (uses result_r) ≡ Ran ∷ Ready ∷ []
unfolding text_results
uses_ready = refl

uses_binding : ready_bindings (uses result_r) (Ran ∷ Ready ∷ []) 1 ≡ Some (record { params = with_text (codes "v") } ∷ [])
unfolding text_results
uses_binding = refl

uses_broken : labels_of (uses []) ≡ Ran ∷ Skipped Broken ∷ []
unfolding text_results
uses_broken = refl

uses_condition : condition_of (uses []) (Ran ∷ Skipped Broken ∷ []) ≡ Some (false_with (codes "InvalidTaskResultReference"))
uses_condition = refl

-- Without that, a failure fails the run, and so do a timeout and a lost child; a cancelled child cancels it.

abbrev ended_so : Outcome → Facts
ended_so outcome = run (a ∷ []) [] [] (record { task = 0; index = 0; outcome = Some outcome } ∷ [])

fails : condition_of (ended_so (Failed None [])) (Ran ∷ []) ≡ Some (false_with (codes "Failed"))
fails = refl

times_out : condition_of (ended_so TimedOut) (Ran ∷ []) ≡ Some (false_with (codes "Failed"))
times_out = refl

is_lost : condition_of (ended_so Lost) (Ran ∷ []) ≡ Some (false_with (codes "Failed"))
is_lost = refl

is_cancelled : condition_of (ended_so CancelledOutcome) (Ran ∷ []) ≡ Some (false_with (codes "Cancelled"))
is_cancelled = refl

-- Each stop, before any task began: `tasks` are skipped, and `finally` from level 3 on.

abbrev halted : Stop → Facts
halted stop = run (a ∷ []) (after (codes "f") [] ∷ []) (stop ∷ []) []

halted_failure : labels_of (halted Failure) ≡ Skipped (Stopped Failure) ∷ Ready ∷ []
halted_failure = refl

halted_stopped : labels_of (halted StoppedRunFinally) ≡ Skipped (Stopped StoppedRunFinally) ∷ Ready ∷ []
halted_stopped = refl

halted_cancelled_finally : labels_of (halted CancelledRunFinally) ≡ Skipped (Stopped CancelledRunFinally) ∷ Ready ∷ []
halted_cancelled_finally = refl

halted_tasks : labels_of (halted TasksTimeout) ≡ Skipped (Stopped TasksTimeout) ∷ Ready ∷ []
halted_tasks = refl

halted_finally : labels_of (halted FinallyTimeout) ≡ Skipped (Stopped FinallyTimeout) ∷ Skipped (Stopped FinallyTimeout) ∷ []
halted_finally = refl

halted_cancelled : labels_of (halted Cancelled) ≡ Skipped (Stopped Cancelled) ∷ Skipped (Stopped Cancelled) ∷ []
halted_cancelled = refl

halted_pipeline : labels_of (halted PipelineTimeout) ≡ Skipped (Stopped PipelineTimeout) ∷ Skipped (Stopped PipelineTimeout) ∷ []
halted_pipeline = refl

-- A diamond: the last task waits for both before it.

abbrev diamond : List Child → Facts
diamond = run (a ∷ b ∷ after (codes "e") (codes "a" ∷ []) ∷ after (codes "g") (codes "b" ∷ codes "e" ∷ []) ∷ []) [] []

diamond_waits : labels_of (diamond (well 0 ∷ well 1 ∷ runs 2 ∷ [])) ≡ Ran ∷ Ran ∷ Runs ∷ Waits ∷ []
diamond_waits = refl

diamond_ready : labels_of (diamond (well 2 ∷ well 0 ∷ well 1 ∷ [])) ≡ Ran ∷ Ran ∷ Ran ∷ Ready ∷ []
diamond_ready = refl

-- A child that no rule gave is wrong: one of a task with a parent that was skipped by its lists, and a second one.

wrong_child : labels_of (run (a ∷ b ∷ []) [] [] (well 0 ∷ well 1 ∷ record (well 1) { index = 1 } ∷ [])) ≡ Ran ∷ Wrong ∷ []
wrong_child = refl
