-- Facts that show what fails without a premise of the laws.
use Rattle.std.specs.Prelude.{◌≡◌, ◌≢◌, ◌<◌, refl, ℕ, zero, suc, Contains, IsTrue, slice_index, slice_index_or, bytes_eq, List, [], ◌∷◌, Some, true, false, codes}
use Rattle.tk_types.specs.declared.run.Child.{Child}
use Rattle.tk_types.specs.declared.run.Facts.{Facts}
use Rattle.tk_types.specs.declared.run.Outcome.{Outcome}
use Rattle.tk_types.specs.declared.run.Outcome.TheVariants.{Succeeded, Lost}
use Rattle.tk_types.specs.declared.run.Stop.{Stop}
use Rattle.tk_types.specs.declared.run.Stop.TheVariants.{Failure, Cancelled}
use Rattle.tk_types.specs.declared.task.PipelineTask.{PipelineTask}
use Rattle.tk_types.specs.declared.task.When.{When as Guard}
use Rattle.tk_types.specs.declared.verdict.SkipReason.TheVariants.{Broken, When, Stopped}
use Rattle.tk_types.specs.declared.verdict.Verdict.TheVariants.{Ran, Skipped, Runs, Ready, Waits, Wrong}
use Rattle.tk_graph.specs.Results.{text_results}
use Rattle.tk_verdict.specs.Gives.{Gives, to_task}
use Rattle.tk_verdict.specs.Labels.{labels_of, bindings_at}
use Rattle.tk_verdict.specs.Moves.{Moves, by_outcomes}
use Rattle.tk_verdict.specs.WellFormed.{IsWellFormed}
use Rattle.std.specs.List.{list_all}
use Rattle.tk_graph.specs.Parents.{parents, parent_names}
use Rattle.tk_graph.specs.Unknown.{is_known}
use Rattle.tk_verdict.specs.Facts.{all_tasks}
use Rattle.tk_vars.specs.Reading.{HasReading}
use Rattle.std.proofs.Common.{ap, subst, arith}
use Rattle.tk_verdict.proofs.SmallRuns.{ended, guarded, run, runs, task, with_text}

-- A matrix with neither lists nor include entries: its task is given no binding, and stays Ready.

abbrev empty_matrix : Facts
empty_matrix = run (record (task (codes "a") [] []) { matrix = Some record { params = []; include = [] } } ∷ []) [] [] []

is_ready : labels_of empty_matrix ≡ Ready ∷ []
is_ready = refl

no_bindings : bindings_at empty_matrix (labels_of empty_matrix) 0 ≡ Some []
no_bindings = refl

-- A Ready task doesn't stay Ready where a stop is recorded.

abbrev one : List Stop → List Child → Facts
one = run (task (codes "a") [] [] ∷ []) []

ready_before : labels_of (one [] []) ≡ Ready ∷ []
ready_before = refl

stopped_after : labels_of (one (Failure ∷ []) []) ≡ Skipped (Stopped Failure) ∷ []
stopped_after = refl

-- A task that is done keeps its label only where its ancestors are done too: here it is stopped first, and then skipped by its guard.

abbrev behind : List Child → Facts
behind = run (task (codes "a") [] [] ∷ guarded (task (codes "b") [] (codes "a" ∷ [])) ∷ []) [] (Failure ∷ [])

stopped_first : labels_of (behind (runs 0 ∷ [])) ≡ Runs ∷ Skipped (Stopped Failure) ∷ []
unfolding text_results
stopped_first = refl

guarded_then : labels_of (behind (ended 0 [] ∷ [])) ≡ Ran ∷ Skipped When ∷ []
unfolding text_results
guarded_then = refl

-- An outcome that changed would take a good parent away.

abbrev after_a : Outcome → Facts
after_a outcome = run (task (codes "a") [] [] ∷ task (codes "b") [] (codes "a" ∷ []) ∷ []) [] [] (record (runs 0) { outcome = Some outcome } ∷ [])

good_before : labels_of (after_a (Succeeded [])) ≡ Ran ∷ Ready ∷ []
unfolding text_results
good_before = refl

bad_after : labels_of (after_a Lost) ≡ Ran ∷ Waits ∷ []
unfolding text_results
bad_after = refl

-- A stop in front of the others would change the reason.

stopped_again : labels_of (one (Cancelled ∷ Failure ∷ []) []) ≡ Skipped (Stopped Cancelled) ∷ []
stopped_again = refl

-- A task of `finally` that is done keeps its label only where all of `tasks` are done too.

abbrev early_final : List Child → Facts
early_final children = run (task (codes "a") [] [] ∷ []) (guarded (task (codes "f") [] []) ∷ []) [] (ended 1 [] ∷ children)

ran_first : labels_of (early_final (runs 0 ∷ [])) ≡ Runs ∷ Ran ∷ []
unfolding text_results
ran_first = refl

wrong_then : labels_of (early_final (ended 0 [] ∷ [])) ≡ Ran ∷ Wrong ∷ []
unfolding text_results
wrong_then = refl

-- Where two tasks have one name, the value of a result changes: a task that was Ready is skipped, or one that was skipped is Ready.

abbrev same_names : List ℕ → Child → Facts
same_names wanted child =
    let guard : Guard = record { input = codes "$(tasks.a.results.x)"; is_member = true; values = wanted ∷ [] } in
    run (task (codes "a") [] [] ∷ record (task (codes "b") [] []) { when = guard ∷ [] } ∷ []) (task (codes "a") [] [] ∷ task (codes "a") [] [] ∷ []) []
    (record (runs 0) { outcome = Some (Succeeded []) } ∷ child ∷ ended 3 (codes "1") ∷ [])

ready_with_one : labels_of (same_names (codes "1") (runs 2)) ≡ Ran ∷ Ready ∷ Runs ∷ Ran ∷ []
unfolding text_results
ready_with_one = refl

skipped_with_two : labels_of (same_names (codes "1") (ended 2 (codes "2"))) ≡ Ran ∷ Skipped When ∷ Ran ∷ Ran ∷ []
unfolding text_results
skipped_with_two = refl

skipped_with_one : labels_of (same_names (codes "2") (runs 2)) ≡ Ran ∷ Skipped When ∷ Runs ∷ Ran ∷ []
unfolding text_results
skipped_with_one = refl

ready_with_two : labels_of (same_names (codes "2") (ended 2 (codes "2"))) ≡ Ran ∷ Ready ∷ Ran ∷ Ran ∷ []
unfolding text_results
ready_with_two = refl

-- Where a task refers to a result of a task of `finally`, its label changes though it is done and has no ancestors. So another task of
-- `finally` that was Ready waits again. The same where a text without a reading names the task.

abbrev late_parent : List ℕ → Child → Facts
late_parent text child = run (task (codes "a") (with_text text) [] ∷ []) (task (codes "f") [] [] ∷ task (codes "g") [] [] ∷ []) [] (child ∷ [])

broken_before : labels_of (late_parent (codes "$(tasks.f.results.x)") (runs 1)) ≡ Skipped Broken ∷ Runs ∷ Ready ∷ []
unfolding text_results
broken_before = refl

ready_after : labels_of (late_parent (codes "$(tasks.f.results.x)") (ended 1 (codes "1"))) ≡ Ready ∷ Ran ∷ Waits ∷ []
unfolding text_results
ready_after = refl

unread_before : labels_of (late_parent (codes "$(tasks['f'].results.x)") (runs 1)) ≡ Skipped Broken ∷ Runs ∷ Ready ∷ []
unfolding text_results
unread_before = refl

unread_after : labels_of (late_parent (codes "$(tasks['f'].results.x)") (ended 1 (codes "1"))) ≡ Ready ∷ Ran ∷ Waits ∷ []
unfolding text_results
unread_after = refl

unread_names_none : parent_names (task (codes "a") (with_text (codes "$(tasks['f'].results.x)")) []) ≡ []
unfolding text_results
unread_names_none = refl

-- A run doesn't go on while a child runs, where a task is Wrong, as one with a child of another index is, or where tasks wait for each other.

running : labels_of (one [] (runs 0 ∷ [])) ≡ Runs ∷ []
running = refl

wrong_child : labels_of (one [] (record (ended 0 []) { index = 5 } ∷ [])) ≡ Wrong ∷ []
wrong_child = refl

circle : labels_of (run (task (codes "a") [] (codes "b" ∷ []) ∷ task (codes "b") [] (codes "a" ∷ []) ∷ []) [] [] []) ≡ Waits ∷ Waits ∷ []
unfolding text_results
circle = refl

-- A task that isn't Ready and gets a child loses its label.

skipped_before : labels_of (run (guarded (task (codes "a") [] []) ∷ []) [] [] []) ≡ Skipped When ∷ []
unfolding text_results
skipped_before = refl

wrong_after : labels_of (run (guarded (task (codes "a") [] []) ∷ []) [] [] (ended 0 [] ∷ [])) ≡ Wrong ∷ []
unfolding text_results
wrong_after = refl

-- A run for which the laws speak: `a`, and `b` behind it. It is well formed, `a` is given one binding, and it moves on.

abbrev chain : List Child → Facts
chain = run (task (codes "a") [] [] ∷ task (codes "b") [] (codes "a" ∷ []) ∷ []) [] []

names_apart : (i j : ℕ) (d : PipelineTask) → i < j → j < 2 → (slice_index_or (all_tasks (chain [])) i d).name ≢ (slice_index_or (all_tasks (chain [])) j d).name
names_apart zero (suc zero) d lt within = λ same. let differ : true ≡ false = ap (λ (name : List ℕ). bytes_eq name (codes "a")) same in cc (differ)
names_apart zero zero d lt within = absurd (omega arith)
names_apart zero (suc (suc j)) d lt within = absurd (omega arith)
names_apart (suc i) zero d lt within = absurd (omega arith)
names_apart (suc i) (suc j) d lt within = absurd (omega arith)

known : (k : ℕ) (d : PipelineTask) → k < 2 → IsTrue (list_all (is_known (chain []).spec.tasks) (parent_names (slice_index_or (all_tasks (chain [])) k d)))
unfolding text_results
known zero d lt = refl
known (suc zero) d lt = refl
known (suc (suc k)) d lt = absurd (omega arith)

rises : (parent place : ℕ) → Contains (parents (chain []).spec.tasks place) parent → slice_index (0 ∷ 1 ∷ []) parent < slice_index (0 ∷ 1 ∷ []) place
unfolding text_results
rises parent zero c = absurd (omega (arith, c.1))
rises parent (suc zero) (zero, lt, is) = subst (λ p. slice_index (0 ∷ 1 ∷ []) p < 1) is (omega arith)
rises parent (suc zero) (suc k, lt, is) = absurd (omega (arith, lt))
rises parent (suc (suc place)) c = absurd (omega (arith, c.1))

plain_text : HasReading (codes "true")
plain_text = record { joined = refl; allowed = refl; apart = refl; alone = refl }

reads : (k : ℕ) (d : List ℕ) → k < 2 → HasReading (slice_index_or (codes "true" ∷ codes "true" ∷ []) k d)
reads zero d lt = plain_text
reads (suc zero) d lt = plain_text
reads (suc (suc k)) d lt = absurd (omega arith)

is_well_formed : IsWellFormed (chain [])
unfolding text_results
is_well_formed =
    record {
      few_tasks = omega arith;
      children_differ = λ i j d lt within. absurd (omega arith);
      children_exist = refl;
      names_differ = names_apart;
      one_body_each = refl;
      parents_exist = known;
      acyclic = (0 ∷ 1 ∷ [], record { count = refl; rising = rises });
      readable = reads;
    }

given_first : Gives (chain []) 0 (record { params = [] } ∷ [])
unfolding text_results
given_first = to_task (record { of_tasks = refl; good = refl; no_row = refl; bound = refl })

moves_on : Moves (chain (runs 0 ∷ [])) (chain (ended 0 [] ∷ []))
moves_on = by_outcomes (record { spec = refl; stops = refl; children = (record { task = refl; index = refl; outcome = λ outcome is. cc }, tt) })
