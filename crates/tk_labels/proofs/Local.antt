-- The same of two states whose specs are equal.
use Rattle.std.proofs.Common.{◌≡◌, ℕ, ◌-◌, ◌<◌, ◌≤◌, true, false, List, [], length, take, sym, ap, ◌∙◌, subst, inl, inr, arith}
use Rattle.std.specs.Prelude.{◌⊎◌, Contains, Option, Some, slice_get}
use Rattle.std.specs.Option.{option_map_or}
use Rattle.std.proofs.lemmas.Option.{slice_get_cases}
use Rattle.tk_types.specs.declared.task.PipelineTask.{PipelineTask}
use Rattle.tk_types.specs.declared.run.Facts.{Facts}
use Rattle.tk_types.specs.declared.run.Stop.{Stop}
use Rattle.tk_types.specs.declared.verdict.Verdict.{Verdict}
use Rattle.tk_types.specs.declared.verdict.Verdict.TheVariants.{Waits}
use Rattle.tk_graph.specs.Parents.{parents}
use Rattle.tk_verdict.specs.Facts.{task_total, children_of, first_stop, first_late_stop}
use Rattle.tk_verdict.specs.Gives.{label_of}
use Rattle.tk_verdict.specs.Labels.{verdict_line, task_line, finally_line, labelled_parents}
use Rattle.tk_verdict.specs.Available.{available_of}
use Rattle.tk_verdict.specs.Own.{own_in}
use Rattle.tk_verdict.specs.Words.{task_env}
use Rattle.tk_verdict.specs.Rows.{is_good_parent}
use Rattle.tk_verdict.specs.Good.{is_good_at}
use Rattle.tk_verdict.specs.Verdict.{label_at, blocks, is_skipped, is_skipped_by_when}
use Rattle.tk_verdict.specs.WellFormed.{IsWellFormed}
use Rattle.tk_verdict.proofs.SameResults.{KnowsReadings, with_children}
use Rattle.tk_labels.specs.Local.{ShowsSame, RunsInBoth, with_stop}
use Rattle.tk_labels.proofs.SameFaces.{children_show, line_same, labels_stay, bad_shows, own_texts_same}
use Rattle.tk_labels.proofs.SameFinals.{line_of_final, final_line_same}
use Rattle.tk_labels.proofs.Shown.{shown_same}
use Rattle.tk_labels.proofs.WithStop.{stop_maps}

-- the line at a place of `tasks`
pub line_of_task : (facts : Facts) (labels : List Verdict) (place : ℕ) (task : PipelineTask) → slice_get facts.spec.tasks place ≡ Some task
    → verdict_line facts labels place ≡ task_line facts (labelled_parents facts labels place) place task
line_of_task facts labels place task is =
    ap (λ (o : Option PipelineTask). option_map_or (task_line facts (labelled_parents facts labels place) place) o
    (option_map_or (finally_line facts (take (length facts.spec.tasks) labels) place) (slice_get facts.spec.finally (place - length facts.spec.tasks)) Waits)) is

module _ (knows : KnowsReadings) (old new : Facts) (formed : IsWellFormed old) (spec : new.spec ≡ old.spec) where
  abbrev same_spec : Facts
  same_spec = with_children old.spec new.stops new.children

  with_spec : same_spec ≡ new
  with_spec = λ i. record { spec = (sym spec) i; stops = new.stops; children = new.children }

  back : new ≡ same_spec
  back = sym with_spec

  pub line_is_local : (xs ys : List Verdict) (place : ℕ) → place < length old.spec.tasks → children_of new place ≡ children_of old place → first_stop new ≡ first_stop old
      → ((q : ℕ) → Contains (parents old.spec.tasks place) q → ShowsSame old new xs ys q) → verdict_line new ys place ≡ verdict_line old xs place
  line_is_local xs ys place within children stop shows =
      elim (slice_get_cases old.spec.tasks place).1 [
        | inl found ↦ subst (λ (facts : Facts). verdict_line facts ys place ≡ verdict_line old xs place) with_spec
            (line_of_task same_spec ys place found.0 found.2
            ∙ (line_same old.spec old.stops new.stops old.children new.children knows formed xs ys place found.0 found.2 children stop
            (λ q c. subst (λ (facts : Facts). ShowsSame old facts xs ys q) back (shows q c))
            ∙ sym (line_of_task old xs place found.0 found.2)))
        | inr past ↦ absurd (omega arith)
      ]

  pub apart_stays : first_stop new ≡ first_stop old → (Among : ℕ → Type 0)
      → ((p q : ℕ) → Among p → Contains (parents old.spec.tasks p) q → Among q)
      → ((q : ℕ) → q < length old.spec.tasks → Among q → (children_of new q ≡ children_of old q) ⊎ RunsInBoth old new q)
      → (place : ℕ) → place < length old.spec.tasks → Among place → label_of new place ≡ label_of old place
  apart_stays stop Among closed each place within among =
      subst (λ (facts : Facts). label_of facts place ≡ label_of old place) with_spec
      (labels_stay old.spec old.stops new.stops old.children new.children knows formed stop Among closed
      (λ q lt there. subst (λ (facts : Facts). (children_of new q ≡ children_of old q) ⊎ RunsInBoth old facts q) back (each q lt there)) place within among)

  pub first_stop_maps : (stop : Stop) → new.children ≡ old.children → old.stops ≡ [] → first_stop new ≡ Some stop → (place : ℕ) → place < length old.spec.tasks
      → label_of new place ≡ with_stop stop (label_of old place)
  first_stop_maps stop children none first place within =
      subst (λ (facts : Facts). label_of facts place ≡ with_stop stop (label_of old place)) (λ i. record { spec = (sym spec) i; stops = new.stops; children = (sym children) i })
      (stop_maps old.spec old.stops new.stops old.children knows formed stop (ap (λ (stops : List Stop). slice_get stops 0) none) first place within)

  pub final_is_local : (xs ys : List Verdict) (place : ℕ) → length old.spec.tasks ≤ place → place < task_total old
      → ((q : ℕ) → q < length old.spec.tasks → children_of new q ≡ children_of old q) → take (length old.spec.tasks) ys ≡ take (length old.spec.tasks) xs
      → children_of new place ≡ children_of old place → first_late_stop new ≡ first_late_stop old → verdict_line new ys place ≡ verdict_line old xs place
  final_is_local xs ys place past lt same labels children stop =
      elim (slice_get_cases old.spec.finally (place - length old.spec.tasks)).1 [
        | inl found ↦ subst (λ (facts : Facts). verdict_line facts ys place ≡ verdict_line old xs place) with_spec
            (line_of_final same_spec ys place found.0 past found.2
            ∙ (ap (λ (ls : List Verdict). finally_line same_spec ls place found.0) labels
            ∙ (final_line_same old.spec old.stops new.stops old.children new.children knows formed same (take (length old.spec.tasks) xs) place found.0 found.2 children stop
            ∙ sym (line_of_final old xs place found.0 past found.2))))
        | inr beyond ↦ absurd (omega (arith, past, lt, beyond.0))
      ]

  pub bad_parents_show : (xs ys : List Verdict) (place : ℕ) → blocks (label_at ys place) ≡ blocks (label_at xs place)
      → is_good_parent old (place, label_at xs place) ≡ false → is_good_parent new (place, label_at ys place) ≡ false → ShowsSame old new xs ys place
  bad_parents_show xs ys place blocked was_bad is_bad =
      subst (λ (facts : Facts). ShowsSame old facts xs ys place) with_spec
      (bad_shows old.spec old.stops new.stops old.children new.children knows formed xs ys place blocked was_bad
      (subst (λ (facts : Facts). is_good_parent facts (place, label_at ys place) ≡ false) back is_bad))

  pub own_is_local : (place : ℕ) (task : PipelineTask) → slice_get old.spec.tasks place ≡ Some task
      → ((q : ℕ) (parent : PipelineTask) → Contains (parents old.spec.tasks place) q → slice_get old.spec.tasks q ≡ Some parent → available_of new (q, parent) ≡ available_of old (q, parent))
      → own_in (task_env new task) task ≡ own_in (task_env old task) task
  own_is_local place task is same =
      subst (λ (facts : Facts). own_in (task_env facts task) task ≡ own_in (task_env old task) task) with_spec
      (own_texts_same old.spec old.stops new.stops old.children new.children knows formed place task is
      (λ q parent c there. subst (λ (facts : Facts). available_of facts (q, parent) ≡ available_of old (q, parent)) back (same q parent c there)))

  pub shown_decides : (xs ys : List Verdict) (place : ℕ) → (is_skipped (label_at xs place) ≡ true → children_of old place ≡ []) → (is_skipped (label_at ys place) ≡ true → children_of new place ≡ [])
      → blocks (label_at ys place) ≡ blocks (label_at xs place) → is_good_at new place ≡ is_good_at old place → is_skipped_by_when (label_at ys place) ≡ is_skipped_by_when (label_at xs place)
      → (is_good_at old place ≡ true → children_of new place ≡ children_of old place) → ShowsSame old new xs ys place
  shown_decides xs ys place bare_old bare_new blocked good passes kept =
      subst (λ (facts : Facts). ShowsSame old facts xs ys place) with_spec
      (shown_same old.spec old.stops new.stops old.children new.children knows formed xs ys place bare_old bare_new blocked
      (subst (λ (facts : Facts). is_good_at facts place ≡ is_good_at old place) back good) passes kept)

  -- with the same children and the same label
  pub same_shows : (xs ys : List Verdict) (place : ℕ) → children_of new place ≡ children_of old place → label_at ys place ≡ label_at xs place → ShowsSame old new xs ys place
  same_shows xs ys place children label =
      subst (λ (facts : Facts). ShowsSame old facts xs ys place) with_spec
      (children_show old.spec old.stops new.stops old.children new.children knows formed xs ys place children label)
