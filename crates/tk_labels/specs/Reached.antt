-- What a change of one task's children leaves as it was, and what a task that is judged again shows.
use Rattle.std.specs.Prelude.{◌≡◌, ◌≢◌, ◌⊎◌, ℕ, Bool, false, List, slice_index_or}
use Rattle.std.specs.List.{list_any}
use Rattle.tk_types.specs.declared.run.Facts.{Facts}
use Rattle.tk_types.specs.declared.verdict.Verdict.{Verdict}
use Rattle.tk_verdict.specs.Facts.{children_of, first_stop}
use Rattle.tk_verdict.specs.Good.{is_good_at}
use Rattle.tk_verdict.specs.Labels.{labels_of, verdict_line}
use Rattle.tk_verdict.specs.Verdict.{blocks, is_skipped_by_when}
use Rattle.tk_verdict.specs.WellFormed.{IsWellFormed}

-- the labels are those of a state in which only the children of one task were others, and that task wasn't good
pub record WasKept (old new : Facts) (task : ℕ) (labels : List Verdict) : Type 0 where
  pub formed : IsWellFormed old
  pub labelled : labels ≡ labels_of old
  pub spec : new.spec ≡ old.spec
  pub stop : first_stop new ≡ first_stop old
  pub others : (place : ℕ) → place ≢ task → children_of new place ≡ children_of old place
  pub bad : is_good_at old task ≡ false

-- two labels with which a task blocks or doesn't, and is skipped by its guard or isn't
pub record ShowsAlike (before after : Verdict) : Type 0 where
  pub blocks : blocks after ≡ blocks before
  pub passes : is_skipped_by_when after ≡ is_skipped_by_when before

-- a label and a mark of a task that is judged again: without the mark it shows what it showed
pub record IsAgain (new : Facts) (labels : List Verdict) (before : Verdict) (place task : ℕ) (now : Verdict) (moved : Bool) : Type 0 where
  pub label : now ≡ verdict_line new labels place
  pub alike : moved ≡ false → ShowsAlike before now
  pub good : moved ≡ false → place ≡ task → is_good_at new place ≡ false

-- a label that a task keeps: its children are as they were, and none of its parents has a mark
pub record IsUnreached (marks : List Bool) (parents : List ℕ) (before : Verdict) (place task : ℕ) (now : Verdict) : Type 0 where
  pub label : now ≡ before
  pub other : place ≢ task
  pub quiet : list_any (λ p. slice_index_or marks p false) parents ≡ false

-- a task is judged again or keeps its label
abbrev pub IsNext : Facts → List Verdict → List Bool → List ℕ → Verdict → ℕ → ℕ → Verdict → Bool → Type 0
IsNext new labels marks parents before place task label mark = IsAgain new labels before place task label mark ⊎ IsUnreached marks parents before place task label
