-- The choice among the TaskRuns of a queue: all others give rise to no act.
use Rattle.std.proofs.Common.{◌≡◌, ◌<◌, ◌≤◌, ◌+◌, ℕ, zero, suc, List, [], drop, length, get_or, true, false, not, Option, Some, None, refl, sym, ap, ◌∙◌, inl, inr, arith}
use Rattle.std.specs.Prelude.{◌&&◌, is_some, is_none, option_and_then, slice_get, if◌then◌else◌}
use Rattle.std.proofs.lemmas.Bool.{cases_lt}
use Rattle.std.proofs.lemmas.Option.{slice_get-get_or}
use Rattle.tk_names.specs.Children.{pod_name}
use Rattle.tk_journal.specs.declared.act.Act.{Act}
use Rattle.tk_journal.specs.declared.object.EndedPod.{EndedPod}
use Rattle.tk_journal.specs.declared.object.Ending.{Ending}
use Rattle.tk_journal.specs.declared.object.PodState.{PodState}
use Rattle.tk_journal.specs.declared.object.TaskRunState.{TaskRunState}
use Rattle.tk_journal.specs.History.{View}
use Rattle.tk_places.specs.Places.{AllBefore, IsNext}
use Rattle.tk_places.proofs.Marked.{all_before_next, all_so, all_behind}
use Rattle.tk_choice.proofs.First.{first_later, first_here, first_end}
use Rattle.tk_task_cache.specs.Acting.{open_from, is_awaited, waits_open, may_act_at, may_act, AreQueued}
use Rattle.tk_taskrec.specs.Choice.{close_by, act_by_pod, act_by_open, act_at, act_named, choice, choice_among}

module _ (view : View) where
  module _ (name : List ℕ) (task_run : TaskRunState) where
    by_end : (ended : Option EndedPod) → not (is_none ended) ≡ false → close_by name ended ≡ None
    by_end None waits = refl
    by_end (Some ended) waits = absurd (cc (waits))

    by_pod : (attempt : ℕ) (pod : Option PodState) → not (is_awaited pod) ≡ false → act_by_pod name task_run attempt pod ≡ None
    by_pod attempt None waits = absurd (cc (waits))
    by_pod attempt (Some pod) waits = by_end pod.ended waits

    by_closed : (closed : Option Ending) (place : Option ℕ) → (is_none closed && not (waits_open view name place)) ≡ false → (if is_some closed then None else act_by_open view name task_run place) ≡ None
    by_closed (Some ending) place idle = refl
    by_closed None None idle = absurd (cc (idle))
    by_closed None (Some place) idle = by_pod (suc place) (view.pod (pod_name name (suc place))) idle

  idle_at : (name : List ℕ) (o : Option TaskRunState) → may_act_at view name o ≡ false → act_at view name o ≡ None
  idle_at name None idle = refl
  idle_at name (Some task_run) idle = by_closed name task_run task_run.closed (open_from 0 task_run.attempts) idle

  -- a TaskRun that may not act gives rise to none
  abbrev pub IsIdle : List ℕ → Type 0
  IsIdle name = act_named view name ≡ None

  idle : (name : List ℕ) → may_act view name ≡ false → IsIdle name
  idle name none = idle_at name (view.task_run name) none

  idle_here : (place : ℕ) → option_and_then (act_named view) (slice_get view.task_runs place) ≡ None → (name : List ℕ) → slice_get view.task_runs place ≡ Some name → IsIdle name
  idle_here place none name at = ap (λ (o : Option (List ℕ)). option_and_then (act_named view) o) (sym at) ∙ none

  -- where all before a place are idle, the choice is among those from it on
  passed_over : (place : ℕ) → AllBefore IsIdle view.task_runs place → choice view ≡ choice_among view (drop place view.task_runs)
  passed_over zero before = refl
  passed_over (suc place) before =
      passed_over place (λ p name below at. before p name (omega (arith, below)) at) ∙ further
    where
      further : choice_among view (drop place view.task_runs) ≡ choice_among view (drop (suc place) view.task_runs)
      further = elim (cases_lt place (length view.task_runs)) [
        | inl within ↦
            let name : List ℕ = get_or view.task_runs place [] in
            let at : slice_get view.task_runs place ≡ Some name = slice_get-get_or view.task_runs place [] within in
            let next : place + 1 ≡ suc place = omega arith in
            first_later (act_named view) view.task_runs place within (ap (λ (o : Option (List ℕ)). option_and_then (act_named view) o) at ∙ before place name (omega arith) at)
            ∙ ap (λ (n : ℕ). choice_among view (drop n view.task_runs)) next
        | inr past ↦ first_end (act_named view) view.task_runs place past ∙ sym (first_end (act_named view) view.task_runs (suc place) (omega (arith, past)))
      ]

  -- at the end of the list
  pub none_chosen : (end : ℕ) → length view.task_runs ≤ end → AllBefore IsIdle view.task_runs end → choice view ≡ None
  none_chosen end past before = passed_over end before ∙ first_end (act_named view) view.task_runs end past

  module _ (places : List ℕ) (queued : AreQueued view places) (from : ℕ) (before : AllBefore IsIdle view.task_runs from) where
    -- the queue has no place more
    pub none_queued : IsNext from places None → choice view ≡ None
    none_queued next =
        none_chosen (length view.task_runs) (omega arith)
        (all_so (may_act view) IsIdle view.task_runs places queued idle from before next (length view.task_runs))

    module _ (place : ℕ) (next : IsNext from places (Some place)) where
      idle_before : AllBefore IsIdle view.task_runs place
      idle_before = all_before_next (may_act view) IsIdle view.task_runs places queued idle from before place next

      -- its next one is behind all TaskRuns
      pub none_within : length view.task_runs ≤ place → choice view ≡ None
      none_within past = none_chosen place past idle_before

      -- its next one gives rise to an act
      first_queued : (act : Act) → place < length view.task_runs → option_and_then (act_named view) (slice_get view.task_runs place) ≡ Some act → choice view ≡ Some act
      first_queued act within gives = passed_over place idle_before ∙ first_here (act_named view) view.task_runs place act within gives

      -- it gives rise to none
      idle_further : option_and_then (act_named view) (slice_get view.task_runs place) ≡ None → AllBefore IsIdle view.task_runs (place + 1)
      idle_further none = all_behind IsIdle view.task_runs place idle_before (idle_here place none)

      pub found_queued : (found : Option Act) → true ≡ is_some found → place < length view.task_runs → found ≡ option_and_then (act_named view) (slice_get view.task_runs place) → found ≡ choice view
      found_queued None some within is = absurd (cc (some))
      found_queued (Some act) some within is = sym (first_queued act within (sym is))

      pub none_further : (found : Option Act) → false ≡ is_some found → found ≡ option_and_then (act_named view) (slice_get view.task_runs place) → AllBefore IsIdle view.task_runs (place + 1)
      none_further None none is = idle_further (sym is)
      none_further (Some act) none is = absurd (cc (none))
