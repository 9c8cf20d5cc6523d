-- The step of the induction: what lasts before an entry of a legal history lasts after it.
use Rattle.std.proofs.Common.{◌<◌, ◌≤◌, length, ◌≡◌, ℕ, suc, ◌≤◌, List, ◌∷◌, Option, Some, None, true, refl, sym, ◌∙◌, ap, subst, arith, inl, inr, Contains, slice_get}
use Rattle.std.proofs.lemmas.Option.{same_Some}
use Rattle.tk_types.specs.declared.run.Outcome.TheVariants as outcomes
use Rattle.tk_types.specs.declared.run.Stop.{Stop}
use Rattle.tk_types.specs.declared.run.Stop.TheVariants as stops
use Rattle.tk_types.specs.declared.task.PipelineTask.{PipelineTask}
use Rattle.tk_types.specs.declared.task.TaskBody.{TaskBody}
use Rattle.tk_types.specs.declared.verdict.Binding.{Binding}
use Rattle.tk_types.specs.declared.scenario.Kind.TheVariants as kinds
use Rattle.tk_types.specs.declared.object.Asked.{Asked}
use Rattle.tk_types.specs.declared.object.Asked.TheVariants as asks
use Rattle.tk_journal.specs.declared.act.Admission.TheVariants as admissions
use Rattle.tk_journal.specs.declared.act.Closing.TheVariants as closings
use Rattle.tk_journal.specs.declared.act.Act.{Act}
use Rattle.tk_journal.specs.declared.act.Act.TheVariants as acts
use Rattle.tk_journal.specs.declared.entry.Entry.{Entry}
use Rattle.tk_journal.specs.declared.object.RunState.{RunState}
use Rattle.tk_journal.specs.declared.object.TaskRunState.{TaskRunState}
use Rattle.tk_journal.specs.declared.object.PodState.{PodState}
use Rattle.tk_journal.specs.declared.object.EndedPod.{EndedPod}
use Rattle.tk_journal.specs.Lists.{Has}
use Rattle.tk_journal.specs.Effects.{name_of, kind_of, writes, task_run_after, task_run_made, child_made, child_from, pod_after, pod_made, bindings_for, marks, is_create}
use Rattle.tk_journal.specs.Names.{task_at, child_name_of}
use Rattle.tk_journal.specs.History.{View, past, run_of, task_run_of, task_run_written, pod_of, pod_written, view_at}
use Rattle.tk_journal.specs.RunRows.{HaltRow, MakeTaskRunRow}
use Rattle.tk_journal.specs.PodRows.{ClaimRow, EndRow, EndCause}
use Rattle.tk_journal.specs.TaskRunRows.{MakePodRow}
use Rattle.tk_journal.specs.Rows.{IsJustified}
use Rattle.tk_journal.specs.Right.{WasAsked, Asks, MayBeMarkedIn, IsChildOf, facts_at, HasEndedPod, HasBody, HasMarked, HasRetries, LastingRun, LastingTaskRun, LastingPod, Lasting, RightEntry}
use Rattle.tk_journal.specs.Legal.{IsLegal, IsWritable, IsCurrent, Fits}
use Rattle.tk_journal.specs.Grows.{Grows, RunGrows, TaskRunGrows}
use Rattle.tk_journal.proofs.Basics.{prefix_contains, writes_name, writes_kind}
use Rattle.tk_journal.proofs.Attempts.{get_below}
use Rattle.tk_journal.proofs.Past.{state_cases}
use Rattle.tk_journal.proofs.Present.{TaskRunRow, PodRow, same_run, same_pod}
use Rattle.tk_journal.proofs.Grows.{grows_trans, task_run_row_of, pod_row_of}
use Rattle.tk_journal.proofs.Claimed.{IsClaimedFirst, grows_one, grows_past, claimed_first}
use Rattle.tk_journal.proofs.RunLasts.{runs_last}
use Rattle.tk_journal.proofs.TaskRunLasts.{reached_stays, part_of, mark_stays, pod_ended_stays, lift_task_run, mark_lasts, open_lasts, end_lasts, attempt_lasts, new_lasts, marked_lasts, lift_pod}
use Rattle.tk_names.proofs.PodNames.{pods_apart}
use Rattle.tk_names.specs.Children.{pod_name}
use Rattle.tk_verdict.specs.Gives.{Gives}
use Rattle.tk_types.specs.declared.run.RunSpec.{RunSpec}
use Rattle.tk_types.specs.declared.run.Start.TheVariants.{Ready}
use Rattle.tk_types.specs.declared.object.TaskRunSpec.{TaskRunSpec}
use Rattle.tk_types.specs.Limits.{most_steps}
use Rattle.tk_journal.specs.Sound.{HasSteps}
use Rattle.tk_verdict.proofs.Fitting.{given_fits}
use Rattle.tk_journal.proofs.Bodies.{few_retries, body_steps, body_reads}
use Rattle.tk_journal.proofs.Planned.{plan_length, plan_orders}

has_now : {X : Type 0} (P : X → Type 0) (o now : Option X) → Has o P → o ≡ now → Has now P
has_now P o now has same = record { it = has.it; is = sym same ∙ has.is; has = has.has }

marks_is : (asked : Option Asked) → marks asked ≡ true → asked ≡ Some asks.TaskRunCancelled
marks_is (Some asks.TaskRunCancelled) is = refl
marks_is _ is = cc

module _ (older : List Entry) (e : Entry) (legal : IsLegal (e ∷ older)) (lasting : Lasting older) where
  abbrev now : List Entry
  now = e ∷ older

  abbrev seen_now : View
  seen_now = view_at e.fronts older

  grown : Grows older now
  grown = grows_one e older legal

  -- from each front to now
  since : (n : ℕ) → Grows (past n older) now
  since n = grows_trans (past n older) older now (grows_past n older legal.0) grown

  runs_now : (name : List ℕ) (run : RunState) → run_of now name ≡ Some run → LastingRun now name run
  runs_now = runs_last older e legal lasting.runs

  -- a pod of a TaskRun's attempt that ended Cancelled tells of its mark
  marked_by_pod : (name : List ℕ) (place : ℕ) (task_run : TaskRunState) → place ≤ 101 → task_run_of older name ≡ Some task_run → HasEndedPod older (pod_name name place) outcomes.Cancelled → task_run.marked ≡ true
  marked_by_pod name place task_run within there ended =
      let pod = lasting.pods (pod_name name place) ended.it ended.is in
      let owner = lasting.task_runs ended.it.task_run pod.attempt.it pod.attempt.is in
      let own : ended.it.task_run ≡ name = sym (pods_apart name ended.it.task_run place ended.it.attempt within (omega (arith, pod.attempt.has.1, pod.attempt.has.2, owner.few, owner.sized)) pod.named).0 in
      let marked : HasMarked older name = subst (HasMarked older) own (pod.cancelled ended.has) in
      subst (λ (t : TaskRunState). t.marked ≡ true) (same_Some marked.it task_run (sym marked.is ∙ there)) marked.has

  task_run_changed : (act : Act) (name : List ℕ) (task_run : TaskRunState) → name_of act ≡ name → kind_of act ≡ kinds.TaskRuns → ((status : Asked) → Asks act name status → WasAsked now name status) → TaskRunRow seen_now e.actor e.moment act task_run → task_run_of older name ≡ Some task_run → LastingTaskRun now name task_run → LastingTaskRun now name (task_run_after e.moment act task_run)
  task_run_changed (acts.Ask named asks.TaskRunCancelled) name task_run same kind was row there before =
      mark_lasts now name task_run before e.moment row.not_closed (subst (MayBeMarkedIn now name task_run.task) (sym row.standalone) (was asks.TaskRunCancelled (same, refl)))
  task_run_changed (acts.CancelTaskRun named) name task_run same kind was row there before =
      mark_lasts now name task_run before e.moment row.not_closed (subst (MayBeMarkedIn now name task_run.task) (sym row.child) (mark_stays (past e.fronts.runs older) now (since e.fronts.runs) name task_run.task (Some row.run_name) row.reached))
  task_run_changed (acts.OpenAttempt named) name task_run same kind was row there before = open_lasts now name task_run before e.moment row
  task_run_changed (acts.Close named (closings.Attempt outcome)) name task_run same kind was row there before =
      let ended : HasEndedPod older (pod_name name (suc row.place)) outcome = subst (λ (n : List ℕ). HasEndedPod older (pod_name n (suc row.place)) outcome) same (pod_ended_stays (past e.fronts.pods older) older (grows_past e.fronts.pods older legal.0) (pod_name named (suc row.place)) outcome row.pod_ended) in
      attempt_lasts now name task_run before e.moment outcome row.place row.not_closed row.is_open (pod_ended_stays older now grown (pod_name name (suc row.place)) outcome ended)
      (λ is. marked_by_pod name (suc row.place) task_run (omega (arith, before.last_open row.place row.is_open, before.few, before.sized)) there (subst (HasEndedPod older (pod_name name (suc row.place))) is ended))
  task_run_changed (acts.Close named closings.TaskRun) name task_run same kind was row there before = end_lasts now name task_run before e.moment row
  task_run_changed (acts.Ask named asks.Start) name task_run same kind was row there before = cc
  task_run_changed (acts.Ask named asks.StoppedRunFinally) name task_run same kind was row there before = cc
  task_run_changed (acts.Ask named asks.CancelledRunFinally) name task_run same kind was row there before = cc
  task_run_changed (acts.Ask named asks.Cancelled) name task_run same kind was row there before = cc
  task_run_changed _ name task_run same kind was row there before = absurd row

  task_run_new : (act : Act) (name : List ℕ) (task_run : TaskRunState) → name_of act ≡ name → ((status : Asked) → Asks act name status → WasAsked now name status) → IsJustified seen_now e.actor e.moment act → Fits older e act → task_run_made (run_of older) act ≡ Some task_run → LastingTaskRun now name task_run
  task_run_new (acts.Admit named (admissions.Task spec) pending asked root) name task_run same was just fits is =
      subst (LastingTaskRun now name) (same_Some _ task_run is)
      (new_lasts now name _ refl refl (fits.1.named ∙ same) fits.1.fit fits.1.steps fits.1.readable fits.1.few_retries (λ run_name none. cc) (λ run_name none. cc) (λ run_name none. cc) (λ run_name none. cc) (λ marked. was asks.TaskRunCancelled (same, marks_is asked marked)))
  task_run_new (acts.MakeTaskRun named run task index mark) name task_run same was just fits is = by_run (run_of older run) refl is
    where
      row : Has (run_of (past e.fronts.runs older) run) (MakeTaskRunRow seen_now named task index mark)
      row = just.1

      seen_later : Has (run_of now run) (RunGrows row.it)
      seen_later = (since e.fronts.runs).runs run row.it row.is

      by_parts : (r : RunState) → run_of older run ≡ Some r → (b : Option Binding) → slice_get (bindings_for task r.scheduled) index ≡ b → (body : Option TaskBody) → slice_get r.spec.bodies task ≡ body → (pipeline_task : Option PipelineTask) → task_at r.spec task ≡ pipeline_task → child_from named run r task index mark b body pipeline_task ≡ Some task_run → LastingTaskRun now name task_run
      by_parts r there (Some binding) at (Some body) body_at (Some pipeline_task) pt made =
          let later = grown.runs run r there in
          let part = part_of r.scheduled task index binding at in
          let scheduled : Contains later.it.scheduled part.0 = prefix_contains r.scheduled later.it.scheduled part.0 later.has.scheduled part.1 in
          let same_now : seen_later.it ≡ later.it = same_Some seen_later.it later.it (sym seen_later.is ∙ later.is) in
          let specs : row.it.spec ≡ later.it.spec = sym seen_later.has.spec ∙ ap (λ (x : RunState). x.spec) same_now in
          subst (LastingTaskRun now name) (same_Some _ task_run made)
          (new_lasts now name _ refl refl same
          (λ starts. given_fits (facts_at now later.it) part.0.task part.0.bindings ((runs_now run later.it later.is).given part.0 scheduled) index binding part.3 body
          (ap (λ (t : ℕ). slice_get later.it.spec.bodies t) part.2 ∙ (ap (λ (s : RunSpec). slice_get s.bodies task) later.has.spec ∙ body_at)))
          (let steps = body_steps r.spec (lasting.runs run r there).sound task body body_at in record { few = steps.few; some = λ ready. steps.some ((lasting.runs run r there).startable ((lasting.runs run r there).started part.0 part.1)) })
          (body_reads r.spec (lasting.runs run r there).sound task body body_at)
          (few_retries r.spec (lasting.runs run r there).sound task pipeline_task pt)
          (λ run_name is_run. subst (λ (n : List ℕ). HasRetries now n task pipeline_task.retries) (same_Some run run_name is_run)
          (record { it = later.it; is = later.is; has = record { it = pipeline_task; is = ap (λ spec. task_at spec task) later.has.spec ∙ pt; has = refl } }))
          (λ run_name is_run. subst (λ (n : List ℕ). HasBody now n task body) (same_Some run run_name is_run)
          (record { it = later.it; is = later.is; has = ap (λ (s : RunSpec). slice_get s.bodies task) later.has.spec ∙ body_at }))
          (λ run_name is_run. subst (λ (n : List ℕ). Has (run_of now n) (IsChildOf now name task index binding)) (same_Some run run_name is_run)
          (record {
            it = later.it;
            is = later.is;
            has = record {
              named = sym same ∙ row.has.named ∙ ap (λ spec. child_name_of spec task index) specs;
              part = part.0;
              scheduled = scheduled;
              of_task = part.2;
              at = part.3;
              given = subst (λ (t : ℕ). Gives (facts_at now later.it) t part.0.bindings) part.2 ((runs_now run later.it later.is).given part.0 scheduled);
            };
          }))
          (λ run_name is_run. refl)
          (λ marked. record { it = seen_later.it; is = seen_later.is; has = reached_stays row.it seen_later.it task seen_later.has (row.has.marked.0 marked) }))
      by_parts r there None at body body_at pipeline_task pt made = cc
      by_parts r there (Some binding) at None body_at pipeline_task pt made = cc
      by_parts r there (Some binding) at (Some body) body_at None pt made = cc

      by_run : (r : Option RunState) → run_of older run ≡ r → child_made named run task index mark r ≡ Some task_run → LastingTaskRun now name task_run
      by_run None there made = cc
      by_run (Some r) there made = by_parts r there (slice_get (bindings_for task r.scheduled) index) refl (slice_get r.spec.bodies task) refl (task_at r.spec task) refl made
  task_run_new act name task_run same was just fits is = cc

  task_runs_last : (name : List ℕ) (task_run : TaskRunState) → task_run_of now name ≡ Some task_run → LastingTaskRun now name task_run
  task_runs_last name task_run is =
      state_cases (writes kinds.TaskRuns name) (λ (before : List Entry) d was. task_run_written (run_of before) d was) (λ (o : Option TaskRunState). (t : TaskRunState) → o ≡ Some t → LastingTaskRun now name t) e older
      (λ miss t there. lift_task_run older now grown runs_now name t (lasting.task_runs name t there))
      (λ hit. written (task_run_of older name) refl hit) task_run is
    where
      written : (was : Option TaskRunState) → task_run_of older name ≡ was → writes kinds.TaskRuns name e ≡ true → (t : TaskRunState) → task_run_written (run_of older) e was ≡ Some t → LastingTaskRun now name t
      written None there hit t out = task_run_new e.act name t (writes_name kinds.TaskRuns name e hit) (λ status asks. inl asks) legal.1.justified legal.1.fits out
      written (Some before) there hit t out =
          subst (LastingTaskRun now name) (same_Some (task_run_after e.moment e.act before) t out)
          (task_run_changed e.act name before (writes_name kinds.TaskRuns name e hit) (writes_kind kinds.TaskRuns name e hit) (λ status asks. inl asks) (task_run_row_of older e legal.1 name before hit there) there
          (lift_task_run older now grown runs_now name before (lasting.task_runs name before there)))

  -- pods

  pod_changed : (act : Act) (name : List ℕ) (pod : PodState) → PodRow seen_now e.actor e.moment act pod → IsClaimedFirst (pod_after e.actor act pod) → LastingPod now name pod → LastingPod now name (pod_after e.actor act pod)
  pod_changed (acts.ClaimPod named) name pod row claimed before = record { named = before.named; attempt = before.attempt; mark = before.mark; cancelled = before.cancelled; claimed_first = claimed; whole = before.whole; steps = before.steps; orders = before.orders }
  pod_changed (acts.EndPod named exits outcome) name pod row claimed before = record {
    named = before.named;
    attempt = before.attempt;
    mark = before.mark;
    claimed_first = claimed;
    whole = before.whole;
    steps = before.steps;
    orders = before.orders;
    cancelled = λ ended. by_row (ap (λ (p : EndedPod). p.outcome) (same_Some _ ended.it ended.is) ∙ ended.has);
  }
    where
      by_cause : EndCause seen_now e.moment exits pod outcomes.Cancelled → HasMarked now pod.task_run
      by_cause cause = elim cause [ inl marked ↦ before.mark marked | inr marked ↦ marked_lasts (past e.fronts.task_runs older) now (since e.fronts.task_runs) pod.task_run marked ]

      by_row : outcome ≡ outcomes.Cancelled → HasMarked now pod.task_run
      by_row is = elim row.fits [
        | inl own ↦ by_cause (subst (EndCause seen_now e.moment exits pod) is own.2)
        | inr lost ↦ cc (is, lost.1)
      ]
  pod_changed _ name pod row claimed before = absurd row

  pod_new : (act : Act) (name : List ℕ) (pod : PodState) → name_of act ≡ name → IsJustified seen_now e.actor e.moment act → pod_made act ≡ Some pod → LastingPod now name pod
  pod_new (acts.MakePod named task_run attempt plan mark) name pod same just is = subst (LastingPod now name) (same_Some _ pod is) (record {
    named = sym same ∙ row.has.named;
    attempt = record { it = later.it; is = later.is; has = (row.has.place, row.has.number, omega (arith, later.has.longer, get_below row.it.attempts row.has.place row.has.is_open.attempt row.has.is_open.at)) };
    mark = λ marked. record { it = later.it; is = later.is; has = later.has.marked (sym row.has.marked ∙ marked) };
    cancelled = λ ended. let none = ended.is in cc (none);
    claimed_first = λ ended. let none = ended.1 in cc (none);
    whole = record { it = later.it; is = later.is; has = planned ∙ ap (λ (spec : TaskRunSpec). length spec.body.spec.steps) (sym later.has.spec) };
    steps = subst (λ (n : ℕ). (0 < n) × (n ≤ most_steps)) (sym planned) (has_steps.some ready, has_steps.few);
    orders = λ place order at. let is = plan_orders row.it attempt plan row.has.planned place order at in (is.0 ∙ (own_name ∙ (sym row.has.named ∙ same)), is.1);
  })
    where
      row : Has (task_run_of (past e.fronts.task_runs older) task_run) (MakePodRow named task_run attempt plan mark)
      row = just.1

      later : Has (task_run_of now task_run) (TaskRunGrows row.it)
      later = (since e.fronts.task_runs).task_runs task_run row.it row.is

      owner : LastingTaskRun now task_run later.it
      owner = task_runs_last task_run later.it later.is

      ready : row.it.spec.start ≡ Ready
      ready = ap (λ (spec : TaskRunSpec). spec.start) (sym later.has.spec) ∙ owner.tried (omega (arith, later.has.longer, get_below row.it.attempts row.has.place row.has.is_open.attempt row.has.is_open.at))

      has_steps : HasSteps row.it.spec.start row.it.spec.body
      has_steps = subst (λ (spec : TaskRunSpec). HasSteps spec.start spec.body) later.has.spec owner.steps

      own_name : pod_name row.it.spec.name attempt ≡ pod_name task_run attempt
      own_name = ap (λ (n : List ℕ). pod_name n attempt) (ap (λ (spec : TaskRunSpec). spec.name) (sym later.has.spec) ∙ owner.named)

      planned : length plan.orders ≡ length row.it.spec.body.spec.steps
      planned = plan_length row.it attempt plan row.has.planned
  pod_new act name pod same just is = cc

  pods_last : (name : List ℕ) (pod : PodState) → pod_of now name ≡ Some pod → LastingPod now name pod
  pods_last name pod is =
      state_cases (writes kinds.Pods name) (λ (before : List Entry) d was. pod_written d was) (λ (o : Option PodState). (p : PodState) → o ≡ Some p → IsClaimedFirst p → LastingPod now name p) e older
      (λ miss p there claimed. lift_pod older now grown name p (lasting.pods name p there))
      (λ hit. written (pod_of older name) refl hit) pod is (claimed_first now legal name pod is)
    where
      written : (was : Option PodState) → pod_of older name ≡ was → writes kinds.Pods name e ≡ true → (p : PodState) → pod_written e was ≡ Some p → IsClaimedFirst p → LastingPod now name p
      written None there hit p out claimed = pod_new e.act name p (writes_name kinds.Pods name e hit) legal.1.justified out
      written (Some before) there hit p out claimed =
          let same : pod_after e.actor e.act before ≡ p = same_Some _ p out in
          subst (LastingPod now name) same
          (pod_changed e.act name before (pod_row_of older e legal.1 name before hit there) (subst IsClaimedFirst (sym same) claimed) (lift_pod older now grown name before (lasting.pods name before there)))

  -- what the entry does

  timed : (name : List ℕ) (stop : Stop) → Has (run_of (past e.fronts.runs older) name) (HaltRow seen_now e.moment stop) → IsCurrent kinds.Runs name e.fronts older → Has (run_of older name) (HaltRow seen_now e.moment stop)
  timed name stop has current = has_now (HaltRow seen_now e.moment stop) _ _ has (same_run older e.fronts e.actor e.moment name current)

  right_entry : (act : Act) → IsJustified seen_now e.actor e.moment act → IsWritable (is_create act) (kind_of act) (name_of act) e.fronts older → RightEntry older e.moment act
  right_entry (acts.Halt name stops.TasksTimeout) just current = let row = timed name stops.TasksTimeout just.1 current in record { it = row.it; is = row.is; has = row.has.cause.1 }
  right_entry (acts.Halt name stops.FinallyTimeout) just current = let row = timed name stops.FinallyTimeout just.1 current in record { it = row.it; is = row.is; has = row.has.cause.1 }
  right_entry (acts.Halt name stops.PipelineTimeout) just current = let row = timed name stops.PipelineTimeout just.1 current in record { it = row.it; is = row.is; has = row.has.cause.1 }
  right_entry (acts.ClaimPod name) just current =
      let row = has_now (ClaimRow seen_now e.actor) _ _ just (same_pod older e.fronts e.actor e.moment name current) in
      record { it = row.it; is = row.is; has = row.has.unclaimed }
  right_entry (acts.EndPod name exits outcome) just current =
      let row = has_now (EndRow seen_now e.actor e.moment exits outcome) _ _ just (same_pod older e.fronts e.actor e.moment name current) in
      record { it = row.it; is = row.is; has = ((record { number = row.has.number; life = row.has.claimed_in }, row.has.claimed), row.has.unended) }
  right_entry _ just current = tt

  pub lasting_step : Lasting now
  lasting_step = record { runs = runs_now; task_runs = task_runs_last; pods = pods_last; entries = (lasting.entries, right_entry e.act legal.1.justified legal.1.writable) }
