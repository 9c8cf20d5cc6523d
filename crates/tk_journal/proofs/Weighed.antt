-- Each entry of a legal history takes a slot of its own, so the entries are at most as many as the weight.
use Rattle.std.proofs.Common.{◌≡◌, ◌≢◌, ℕ, suc, ◌<◌, ◌≤◌, List, [], ◌∷◌, ◌++◌, length, Option, Some, None, Bool, true, refl, sym, ◌∙◌, ap, subst, arith, Contains, All, AllPairs, slice_get, length-append}
use Rattle.std.proofs.lemmas.Option.{same_Some}
use Rattle.std.proofs.lemmas.List.Elements.{Contains-append_left, Contains-append_right, Contains-push, All-contains, All-weaker, All-cons, All-nil}
use Rattle.std.proofs.lemmas.List.Kept.{AllPairs-cons}
use Rattle.tk_types.specs.declared.run.RunSpec.{RunSpec}
use Rattle.tk_types.specs.declared.run.Stop.{Stop}
use Rattle.tk_types.specs.declared.run.Stop.TheVariants as stops
use Rattle.tk_types.specs.declared.run.Outcome.{Outcome}
use Rattle.tk_types.specs.declared.task.PipelineTask.{PipelineTask}
use Rattle.tk_types.specs.declared.task.TaskBody.{TaskBody}
use Rattle.tk_types.specs.declared.verdict.Binding.{Binding}
use Rattle.tk_types.specs.declared.scenario.Kind.TheVariants as kinds
use Rattle.tk_journal.specs.declared.act.Admission.TheVariants as admissions
use Rattle.tk_journal.specs.declared.act.Closing.TheVariants as closings
use Rattle.tk_journal.specs.declared.act.Act.{Act}
use Rattle.tk_journal.specs.declared.act.Act.TheVariants as acts
use Rattle.tk_journal.specs.declared.entry.Entry.{Entry}
use Rattle.tk_journal.specs.declared.object.RunState.{RunState}
use Rattle.tk_journal.specs.declared.object.Scheduled.{Scheduled}
use Rattle.tk_journal.specs.declared.object.TaskRunState.{TaskRunState}
use Rattle.tk_journal.specs.declared.object.Attempt.{Attempt}
use Rattle.tk_journal.specs.declared.object.PodState.{PodState}
use Rattle.tk_journal.specs.Lists.{IsThere, Has}
use Rattle.tk_journal.specs.Effects.{name_of, kind_of, writes, run_made, run_after, task_run_made, task_run_after, child_made, child_from, task_count, bindings_for, pod_after, claim_of, ending_without_attempt, is_create}
use Rattle.tk_journal.specs.Names.{task_at, child_name_of, possible_count}
use Rattle.tk_journal.specs.History.{View, past, run_of, run_written, task_run_of, task_run_written, pod_of, view_at}
use Rattle.tk_journal.specs.Rows.{IsJustified}
use Rattle.tk_journal.specs.RunRows.{MakeTaskRunRow}
use Rattle.tk_types.specs.Behaviour.{level_of}
use Rattle.tk_journal.specs.Right.{Lasting, LastingTaskRun, facts_at, EndedAttempt}
use Rattle.tk_journal.specs.Legal.{IsLegal, IsStep, IsWritable, IsCurrent, Fits}
use Rattle.tk_journal.specs.Weight.{weight}
use Rattle.tk_journal.proofs.LeastWeight.{retries_at, least, least_weight}
use Rattle.tk_journal.proofs.Possible.{count_has, map_has, within_possible}
use Rattle.std.specs.List.{range_with_len}
use Rattle.tk_journal.specs.Grows.{Grows}
use Rattle.tk_journal.proofs.Basics.{writes_name, none_there, prefix_contains}
use Rattle.tk_journal.proofs.TaskRunLasts.{part_of}
use Rattle.tk_journal.proofs.Stuck.{get_there, bindings_of_part}
use Rattle.tk_journal.proofs.Attempts.{get_below, open_closed}
use Rattle.tk_journal.proofs.Past.{state_cases}
use Rattle.tk_journal.proofs.Present.{same_run, same_task_run, same_pod}
use Rattle.tk_journal.proofs.Grows.{grows_trans, run_row_of, task_run_row_of, run_step, task_run_step}
use Rattle.tk_journal.proofs.Claimed.{grows_one, grows_past}
use Rattle.tk_journal.proofs.Induction.{lasting}
use Rattle.tk_journal.proofs.Apart.{pairs_across}
use Rattle.tk_journal.proofs.Slots.{Slot, admitted, started, finished, halted, planned, asked_at, made, marked, ended_alone, opened, has_pod, claimed, over, archived, task_run_slots, run_slots, children_slots, act_slots, all_slots, length_slots, IsAllowed, allowed_stays, child_allowed, attempt_slot, fewer, IsOfAttempt, of_opened, of_pod, of_claimed, of_over, of_archived}
use Rattle.tk_journal.proofs.Taken.{Taken, taken_stays, run_now, run_new, task_run_now, task_run_new_now, pod_now, pod_new_now}
use Rattle.tk_names.specs.Children.{pod_name}

all_there : (name run_name : List ℕ) (task index : ℕ) (mark : Bool) (o : Option RunState) (run : RunState) → o ≡ Some run → (binding : Binding) → slice_get (bindings_for task run.scheduled) index ≡ Some binding → (body : TaskBody) → slice_get run.spec.bodies task ≡ Some body → (pipeline_task : PipelineTask) → task_at run.spec task ≡ Some pipeline_task → IsThere (child_made name run_name task index mark o)
all_there name run_name task index mark o run is binding bound body has_body pipeline_task has_task = rw (is, bound, has_body, has_task) (_, refl)

abbrev slots_of_run : List ℕ → RunSpec → List Slot
slots_of_run name spec = run_slots name (task_count spec) ++ children_slots spec 0 (task_count spec)

made_run_slots : (place : ℕ) (act : Act) (run : RunState) (slot : Slot) → run_made act ≡ Some run → Contains (slots_of_run (name_of act) run.spec) slot → Contains (act_slots place act) slot
made_run_slots place (acts.Admit name (admissions.Run spec) pending asked root) run slot is has = subst (λ (r : RunState). Contains (slots_of_run name r.spec) slot) (sym (same_Some _ run is)) has
made_run_slots place act run slot is has = cc

written_run_slots : (older : List Entry) (e : Entry) → IsStep older e → (name : List ℕ) (slot : Slot) (was : Option RunState) → run_of older name ≡ was → ((r : RunState) → was ≡ Some r → Contains (slots_of_run name r.spec) slot → IsAllowed older slot) → writes kinds.Runs name e ≡ true → (r : RunState) → run_written e was ≡ Some r → Contains (slots_of_run name r.spec) slot → IsAllowed (e ∷ older) slot
written_run_slots older e step name slot None there before hit r out has =
    Contains-append_right (all_slots older) (act_slots (length older) e.act) slot (made_run_slots (length older) e.act r slot out (subst (λ (n : List ℕ). Contains (slots_of_run n r.spec) slot) (sym (writes_name kinds.Runs name e hit)) has))
written_run_slots older e step name slot (Some was) there before hit r out has =
    let same : r.spec ≡ was.spec = ap (λ (x : RunState). x.spec) (sym (same_Some (run_after e.moment e.act was) r out)) ∙ (run_step (view_at e.fronts older) e.actor e.moment e.act was (run_row_of older e step name was hit there)).spec in
    allowed_stays e older slot (before was refl (subst (λ (spec : RunSpec). Contains (slots_of_run name spec) slot) same has))

run_allowed : (history : List Entry) → IsLegal history → (name : List ℕ) (slot : Slot) (run : RunState) → run_of history name ≡ Some run → Contains (slots_of_run name run.spec) slot → IsAllowed history slot
run_allowed [] legal name slot run is = cc
run_allowed (e ∷ older) legal name slot run is =
    state_cases (writes kinds.Runs name) (λ (before : List Entry) d was. run_written d was) (λ (o : Option RunState). (r : RunState) → o ≡ Some r → Contains (slots_of_run name r.spec) slot → IsAllowed (e ∷ older) slot) e older
    (λ miss r there has. allowed_stays e older slot (run_allowed older legal.0 name slot r there has))
    (λ hit. written_run_slots older e legal.1 name slot (run_of older name) refl (λ r there. run_allowed older legal.0 name slot r there) hit) run is

made_alone_slots : (runs : List ℕ → Option RunState) (place : ℕ) (act : Act) (task_run : TaskRunState) (slot : Slot) → task_run_made runs act ≡ Some task_run → task_run.run ≡ None → Contains (task_run_slots (name_of act) task_run.spec.retries) slot → Contains (act_slots place act) slot
made_alone_slots runs place (acts.Admit name (admissions.Task spec) pending asked root) task_run slot is alone has = subst (λ (t : TaskRunState). Contains (task_run_slots name t.spec.retries) slot) (sym (same_Some _ task_run is)) has
made_alone_slots runs place (acts.MakeTaskRun named run task index mark) task_run slot is alone has = absurd (by_run (runs run) is)
  where
    by_parts : (r : RunState) (b : Option Binding) (body : Option TaskBody) (pipeline_task : Option PipelineTask) → child_from named run r task index mark b body pipeline_task ≡ Some task_run → ⊥
    by_parts r (Some binding) (Some body) (Some pipeline_task) out = let its : Some run ≡ task_run.run = ap (λ (t : TaskRunState). t.run) (same_Some _ task_run out) in cc (its, alone)
    by_parts r None body pipeline_task out = cc
    by_parts r (Some binding) None pipeline_task out = cc
    by_parts r (Some binding) (Some body) None out = cc

    by_run : (r : Option RunState) → child_made named run task index mark r ≡ Some task_run → ⊥
    by_run None out = cc
    by_run (Some r) out = by_parts r _ _ _ out
made_alone_slots runs place act task_run slot is alone has = cc

written_alone_slots : (older : List Entry) (e : Entry) → IsStep older e → (name : List ℕ) (slot : Slot) (was : Option TaskRunState) → task_run_of older name ≡ was → ((t : TaskRunState) → was ≡ Some t → t.run ≡ None → Contains (task_run_slots name t.spec.retries) slot → IsAllowed older slot) → writes kinds.TaskRuns name e ≡ true → (t : TaskRunState) → task_run_written (run_of older) e was ≡ Some t → t.run ≡ None → Contains (task_run_slots name t.spec.retries) slot → IsAllowed (e ∷ older) slot
written_alone_slots older e step name slot None there before hit t out alone has =
    Contains-append_right (all_slots older) (act_slots (length older) e.act) slot (made_alone_slots (run_of older) (length older) e.act t slot out alone (subst (λ (n : List ℕ). Contains (task_run_slots n t.spec.retries) slot) (sym (writes_name kinds.TaskRuns name e hit)) has))
written_alone_slots older e step name slot (Some was) there before hit t out alone has =
    let grows = task_run_step (view_at e.fronts older) e.actor e.moment e.act was (task_run_row_of older e step name was hit there) in
    let same : task_run_after e.moment e.act was ≡ t = same_Some _ t out in
    allowed_stays e older slot (before was refl (sym grows.run ∙ ap (λ (x : TaskRunState). x.run) same ∙ alone) (subst (λ (n : ℕ). Contains (task_run_slots name n) slot) (ap (λ (x : TaskRunState). x.spec.retries) (sym same) ∙ ap (λ spec. spec.retries) grows.spec) has))

alone_allowed : (history : List Entry) → IsLegal history → (name : List ℕ) (slot : Slot) (task_run : TaskRunState) → task_run_of history name ≡ Some task_run → task_run.run ≡ None → Contains (task_run_slots name task_run.spec.retries) slot → IsAllowed history slot
alone_allowed [] legal name slot task_run is = λ alone has. cc
alone_allowed (e ∷ older) legal name slot task_run is =
    state_cases (writes kinds.TaskRuns name) (λ (before : List Entry) d was. task_run_written (run_of before) d was) (λ (o : Option TaskRunState). (t : TaskRunState) → o ≡ Some t → t.run ≡ None → Contains (task_run_slots name t.spec.retries) slot → IsAllowed (e ∷ older) slot) e older
    (λ miss t there alone has. allowed_stays e older slot (alone_allowed older legal.0 name slot t there alone has))
    (λ hit. written_alone_slots older e legal.1 name slot (task_run_of older name) refl (λ t there. alone_allowed older legal.0 name slot t there) hit) task_run is

-- a TaskRun's slots, of its own or as a child
task_run_allowed : (history : List Entry) → IsLegal history → (name : List ℕ) (slot : Slot) (task_run : TaskRunState) → task_run_of history name ≡ Some task_run → Contains (task_run_slots name task_run.spec.retries) slot → IsAllowed history slot
task_run_allowed history legal name slot task_run there has = by_run task_run.run refl
  where
    tr : LastingTaskRun history name task_run
    tr = (lasting history legal).task_runs name task_run there

    by_run : (r : Option (List ℕ)) → task_run.run ≡ r → IsAllowed history slot
    by_run None alone = alone_allowed history legal name slot task_run there alone has
    by_run (Some run_name) child_of =
        let child = tr.child run_name child_of in
        let retries = tr.retries run_name child_of in
        let run = (lasting history legal).runs run_name child.it child.is in
        let few = within_possible (facts_at history child.it) child.has.part.task child.has.part.bindings (run.given child.has.part child.has.scheduled) in
        let same_run_now : retries.it ≡ child.it = same_Some retries.it child.it (sym retries.is ∙ child.is) in
        let tries : retries_at (task_at child.it.spec task_run.task) ≡ task_run.spec.retries = ap (λ (r : RunState). retries_at (task_at r.spec task_run.task)) (sym same_run_now) ∙ ap retries_at retries.has.is ∙ retries.has.has in
        let exists = run.exist child.has.part child.has.scheduled in
        let of_part : child.has.part.task ≡ task_run.task = child.has.of_task in
        let bounded : length child.has.part.bindings ≤ possible_count child.it.spec task_run.task = subst (λ (t : ℕ). length child.has.part.bindings ≤ possible_count child.it.spec t) of_part few in
        run_allowed history legal run_name slot child.it child.is
        (Contains-append_right (run_slots run_name (task_count child.it.spec)) (children_slots child.it.spec 0 (task_count child.it.spec)) slot
        (child_allowed child.it.spec 0 (task_count child.it.spec) task_run.task task_run.index slot (omega arith) (omega (arith, exists.1, of_part)) (omega (arith, get_below child.has.part.bindings task_run.index task_run.binding child.has.at, bounded))
        (subst (λ (n : ℕ). Contains (task_run_slots (child_name_of child.it.spec task_run.task task_run.index) n) slot) (sym tries) (subst (λ (n : List ℕ). Contains (task_run_slots n task_run.spec.retries) slot) child.has.named has))))

-- over one entry
module _ (older : List Entry) (e : Entry) (legal : IsLegal (e ∷ older)) where
  abbrev now : List Entry
  now = e ∷ older

  abbrev seen : View
  seen = view_at e.fronts older

  grown : Grows older now
  grown = grows_one e older legal

  before : Lasting older
  before = lasting older legal.0

  after : Lasting now
  after = lasting now legal

  -- a slot that no entry has taken yet
  record Fresh : Type 0 where
    slot : Slot
    free : Taken older slot → ⊥
    taken : Taken now slot
    allowed : IsAllowed now slot

  -- the object of an update as it stands now
  run_there : (name : List ℕ) (P : RunState → Type 0) → Has (run_of (past e.fronts.runs older) name) P → IsCurrent kinds.Runs name e.fronts older → Has (run_of older name) P
  run_there name P has current = record { it = has.it; is = sym (same_run older e.fronts e.actor e.moment name current) ∙ has.is; has = has.has }

  task_run_there : (name : List ℕ) (P : TaskRunState → Type 0) → Has (task_run_of (past e.fronts.task_runs older) name) P → IsCurrent kinds.TaskRuns name e.fronts older → Has (task_run_of older name) P
  task_run_there name P has current = record { it = has.it; is = sym (same_task_run older e.fronts e.actor e.moment name current) ∙ has.is; has = has.has }

  pod_there : (name : List ℕ) (P : PodState → Type 0) → Has (pod_of (past e.fronts.pods older) name) P → IsCurrent kinds.Pods name e.fronts older → Has (pod_of older name) P
  pod_there name P has current = record { it = has.it; is = sym (same_pod older e.fronts e.actor e.moment name current) ∙ has.is; has = has.has }

  run_slot_now : (name : List ℕ) (run : RunState) → run_of older name ≡ Some run → (slot : Slot) → Contains (run_slots name (task_count run.spec)) slot → IsAllowed now slot
  run_slot_now name run there slot has = allowed_stays e older slot (run_allowed older legal.0 name slot run there (Contains-append_left (run_slots name (task_count run.spec)) (children_slots run.spec 0 (task_count run.spec)) slot has))

  task_run_slot_now : (name : List ℕ) (task_run : TaskRunState) → task_run_of older name ≡ Some task_run → (slot : Slot) → Contains (task_run_slots name task_run.spec.retries) slot → IsAllowed now slot
  task_run_slot_now name task_run there slot has = allowed_stays e older slot (task_run_allowed older legal.0 name slot task_run there has)

  level_slot : (name : List ℕ) (count : ℕ) (stop : Stop) → Contains (run_slots name count) (halted name (level_of stop))
  level_slot name count stops.Failure = (3, omega arith, refl)
  level_slot name count stops.StoppedRunFinally = (3, omega arith, refl)
  level_slot name count stops.CancelledRunFinally = (4, omega arith, refl)
  level_slot name count stops.TasksTimeout = (4, omega arith, refl)
  level_slot name count stops.FinallyTimeout = (5, omega arith, refl)
  level_slot name count stops.Cancelled = (6, omega arith, refl)
  level_slot name count stops.PipelineTimeout = (6, omega arith, refl)

  same_of : {X : Type 0} (o : Option X) (a b : X) → o ≡ Some a → o ≡ Some b → a ≡ b
  same_of o a b first second = same_Some a b (sym first ∙ second)

  pod_slot : (task_run_name : List ℕ) (place : ℕ) (task_run : TaskRunState) → task_run_of older task_run_name ≡ Some task_run → place < length task_run.attempts → (slot : Slot) → IsOfAttempt task_run_name place slot → IsAllowed now slot
  pod_slot task_run_name place task_run there below slot of_attempt =
      let tr = before.task_runs task_run_name task_run there in
      task_run_slot_now task_run_name task_run there slot (attempt_slot task_run_name task_run.spec.retries place slot (omega (arith, tr.few)) of_attempt)

  -- a child is made, since its run has it, with a body and a task
  pub child_there : (name run : List ℕ) (task index : ℕ) (mark : Bool) → Has (run_of (past e.fronts.runs older) run) (MakeTaskRunRow seen name task index mark) → IsThere (child_made name run task index mark (run_of older run))
  child_there name run task index mark row =
      let part = part_of row.it.scheduled task index row.has.child.0 row.has.child.1 in
      let later = (grows_past e.fronts.runs older legal.0).runs run row.it row.is in
      let last = before.runs run later.it later.is in
      let has : Contains later.it.scheduled part.0 = prefix_contains row.it.scheduled later.it.scheduled part.0 later.has.scheduled part.1 in
      let bound : slice_get (bindings_for task later.it.scheduled) index ≡ Some row.has.child.0 = ap (λ (t : ℕ). slice_get (bindings_for t later.it.scheduled) index) (sym part.2) ∙ ap (λ (bs : List Binding). slice_get bs index) (bindings_of_part later.it.scheduled part.0 last.once has) ∙ part.3 in
      let exists = last.exist part.0 has in
      let body = get_there later.it.spec.bodies task (omega (arith, exists.1, part.2, last.sound.one_body_each)) in
      let pipeline_task = get_there (later.it.spec.tasks ++ later.it.spec.finally) task (omega (arith, exists.1, part.2, length-append later.it.spec.tasks later.it.spec.finally)) in
      all_there name run task index mark (run_of older run) later.it later.is row.has.child.0 bound body.0 body.1 pipeline_task.0 pipeline_task.1

  fresh : (act : Act) → e.act ≡ act → IsJustified seen e.actor e.moment act → IsWritable (is_create act) (kind_of act) (name_of act) e.fronts older → Fits older e act → Fresh
  fresh (acts.Start name) is just current fits =
      let row = run_there name _ just.1 current in
      record {
        slot = started name;
        free = λ taken. none_there row.it.start row.has.not_started (subst (λ (r : RunState). IsThere r.start) (same_of (run_of older name) taken.it row.it taken.is row.is) taken.has);
        taken = record { it = run_after e.moment (acts.Start name) row.it; is = run_now e older (acts.Start name) is refl row.it row.is; has = (e.moment, refl) };
        allowed = run_slot_now name row.it row.is (started name) (1, omega arith, refl);
      }
  fresh (acts.Schedule name task bindings) is just current fits =
      let row = run_there name _ just.1 current in
      let act = acts.Schedule name task bindings in
      let part : Scheduled = record { task = task; bindings = bindings } in
      let then = run_now e older act is refl row.it row.is in
      let last = after.runs name (run_after e.moment act row.it) then in
      record {
        slot = planned name task;
        free = λ taken.
            let has = subst (λ (r : RunState). (p : Scheduled) × Contains r.scheduled p × (p.task ≡ task)) (same_of (run_of older name) taken.it row.it taken.is row.is) taken.has in
            pairs_across (λ (a b : Scheduled). a.task ≢ b.task) row.it.scheduled (part ∷ []) has.0 part last.once has.1 (0, omega arith, refl) has.2;
        taken = record { it = run_after e.moment act row.it; is = then; has = (part, Contains-push row.it.scheduled part, refl) };
        allowed = run_slot_now name row.it row.is (planned name task)
            (Contains-append_right (admitted name ∷ started name ∷ finished name ∷ halted name 1 ∷ halted name 2 ∷ halted name 3 ∷ halted name 4 ∷ []) _ (planned name task)
            (map_has (planned name) (range_with_len 0 (task_count row.it.spec)) task (count_has 0 (task_count row.it.spec) task (omega arith) (omega (arith, (last.exist part (Contains-push row.it.scheduled part)).1)))));
      }
  fresh (acts.Halt name stop) is just current fits =
      let row = run_there name _ just.1 current in
      let act = acts.Halt name stop in
      record {
        slot = halted name (level_of stop);
        free = λ taken.
            let has = subst (λ (r : RunState). (s : Stop) × Contains r.stops s × (level_of s ≡ level_of stop)) (same_of (run_of older name) taken.it row.it taken.is row.is) taken.has in
            omega (arith, has.2, All-contains (λ s. level_of s < level_of stop) row.it.stops has.0 row.has.above has.1);
        taken = record { it = run_after e.moment act row.it; is = run_now e older act is refl row.it row.is; has = (stop, Contains-push row.it.stops stop, refl) };
        allowed = run_slot_now name row.it row.is (halted name (level_of stop)) (level_slot name (task_count row.it.spec) stop);
      }
  fresh (acts.Close name (closings.Run condition skipped results)) is just current fits =
      let row = run_there name _ just.1 current in
      let act = acts.Close name (closings.Run condition skipped results) in
      record {
        slot = finished name;
        free = λ taken. none_there row.it.closed row.has.not_closed (subst (λ (r : RunState). IsThere r.closed) (same_of (run_of older name) taken.it row.it taken.is row.is) taken.has);
        taken = record { it = run_after e.moment act row.it; is = run_now e older act is refl row.it row.is; has = (closings.Run condition skipped results, refl) };
        allowed = run_slot_now name row.it row.is (finished name) (2, omega arith, refl);
      }
  fresh (acts.Ask name status) is just current fits = record {
    slot = asked_at (length older);
    free = λ taken. omega (arith, taken);
    taken = omega arith;
    allowed = Contains-append_right (all_slots older) (act_slots (length older) e.act) (asked_at (length older)) (rw is (0, omega arith, refl));
  }
  fresh (acts.Admit name (admissions.Run spec) pending asked root) is just free fits =
      let act = acts.Admit name (admissions.Run spec) pending asked root in
      record {
        slot = admitted name;
        free = λ taken. none_there (run_of older name) free taken;
        taken = (_, run_new e older act is refl free);
        allowed = Contains-append_right (all_slots older) (act_slots (length older) e.act) (admitted name) (rw is (0, omega arith, refl));
      }
  fresh (acts.Admit name (admissions.Task spec) pending asked root) is just free fits =
      let act = acts.Admit name (admissions.Task spec) pending asked root in
      record {
        slot = made name;
        free = λ taken. none_there (task_run_of older name) free taken;
        taken = (_, task_run_new_now e older act is refl free);
        allowed = Contains-append_right (all_slots older) (act_slots (length older) e.act) (made name) (rw is (0, omega arith, refl));
      }
  fresh (acts.MakeTaskRun name run task index mark) is just free fits =
      let act = acts.MakeTaskRun name run task index mark in
      let there = child_there name run task index mark just.1 in
      let then = task_run_new_now e older act is refl free ∙ there.1 in
      record {
        slot = made name;
        free = λ taken. none_there (task_run_of older name) free taken;
        taken = (there.0, then);
        allowed = task_run_allowed now legal name (made name) there.0 then (0, omega arith, refl);
      }
  fresh (acts.CancelTaskRun name) is just current fits =
      let row = task_run_there name _ just.1 current in
      let act = acts.CancelTaskRun name in
      record {
        slot = marked name;
        free = λ taken. let was : row.it.marked ≡ true = subst (λ (t : TaskRunState). t.marked ≡ true) (same_of (task_run_of older name) taken.it row.it taken.is row.is) taken.has in let not = row.has.not_marked in cc (was, not);
        taken = record { it = task_run_after e.moment act row.it; is = task_run_now e older act is refl row.it row.is; has = refl };
        allowed = task_run_slot_now name row.it row.is (marked name) (1, omega arith, refl);
      }
  fresh (acts.OpenAttempt name) is just current fits =
      let row = task_run_there name _ just.1 current in
      let act = acts.OpenAttempt name in
      let place = length row.it.attempts in
      record {
        slot = opened name place;
        free = λ taken. let has : place < length row.it.attempts = subst (λ (t : TaskRunState). place < length t.attempts) (same_of (task_run_of older name) taken.it row.it taken.is row.is) taken.has in omega arith;
        taken = record { it = task_run_after e.moment act row.it; is = task_run_now e older act is refl row.it row.is; has = omega (arith, length-append row.it.attempts (record { moment = e.moment; outcome = None } ∷ [])) };
        allowed = task_run_slot_now name row.it row.is (opened name place) (attempt_slot name row.it.spec.retries place (opened name place) row.has.more of_opened);
      }
  fresh (acts.MakePod name task_run attempt plan mark) is just free fits =
      let act = acts.MakePod name task_run attempt plan mark in
      let row = just.1 in
      let later = (grows_trans (past e.fronts.task_runs older) older now (grows_past e.fronts.task_runs older legal.0) grown).task_runs task_run row.it row.is in
      let tr = after.task_runs task_run later.it later.is in
      let place = row.has.place in
      let named : pod_name task_run (suc place) ≡ name = ap (pod_name task_run) (sym row.has.number) ∙ sym row.has.named in
      record {
        slot = has_pod task_run place;
        free = λ taken. none_there (pod_of older name) free (subst (λ (n : List ℕ). IsThere (pod_of older n)) named taken);
        taken = subst (λ (n : List ℕ). IsThere (pod_of now n)) (sym named) (_, pod_new_now e older act is refl free);
        allowed = task_run_allowed now legal task_run (has_pod task_run place) later.it later.is
            (attempt_slot task_run later.it.spec.retries place (has_pod task_run place) (omega (arith, get_below row.it.attempts place row.has.is_open.attempt row.has.is_open.at, later.has.longer, tr.few)) of_pod);
      }
  fresh (acts.ClaimPod name) is just current fits =
      let row = pod_there name _ just current in
      let act = acts.ClaimPod name in
      let pod = before.pods name row.it row.is in
      let place = pod.attempt.has.0 in
      let named : pod_name row.it.task_run (suc place) ≡ name = ap (pod_name row.it.task_run) (sym pod.attempt.has.1) ∙ sym pod.named in
      record {
        slot = claimed row.it.task_run place;
        free = λ taken.
            let has = subst (λ (n : List ℕ). Has (pod_of older n) (λ (p : PodState). IsThere p.claim)) named taken in
            none_there row.it.claim row.has.unclaimed (subst (λ (p : PodState). IsThere p.claim) (same_of (pod_of older name) has.it row.it has.is row.is) has.has);
        taken = subst (λ (n : List ℕ). Has (pod_of now n) (λ (p : PodState). IsThere p.claim)) (sym named)
            (record { it = pod_after e.actor act row.it; is = pod_now e older act is refl row.it row.is; has = (record { number = row.has.number; life = row.has.life }, ap claim_of row.has.by) });
        allowed = pod_slot row.it.task_run place pod.attempt.it pod.attempt.is pod.attempt.has.2 (claimed row.it.task_run place) of_claimed;
      }
  fresh (acts.EndPod name exits outcome) is just current fits =
      let row = pod_there name _ just current in
      let act = acts.EndPod name exits outcome in
      let pod = before.pods name row.it row.is in
      let place = pod.attempt.has.0 in
      let named : pod_name row.it.task_run (suc place) ≡ name = ap (pod_name row.it.task_run) (sym pod.attempt.has.1) ∙ sym pod.named in
      record {
        slot = over row.it.task_run place;
        free = λ taken.
            let has = subst (λ (n : List ℕ). Has (pod_of older n) (λ (p : PodState). IsThere p.ended)) named taken in
            none_there row.it.ended row.has.unended (subst (λ (p : PodState). IsThere p.ended) (same_of (pod_of older name) has.it row.it has.is row.is) has.has);
        taken = subst (λ (n : List ℕ). Has (pod_of now n) (λ (p : PodState). IsThere p.ended)) (sym named)
            (record { it = pod_after e.actor act row.it; is = pod_now e older act is refl row.it row.is; has = (record { exits = exits; outcome = outcome }, refl) });
        allowed = pod_slot row.it.task_run place pod.attempt.it pod.attempt.is pod.attempt.has.2 (over row.it.task_run place) of_over;
      }
  fresh (acts.Close name (closings.Attempt outcome)) is just current fits =
      let row = task_run_there name _ just.1 current in
      let act = acts.Close name (closings.Attempt outcome) in
      let place = row.has.place in
      let tr = before.task_runs name row.it row.is in
      record {
        slot = archived name place;
        free = λ taken.
            let has = subst (λ (t : TaskRunState). (o : Outcome) × EndedAttempt t.attempts place o) (same_of (task_run_of older name) taken.it row.it taken.is row.is) taken.has in
            let same : has.1.attempt ≡ row.has.is_open.attempt = same_of (slice_get row.it.attempts place) has.1.attempt row.has.is_open.attempt has.1.at row.has.is_open.at in
            let ended : row.has.is_open.attempt.outcome ≡ Some has.0 = ap (λ (a : Attempt). a.outcome) (sym same) ∙ has.1.ended in
            none_there row.has.is_open.attempt.outcome row.has.is_open.no_outcome (has.0, ended);
        taken = record { it = task_run_after e.moment act row.it; is = task_run_now e older act is refl row.it row.is; has = (outcome, open_closed outcome row.it.attempts place row.has.is_open) };
        allowed = task_run_slot_now name row.it row.is (archived name place) (attempt_slot name row.it.spec.retries place (archived name place) (omega (arith, tr.last_open place row.has.is_open, tr.few)) of_archived);
      }
  fresh (acts.Close name closings.TaskRun) is just current fits =
      let row = task_run_there name _ just.1 current in
      let act = acts.Close name closings.TaskRun in
      record {
        slot = ended_alone name;
        free = λ taken. none_there row.it.closed row.has.not_closed (subst (λ (t : TaskRunState). IsThere t.closed) (same_of (task_run_of older name) taken.it row.it taken.is row.is) taken.has);
        taken = record { it = task_run_after e.moment act row.it; is = task_run_now e older act is refl row.it row.is; has = (ending_without_attempt row.it.spec.start, refl) };
        allowed = task_run_slot_now name row.it row.is (ended_alone name) (2, omega arith, refl);
      }

-- the slots of all entries
record Slots (history : List Entry) : Type 0 where
  slots : List Slot
  count : length slots ≡ length history
  differ : AllPairs (λ a b. a ≢ b) slots
  taken : All (Taken history) slots
  allowed : All (IsAllowed history) slots

slots_of : (history : List Entry) → IsLegal history → Slots history
slots_of [] legal = record { slots = []; count = refl; differ = λ i j d less below. absurd (omega arith); taken = All-nil (Taken []); allowed = All-nil (IsAllowed []) }
slots_of (e ∷ older) legal =
    let rest = slots_of older legal.0 in
    let one = fresh older e legal e.act refl legal.1.justified legal.1.writable legal.1.fits in
    record {
      slots = one.slot ∷ rest.slots;
      count = ap suc rest.count;
      differ = AllPairs-cons (λ a b. a ≢ b) one.slot rest.slots (All-weaker (Taken older) (λ s. one.slot ≢ s) (λ s taken same. one.free (subst (Taken older) (sym same) taken)) rest.slots rest.taken) rest.differ;
      taken = All-cons (Taken (e ∷ older)) one.slot rest.slots one.taken (All-weaker (Taken older) (Taken (e ∷ older)) (λ s taken. taken_stays older (e ∷ older) (grows_one e older legal) (omega arith) s taken) rest.slots rest.taken);
      allowed = All-cons (IsAllowed (e ∷ older)) one.slot rest.slots one.allowed (All-weaker (IsAllowed older) (IsAllowed (e ∷ older)) (λ s allowed. allowed_stays e older s allowed) rest.slots rest.allowed);
    }

pub within_least : (history : List Entry) → IsLegal history → length history ≤ least history
within_least history legal =
    let all = slots_of history legal in
    let few = fewer all.slots (all_slots history) all.differ (λ s has. All-contains (IsAllowed history) all.slots s all.allowed has) in
    omega (arith, few, all.count, length_slots history)

pub within_weight : (history : List Entry) → IsLegal history → length history ≤ weight history
within_weight history legal = omega (arith, within_least history legal, least_weight history legal)
