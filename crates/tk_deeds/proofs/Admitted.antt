-- The Admit entries behind the objects of a legal history: what they allow stands among all deeds.
use Rattle.std.proofs.Common.{◌≡◌, List, [], ◌∷◌, Option, Some, None, true, ℕ, refl, sym, ◌∙◌, ap, subst, inl, inr, Contains, length}
use Rattle.std.specs.Prelude.{◌⊎◌}
use Rattle.std.proofs.lemmas.Option.{same_Some}
use Rattle.std.proofs.lemmas.List.Elements.{Contains-append_left, Contains-append_right}
use Rattle.tk_types.specs.declared.run.RunSpec.{RunSpec}
use Rattle.tk_types.specs.declared.object.TaskRunSpec.{TaskRunSpec}
use Rattle.tk_types.specs.declared.task.PipelineTask.{PipelineTask}
use Rattle.tk_types.specs.declared.task.TaskBody.{TaskBody}
use Rattle.tk_types.specs.declared.verdict.Binding.{Binding}
use Rattle.tk_types.specs.declared.scenario.Kind.TheVariants as kinds
use Rattle.tk_journal.specs.declared.act.Admission.TheVariants as admissions
use Rattle.tk_journal.specs.declared.act.Act.{Act}
use Rattle.tk_journal.specs.declared.act.Act.TheVariants as acts
use Rattle.tk_journal.specs.declared.entry.Entry.{Entry}
use Rattle.tk_journal.specs.declared.object.RunState.{RunState}
use Rattle.tk_journal.specs.declared.object.TaskRunState.{TaskRunState}
use Rattle.tk_journal.specs.Effects.{name_of, writes, task_count, task_run_made, task_run_after, child_made, child_from}
use Rattle.tk_journal.specs.History.{run_of, task_run_of, task_run_written, view_at}
use Rattle.tk_journal.specs.Legal.{IsLegal, IsStep}
use Rattle.tk_journal.proofs.Apart.{AdmitsRun, WasAdmittedRun}
use Rattle.tk_journal.proofs.Basics.{writes_name}
use Rattle.tk_journal.proofs.Past.{state_cases}
use Rattle.tk_journal.proofs.Grows.{task_run_row_of, task_run_step}
use Rattle.tk_deeds.specs.Deeds.{Deed}
use Rattle.tk_deeds.proofs.Steps.{task_run_deeds, run_deeds, act_deeds, all_deeds}

-- runs

act_run : (act : Act) (spec : RunSpec) (deed : Deed) → AdmitsRun act spec → Contains (run_deeds spec 0 (task_count spec)) deed → Contains (act_deeds act) deed
act_run (acts.Admit name (admissions.Run admitted) pending asked root) spec deed same has = subst (λ (s : RunSpec). Contains (run_deeds s 0 (task_count s)) deed) (sym same) has
act_run (acts.Admit name (admissions.Task admitted) pending asked root) spec deed same has = absurd same
act_run _ spec deed same has = absurd same

pub run_allows : (history : List Entry) (spec : RunSpec) (deed : Deed) → WasAdmittedRun history spec → Contains (run_deeds spec 0 (task_count spec)) deed → Contains (all_deeds history) deed
run_allows [] spec deed was has = absurd was
run_allows (e ∷ older) spec deed was has = elim was [
  | inl here ↦ Contains-append_right (all_deeds older) (act_deeds e.act) deed (act_run e.act spec deed here has)
  | inr before ↦ Contains-append_left (all_deeds older) (act_deeds e.act) deed (run_allows older spec deed before has)
]

-- TaskRuns of no run

abbrev AdmitsAlone : Act → List ℕ → TaskRunSpec → Type 0
AdmitsAlone (acts.Admit admitted (admissions.Task own) pending asked root) name spec = (admitted ≡ name) × (own ≡ spec)
AdmitsAlone _ name spec = ⊥

abbrev WasAdmittedAlone : List Entry → List ℕ → TaskRunSpec → Type 0
WasAdmittedAlone [] name spec = ⊥
WasAdmittedAlone (e ∷ older) name spec = AdmitsAlone e.act name spec ⊎ WasAdmittedAlone older name spec

made_alone : (runs : List ℕ → Option RunState) (act : Act) (name : List ℕ) (task_run : TaskRunState) → name_of act ≡ name → task_run_made runs act ≡ Some task_run → task_run.run ≡ None → AdmitsAlone act name task_run.spec
made_alone runs (acts.Admit admitted (admissions.Task spec) pending asked root) name task_run same is alone = (same, ap (λ (t : TaskRunState). t.spec) (same_Some _ task_run is))
made_alone runs (acts.MakeTaskRun named run task index mark) name task_run same is alone = absurd (by_run (runs run) is)
  where
    by_parts : (r : RunState) (b : Option Binding) (body : Option TaskBody) (pipeline_task : Option PipelineTask) → child_from named run r task index mark b body pipeline_task ≡ Some task_run → ⊥
    by_parts r (Some binding) (Some body) (Some pipeline_task) out = let its : Some run ≡ task_run.run = ap (λ (t : TaskRunState). t.run) (same_Some _ task_run out) in cc (its, alone)
    by_parts r None body pipeline_task out = cc
    by_parts r (Some binding) None pipeline_task out = cc
    by_parts r (Some binding) (Some body) None out = cc

    by_run : (r : Option RunState) → child_made named run task index mark r ≡ Some task_run → ⊥
    by_run None out = cc
    by_run (Some r) out = by_parts r _ _ _ out
made_alone runs act name task_run same is alone = cc

written_alone : (older : List Entry) (e : Entry) → IsStep older e → (name : List ℕ) (was : Option TaskRunState) → task_run_of older name ≡ was
    → ((t : TaskRunState) → was ≡ Some t → t.run ≡ None → WasAdmittedAlone older name t.spec) → writes kinds.TaskRuns name e ≡ true
    → (t : TaskRunState) → task_run_written (run_of older) e was ≡ Some t → t.run ≡ None → WasAdmittedAlone (e ∷ older) name t.spec
written_alone older e step name None there before hit t out alone = inl (made_alone (run_of older) e.act name t (writes_name kinds.TaskRuns name e hit) out alone)
written_alone older e step name (Some was) there before hit t out alone =
    let grows = task_run_step (view_at e.fronts older) e.actor e.moment e.act was (task_run_row_of older e step name was hit there) in
    let same : task_run_after e.moment e.act was ≡ t = same_Some _ t out in
    let spec : t.spec ≡ was.spec = ap (λ (x : TaskRunState). x.spec) (sym same) ∙ grows.spec in
    inr (subst (WasAdmittedAlone older name) (sym spec) (before was refl (sym grows.run ∙ ap (λ (x : TaskRunState). x.run) same ∙ alone)))

alone_was_admitted : (history : List Entry) → IsLegal history → (name : List ℕ) (task_run : TaskRunState) → task_run_of history name ≡ Some task_run → task_run.run ≡ None → WasAdmittedAlone history name task_run.spec
alone_was_admitted [] legal name task_run is = λ alone. cc
alone_was_admitted (e ∷ older) legal name task_run is =
    state_cases (writes kinds.TaskRuns name) (λ (before : List Entry) d was. task_run_written (run_of before) d was) (λ (o : Option TaskRunState). (t : TaskRunState) → o ≡ Some t → t.run ≡ None → WasAdmittedAlone (e ∷ older) name t.spec) e older
    (λ miss t there alone. inr (alone_was_admitted older legal.0 name t there alone))
    (λ hit. written_alone older e legal.1 name (task_run_of older name) refl (λ t there. alone_was_admitted older legal.0 name t there) hit) task_run is

act_alone : (act : Act) (name : List ℕ) (spec : TaskRunSpec) (deed : Deed) → AdmitsAlone act name spec → Contains (task_run_deeds name spec.retries (length spec.body.spec.steps)) deed → Contains (act_deeds act) deed
act_alone (acts.Admit admitted (admissions.Task own) pending asked root) name spec deed same has =
    subst (λ (n : List ℕ). Contains (task_run_deeds n own.retries (length own.body.spec.steps)) deed) (sym same.0)
    (subst (λ (s : TaskRunSpec). Contains (task_run_deeds name s.retries (length s.body.spec.steps)) deed) (sym same.1) has)
act_alone (acts.Admit admitted (admissions.Run own) pending asked root) name spec deed same has = absurd same
act_alone _ name spec deed same has = absurd same

was_alone : (history : List Entry) (name : List ℕ) (spec : TaskRunSpec) (deed : Deed) → WasAdmittedAlone history name spec → Contains (task_run_deeds name spec.retries (length spec.body.spec.steps)) deed → Contains (all_deeds history) deed
was_alone [] name spec deed was has = absurd was
was_alone (e ∷ older) name spec deed was has = elim was [
  | inl here ↦ Contains-append_right (all_deeds older) (act_deeds e.act) deed (act_alone e.act name spec deed here has)
  | inr before ↦ Contains-append_left (all_deeds older) (act_deeds e.act) deed (was_alone older name spec deed before has)
]

pub alone_allows : (history : List Entry) → IsLegal history → (name : List ℕ) (task_run : TaskRunState) (deed : Deed) → task_run_of history name ≡ Some task_run → task_run.run ≡ None
    → Contains (task_run_deeds name task_run.spec.retries (length task_run.spec.body.spec.steps)) deed → Contains (all_deeds history) deed
alone_allows history legal name task_run deed there alone has = was_alone history name task_run.spec deed (alone_was_admitted history legal name task_run there alone) has
