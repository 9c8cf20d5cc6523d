use Rattle.std.proofs.Common.{◌≡◌, All, Bool, IsTrue, ◌↔◌, List, ap, subst, sym, ◌∙◌}
use Rattle.std.proofs.lemmas.List.Elements.{All-append}
use Rattle.std.proofs.lemmas.Result.{IfOk-weaker}
use Rattle.tk_types.specs.Behaviour.{tasks_of}
use Rattle.tk_types.specs.declared.run.RunSpec.{RunSpec}
use Rattle.tk_types.specs.declared.task.PipelineTask.{PipelineTask}
use Rattle.tk_spec_sound.specs.Parts.{IsSoundTask}
use Rattle.tk_spec_sound.proofs.Answers.{no_is, refused_by, told_as}
use Rattle.tk_spec_sound.proofs.Every.{all_back, all_front}
use Rattle.tk_spec_sound.proofs.run.has_sound_tasks.Goals as goal

-- the tasks that a call goes over, in the run as the call knows it
seen_as : {values spec : RunSpec} {seen tasks : List PipelineTask} → values ≡ spec → seen ≡ tasks → All (IsSoundTask values) seen → All (IsSoundTask spec) tasks
seen_as {values} {spec} {seen} {tasks} is same each =
    subst (λ (s : RunSpec). All (IsSoundTask s) tasks) is (subst (All (IsSoundTask values)) same each)

pub are_sound_tasks-requires : goal.are_sound_tasks-requires
are_sound_tasks-requires c = c.in_ok-names.ensures ∙ (c.as_slice.ensures ∙ sym (ap (λ (s : RunSpec). s.tasks) c.in_ok-values.ensures))

pub are_sound_tasks-requires-2 : goal.are_sound_tasks-requires-2
are_sound_tasks-requires-2 c = c.in_ok-names.ensures ∙ (c.as_slice.ensures ∙ sym (ap (λ (s : RunSpec). s.tasks) c.in_ok-values.ensures))

pub returns-then-not-branch : goal.returns-then-not-branch
returns-then-not-branch c =
    let spec = c.args.spec.now in
    no_is (λ each. refused_by c.in_ok-are_sound_tasks.field-0 c.in_ok-are_sound_tasks.ensures c.if-not-branch.true
    (seen_as (sym c.in_ok-values.ensures) (sym c.as_slice-2.ensures) (all_front (IsSoundTask spec) spec.tasks spec.finally each)))

pub returns : goal.returns
returns c =
    let spec = c.args.spec.now in
    let first : All (IsSoundTask spec) spec.tasks = seen_as c.in_ok-values.ensures c.as_slice-2.ensures (c.in_ok-are_sound_tasks.ensures.0 c.if-not-branch.false) in
    IfOk-weaker c.are_sound_tasks-2.result (λ (yes : Bool). IsTrue yes ↔ All (IsSoundTask c.in_ok-values.values) c.as_slice-3.result.now) (λ (yes : Bool). IsTrue yes ↔ All (IsSoundTask spec) (tasks_of spec))
    (λ yes tells. told_as yes (λ last. All-append (IsSoundTask spec) spec.tasks spec.finally first (seen_as c.in_ok-values.ensures c.as_slice-3.ensures last))
    (λ each. seen_as (sym c.in_ok-values.ensures) (sym c.as_slice-3.ensures) (all_back (IsSoundTask spec) spec.tasks spec.finally each)) tells)
    c.are_sound_tasks-2.ensures
