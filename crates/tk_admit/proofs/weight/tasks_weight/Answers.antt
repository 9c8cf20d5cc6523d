use Rattle.std.proofs.Common.{ap, ◌∙◌, take, sum_by, subst, sym}
use Rattle.std.specs.List.{zip}
use Rattle.std.proofs.Math.Seq.{take-length}
use Rattle.std.proofs.lemmas.Iterator.{YieldsList-from_slice, YieldsList-from_zip}
use Rattle.std.proofs.lemmas.Iterator.Consumers.{YieldsList-end, YieldsList-from_chain, YieldsList-turn}
use Rattle.tk_types.specs.declared.task.PipelineTask.{PipelineTask}
use Rattle.tk_types.specs.declared.task.TaskBody.{TaskBody}
use Rattle.tk_bind.specs.Readings.{ReadsPipelineTask}
use Rattle.tk_early.specs.Possible.{told_count}
use Rattle.tk_resolve.proofs.Zipped.{all_firsts}
use Rattle.tk_types.specs.Behaviour.{tasks_of}
use Rattle.tk_journal.specs.Weight.{task_weight}
use Rattle.tk_admit.proofs.Told.{told_more}
use Rattle.tk_admit.proofs.weight.tasks_weight.Goals as goal

pub task_weight-requires : goal.task_weight-requires
task_weight-requires c =
    let spec = c.args.spec.now in
    let turn =
    YieldsList-turn (YieldsList-from_zip (YieldsList-from_chain (YieldsList-from_slice spec.tasks (cc)) (YieldsList-from_slice spec.finally (cc)) (cc) (cc)) (YieldsList-from_slice spec.bodies (cc)))
    c.loop-task.yielded _ c.loop-task.yielded_by c.next.result c.next.new.self (c.in-Some.task, c.in-Some.body) c.in-Some.is c.next.ensures.steps in
    subst (λ (t : PipelineTask × TaskBody). ReadsPipelineTask t.0) (sym turn.1) (all_firsts ReadsPipelineTask (tasks_of spec) spec.bodies c.requires _ _ turn.0)

pub loop-task-preserved : goal.loop-task-preserved
loop-task-preserved c =
    let spec = c.args.spec.now in
    let turn =
    YieldsList-turn (YieldsList-from_zip (YieldsList-from_chain (YieldsList-from_slice spec.tasks (cc)) (YieldsList-from_slice spec.finally (cc)) (cc) (cc)) (YieldsList-from_slice spec.bodies (cc)))
    c.loop-task.yielded _ c.loop-task.yielded_by c.next.result c.next.new.self (c.in-Some.task, c.in-Some.body) c.in-Some.is c.next.ensures.steps in
    told_more (task_weight spec) (zip (tasks_of spec) spec.bodies) c.loop-task.yielded (c.in-Some.task, c.in-Some.body) (c.in-Some.task.now, c.in-Some.body.now)
    c.loop-task.total c.in_ok-task_weight.field-0 c.saturating_add-total.result turn.0 turn.1 c.loop-task.invariant (c.in_ok-task_weight.ensures ∙ ap (λ s. told_count (task_weight s (c.in-Some.task.now, c.in-Some.body.now))) c.in_ok-values.ensures) c.saturating_add-total.ensures

pub returns : goal.returns
returns c =
    let spec = c.args.spec.now in
    let zs = zip (tasks_of spec) spec.bodies in
    let end =
    YieldsList-end (YieldsList-from_zip (YieldsList-from_chain (YieldsList-from_slice spec.tasks (cc)) (YieldsList-from_slice spec.finally (cc)) (cc) (cc)) (YieldsList-from_slice spec.bodies (cc)))
    c.loop-task.yielded _ c.loop-task.yielded_by c.next.result c.next.new.self c.in-None.is c.next.ensures.steps in
    c.loop-task.invariant ∙ ap (λ ts. told_count (sum_by (task_weight spec) ts)) (ap (λ n. take n zs) end.1 ∙ take-length zs)
