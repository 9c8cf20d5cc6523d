use Rattle.std.proofs.Common.{◌≡◌, ◌||◌, List, Some, ap, ◌∙◌}
use Rattle.std.specs.List.{list_any, zip}
use Rattle.std.proofs.lemmas.List.Elements.{All-append, All-same}
use Rattle.std.proofs.lemmas.Result.{IfOk-weaker}
use Rattle.tk_types.specs.declared.object.PipelineSpec.{PipelineSpec}
use Rattle.tk_types.specs.declared.object.RunObject.{RunObject}
use Rattle.tk_types.specs.declared.task.PipelineTask.{PipelineTask}
use Rattle.tk_types.specs.declared.task.TaskBody.{TaskBody}
use Rattle.tk_bind.specs.Readings.{ReadsPipelineTask, ReadsTaskSpec}
use Rattle.tk_resolve.specs.Run.{all_tasks, lacks_parameter, results_lack, task_lacks}
use Rattle.tk_resolve.specs.TaskRun.{spec_of}
use Rattle.tk_resolve.specs.Values.{has_missing}
use Rattle.tk_resolve.proofs.Sources.{sources_found}
use Rattle.tk_resolve.proofs.Zipped.{all_firsts, all_seconds}
use Rattle.tk_resolve.proofs.run_reason.Candidate.lacks_parameter.Goals as goal

pub lacks_parameter-requires-clause-sources : goal.lacks_parameter-requires-clause-sources
lacks_parameter-requires-clause-sources c =
    let pipeline = c.args.self.now.1 in
    let bodies = c.args.self.now.2 in
    All-same (λ (t : PipelineTask × TaskBody). spec_of c.args.earlier.now t.0.source ≡ Some t.1.spec) c.as_slice.result.now (zip (all_tasks pipeline) bodies)
    (c.as_slice.ensures.value ∙ (c.self.invariant.0 ∙ ap (λ (v : RunObject × PipelineSpec × List TaskBody). zip (all_tasks v.1) v.2) c.self.view_is))
    (sources_found c.args.earlier.now c.args.self.now.0 pipeline bodies c.requires.found)

pub lacks_parameter-requires-clause-tasks : goal.lacks_parameter-requires-clause-tasks
lacks_parameter-requires-clause-tasks c =
    let pipeline = c.args.self.now.1 in
    let bodies = c.args.self.now.2 in
    All-same (λ (t : PipelineTask × TaskBody). ReadsPipelineTask t.0) c.as_slice.result.now (zip (all_tasks pipeline) bodies)
    (c.as_slice.ensures.value ∙ (c.self.invariant.0 ∙ ap (λ (v : RunObject × PipelineSpec × List TaskBody). zip (all_tasks v.1) v.2) c.self.view_is))
    (all_firsts ReadsPipelineTask (all_tasks pipeline) bodies (All-append ReadsPipelineTask pipeline.tasks pipeline.finally c.requires.pipeline.tasks c.requires.pipeline.finally))

pub lacks_parameter-requires-clause-bodies : goal.lacks_parameter-requires-clause-bodies
lacks_parameter-requires-clause-bodies c =
    let pipeline = c.args.self.now.1 in
    let bodies = c.args.self.now.2 in
    All-same (λ (t : PipelineTask × TaskBody). ReadsTaskSpec t.1.spec) c.as_slice.result.now (zip (all_tasks pipeline) bodies)
    (c.as_slice.ensures.value ∙ (c.self.invariant.0 ∙ ap (λ (v : RunObject × PipelineSpec × List TaskBody). zip (all_tasks v.1) v.2) c.self.view_is))
    (all_seconds (λ (b : TaskBody). ReadsTaskSpec b.spec) (all_tasks pipeline) bodies c.requires.bodies)

pub returns : goal.returns
returns c =
    let run = c.self.inside.run.now in
    let pipeline = c.self.inside.pipeline.now in
    let tasks = c.as_slice.result.now in
    IfOk-weaker c.lacks_parameter.result _ _
    (λ lacks is.
    is ∙ (ap (λ (a : RunObject × PipelineSpec). has_missing a.1.params a.0.params || list_any (task_lacks a.0 a.1) tasks || results_lack a.0 a.1) c.self.invariant.1
    ∙ (ap (λ (ts : List (PipelineTask × TaskBody)). has_missing pipeline.params run.params || list_any (task_lacks run pipeline) ts || results_lack run pipeline) (c.as_slice.ensures.value ∙ c.self.invariant.0)
    ∙ ap (λ (v : RunObject × PipelineSpec × List TaskBody). lacks_parameter v.0 v.1 v.2) c.self.view_is)))
    c.lacks_parameter.ensures
