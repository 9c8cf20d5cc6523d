use Rattle.std.proofs.Common.{◌≡◌, IfOk, List, subst, ap, sym, ◌∙◌}
use Rattle.std.specs.Prelude.{flat_map}
use Rattle.tk_types.specs.declared.object.TaskRunSpec.{TaskRunSpec}
use Rattle.tk_types.specs.declared.task.Step.{Step}
use Rattle.tk_bind.specs.Readings.{ReadsTaskSpec}
use Rattle.tk_resolve.specs.Asks.{AsksTheSame}
use Rattle.tk_resolve.specs.Due.{step_dues}
use Rattle.tk_resolve.specs.TaskRun.{body_with, first_reason, task_run_with}
use Rattle.tk_resolve.proofs.task_run.with_task.Goals as goal

pub first_reason-requires-clause-body : goal.first_reason-requires-clause-body
first_reason-requires-clause-body c =
    let spec : c.in_ok-body.body.spec ≡ c.args.spec.now = ap (λ b. b.spec) c.in_ok-body.ensures ∙ c.in_ok-copy.ensures in
    subst ReadsTaskSpec (sym spec) c.requires.reads

pub first_reason-requires-clause-asks : goal.first_reason-requires-clause-asks
first_reason-requires-clause-asks c =
    let spec : c.in_ok-body.body.spec ≡ c.args.spec.now = ap (λ b. b.spec) c.in_ok-body.ensures ∙ c.in_ok-copy.ensures in
    subst (λ (steps : List Step). AsksTheSame (flat_map step_dues steps) c.in_ok-asks.asks) (c.as_slice.ensures ∙ sym (ap (λ s. s.steps) spec)) c.in_ok-asks.ensures

pub returns : goal.returns
returns c =
    let run = c.args.run.now in
    let body : c.in_ok-body.body ≡ body_with run c.args.spec.now = c.in_ok-body.ensures ∙ ap (body_with run) c.in_ok-copy.ensures in
    let P : TaskRunSpec → Type 0 = λ m. IfOk c.task_run_with.result (λ made. made ≡ m) in
    subst P (ap (task_run_with run c.in_ok-body.body) c.in_ok-reason.ensures ∙ ap (λ b. task_run_with run b (first_reason run b)) body) c.task_run_with.ensures
