use Rattle.std.proofs.Common.{◌≡◌, IfOk, Some, None, sym, ap, subst, ◌∙◌}
use Rattle.std.proofs.lemmas.List.Elements.{All-same}
use Rattle.tk_types.specs.declared.run.RunSpec.{RunSpec}
use Rattle.tk_types.specs.declared.task.TaskBody.{TaskBody}
use Rattle.tk_bind.specs.Readings.{ReadsTaskSpec}
use Rattle.tk_resolve.specs.Run.{first_reason}
use Rattle.tk_resolve.specs.Values.{all_values}
use Rattle.tk_resolve.proofs.Started.{with_reason, without_reason}
use Rattle.tk_resolve.proofs.run.run_with_bodies.Goals as goal

pub first_reason-requires-clause-bodies : goal.first_reason-requires-clause-bodies
first_reason-requires-clause-bodies c = All-same (λ (b : TaskBody). ReadsTaskSpec b.spec) c.as_slice-3.result.now c.args.bodies c.as_slice-3.ensures c.requires.bodies

pub returns-in-Some : goal.returns-in-Some
returns-in-Some c =
    let run = c.args.run.now in
    let pipeline = c.args.pipeline.now in
    let params = c.in_ok-params.ensures ∙ (ap (λ w. all_values w c.as_slice-2.result.now) c.as_slice.ensures ∙ ap (all_values pipeline.params) c.as_slice-2.ensures) in
    let found : first_reason run pipeline c.args.bodies ≡ Some c.in-Some.reason = sym (c.in_ok-reason.ensures ∙ ap (first_reason run pipeline) c.as_slice-3.ensures) ∙ c.in-Some.is in
    subst (λ (m : RunSpec). IfOk c.unstartable.result (λ spec. spec ≡ m)) (with_reason run pipeline c.args.bodies c.in_ok-params.params c.in-Some.reason params found) c.unstartable.ensures

pub returns-in-None : goal.returns-in-None
returns-in-None c =
    let run = c.args.run.now in
    let pipeline = c.args.pipeline.now in
    let params = c.in_ok-params.ensures ∙ (ap (λ w. all_values w c.as_slice-2.result.now) c.as_slice.ensures ∙ ap (all_values pipeline.params) c.as_slice-2.ensures) in
    let none : first_reason run pipeline c.args.bodies ≡ None = sym (c.in_ok-reason.ensures ∙ ap (first_reason run pipeline) c.as_slice-3.ensures) ∙ c.in-None.is in
    subst (λ (m : RunSpec). IfOk c.startable.result (λ spec. spec ≡ m)) (without_reason run pipeline c.args.bodies c.in_ok-params.params params none) c.startable.ensures
