use Rattle.std.proofs.Common.{◌≡◌, ◌∙◌, ℕ, List, [], ◌∷◌, None, ap, subst}
use Rattle.std.proofs.lemmas.Result.{err_from_is_err_and}
use Rattle.tk_types.specs.Rejected.{IsRefusal, Reads}
use Rattle.tk_types.specs.declared.value.Param.{Param}
use Rattle.tk_validate.specs.Finally.{names_no, names_status, pipeline_obeys, task_obeys}
use Rattle.tk_validate.specs.Names.{names_of}
use Rattle.tk_validate.specs.Parts.{on_each_task}
use Rattle.tk_validate.specs.Sited.{in_results}
use Rattle.tk_validate.proofs.Firsts.{last, passed, refused}
use Rattle.tk_validate.proofs.rules.finally.FinallyRulePipelineSpec.check.Goals as goal

pub returns-in_err-check_tasks : goal.returns-in_err-check_tasks
unfolding pipeline_obeys
returns-in_err-check_tasks c =
    let at = c.args.place.now in
    let spec = c.args.spec.now in
    let tasks = on_each_task (task_obeys (names_of spec.finally)) at spec in
    let lasts : c.in_ok-lasts.lasts ≡ names_of spec.finally = c.in_ok-lasts.ensures ∙ ap names_of c.as_slice.ensures in
    let p = err_from_is_err_and c.from_residual-in_err-check_tasks.result c.from_residual-in_err-check_tasks.ensures.1 in
    rw (p.1, p.2)
    (refused tasks (in_results (names_no names_status) at spec.results ∷ []) c.in_err-check_tasks.field-0.0
    (subst (λ (names : List (List ℕ)). IsRefusal (on_each_task (task_obeys names) at spec) c.in_err-check_tasks.field-0.0) lasts c.in_err-check_tasks.ensures))

pub returns : goal.returns
unfolding pipeline_obeys
returns c =
    let at = c.args.place.now in
    let spec = c.args.spec.now in
    let tasks = on_each_task (task_obeys (names_of spec.finally)) at spec in
    let results = in_results (names_no names_status) at spec.results in
    let result = c.check_all.result in
    let lasts : c.in_ok-lasts.lasts ≡ names_of spec.finally = c.in_ok-lasts.ensures ∙ ap names_of c.as_slice.ensures in
    passed tasks (results ∷ []) result (subst (λ (names : List (List ℕ)). on_each_task (task_obeys names) at spec ≡ None) lasts c.in_ok-check_tasks.ensures.0)
    (last results result (subst (λ (params : List Param). Reads (in_results (names_no names_status) at params) tt result) c.as_slice-2.ensures c.check_all.ensures))
