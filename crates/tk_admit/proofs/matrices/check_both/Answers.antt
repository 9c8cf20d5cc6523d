use Rattle.std.proofs.Common.{map, sym, subst, ◌∙◌}
use Rattle.std.proofs.lemmas.Result.{err_from_is_err_and}
use Rattle.tk_types.specs.First.{first_of}
use Rattle.tk_types.specs.Rejected.{IsRefusal, Reads}
use Rattle.tk_bind.specs.Readings.{ReadsPipelineTask}
use Rattle.tk_admit.specs.Objects.{task_oversize}
use Rattle.tk_admit.specs.Sound.{HasFewChildren}
use Rattle.tk_admit.proofs.Steps.{all_first, all_second, few_of_both, first_of_both, none_first, refused_first}
use Rattle.tk_admit.proofs.matrices.check_both.Goals as goal

pub check_tasks-requires : goal.check_tasks-requires
check_tasks-requires c = all_first ReadsPipelineTask c.args.tasks.now c.args.finally.now c.requires

pub check_tasks-requires-2 : goal.check_tasks-requires-2
check_tasks-requires-2 c = all_second ReadsPipelineTask c.args.tasks.now c.args.finally.now c.requires

pub returns-in_err-check_tasks-clause-found : goal.returns-in_err-check_tasks-clause-found
returns-in_err-check_tasks-clause-found c =
    let find = task_oversize c.args.place.now c.args.values.now in
    let first = first_of (map find c.args.tasks.now) in
    let second = first_of (map find c.args.finally.now) in
    let p = err_from_is_err_and c.from_residual.result c.from_residual.ensures.1 in
    rw (p.1, p.2)
    (subst (λ found. IsRefusal found c.in_err-check_tasks.field-0.0) (sym (first_of_both find c.args.tasks.now c.args.finally.now))
    (refused_first first second c.in_err-check_tasks.field-0.0 c.in_err-check_tasks.ensures.found))

pub returns-clause-found : goal.returns-clause-found
returns-clause-found c =
    let find = task_oversize c.args.place.now c.args.values.now in
    let first = first_of (map find c.args.tasks.now) in
    let second = first_of (map find c.args.finally.now) in
    subst (λ found. Reads found tt c.check_tasks-2.result)
    (none_first first second c.in_ok-check_tasks.ensures.found.0 ∙ sym (first_of_both find c.args.tasks.now c.args.finally.now))
    c.check_tasks-2.ensures.found

pub returns-clause-few : goal.returns-clause-few
returns-clause-few c = few_of_both (HasFewChildren c.args.values.now) c.args.tasks.now c.args.finally.now c.check_tasks-2.result c.in_ok-check_tasks.ensures.few c.check_tasks-2.ensures.few
