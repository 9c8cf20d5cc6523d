use Rattle.std.proofs.Common.{[], ◌∷◌, subst}
use Rattle.tk_types.specs.Rejected.{Reads}
use Rattle.tk_validate.specs.Finally.{pipeline_obeys, steps_name_neither}
use Rattle.tk_validate.specs.Parts.{on_pipeline, on_task_spec}
use Rattle.tk_validate.proofs.Firsts.{last, passed}
use Rattle.tk_validate.proofs.rules.finally.check_finally.Goals as goal

pub returns : goal.returns
returns c =
    let at = c.args.place.now in
    let object = c.args.object.now in
    let result = c.check_task_spec.result in
    let alone = on_task_spec (steps_name_neither []) at object in
    passed (on_pipeline pipeline_obeys at object) (alone ∷ []) result c.in_ok-check_pipeline.ensures.0
    (last alone result (subst (λ lasts. Reads (on_task_spec (steps_name_neither lasts) at object) tt result) c.new-none.ensures c.check_task_spec.ensures))
