use Rattle.std.proofs.Common.{[], ◌∷◌}
use Rattle.std.specs.Prelude.{codes}
use Rattle.tk_types.specs.First.{first_if_there}
use Rattle.tk_types.specs.Place.{◌▸◌}
use Rattle.tk_validate.specs.Parts.{on_inlined}
use Rattle.tk_validate.specs.Names.{matrix_names, params_differ, task_spec_names, uses_differ}
use Rattle.tk_validate.proofs.Firsts.{last, passed}
use Rattle.tk_validate.proofs.rules.names.ApartRulePipelineTask.check.Goals as goal

pub returns : goal.returns
returns c =
    let at = c.args.place.now in
    let task = c.args.task.now in
    let result = c.check_list-2.result in
    let inlined = on_inlined task_spec_names at task.source in
    let params = params_differ at task.params in
    let matrix = first_if_there (matrix_names (at ▸ codes "matrix")) task.matrix in
    let uses = uses_differ at task.spaces in
    passed inlined (params ∷ matrix ∷ uses ∷ []) result c.in_ok-check_inlined.ensures.0
    (passed params (matrix ∷ uses ∷ []) result c.in_ok-check_list.ensures.0
    (passed matrix (uses ∷ []) result c.in_ok-check_there.ensures.0 (last uses result c.check_list-2.ensures)))
