use Rattle.std.proofs.Common.{[], ◌∷◌}
use Rattle.tk_validate.specs.Names.{bindings_differ, params_differ}
use Rattle.tk_validate.proofs.Firsts.{last, passed}
use Rattle.tk_validate.proofs.rules.names.check_given.Goals as goal

pub returns : goal.returns
returns c =
    let params = params_differ c.args.place.now c.args.params.now in
    let bindings = bindings_differ c.args.place.now c.args.bindings.now in
    let result = c.check_list-2.result in
    passed params (bindings ∷ []) result c.in_ok-check_list.ensures.0 (last bindings result c.check_list-2.ensures)
