use Rattle.std.proofs.Common.{◌≡◌, ◌+◌, ◌∷◌, ◌++◌, [], Ok, map, take}
use Rattle.std.proofs.lemmas.Result.{err_from_is_err_and}
use Rattle.tk_types.specs.Lists.{all_ok}
use Rattle.tk_bind.specs.Bind.{bound_param}
use Rattle.tk_bind.proofs.AllOk.{all_ok_more, all_ok_refusal}
use Rattle.tk_bind.proofs.bind.bound_all.Goals as goal

pub loop-spec-preserved : goal.loop-spec-preserved
loop-spec-preserved c =
    let bound = bound_param c.args.sources.now.given c.args.sources.now.outer c.args.sources.now.fallback in
    let more : all_ok (map bound (take (c.loop-spec.spec-index + 1) c.args.wanted.now)) ≡ Ok (c.loop-spec.params ++ c.in_ok-param.param ∷ []) =
    all_ok_more bound c.args.wanted.now c.loop-spec.spec-index c.spec-item.result c.loop-spec.params c.in_ok-param.param c.loop-spec-test.true c.spec-item.is c.loop-spec.invariant c.in_ok-param.ensures.bound in
    let pushed = c.in_ok-push.ensures.ok in
    rw pushed more

pub returns-in_err-param-clause-refused : goal.returns-in_err-param-clause-refused
returns-in_err-param-clause-refused c =
    let bound = bound_param c.args.sources.now.given c.args.sources.now.outer c.args.sources.now.fallback in
    let p = err_from_is_err_and c.from_residual.result c.from_residual.ensures.1 in
    rw (p.1, p.2) (all_ok_refusal bound c.args.wanted.now c.loop-spec.spec-index c.spec-item.result c.loop-spec.params _ c.loop-spec-test.true c.spec-item.is c.loop-spec.invariant c.in_err-param.ensures.refused)
