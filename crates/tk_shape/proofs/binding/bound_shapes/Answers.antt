use Rattle.std.proofs.Common.{◌≡◌, ◌+◌, ◌∷◌, ◌++◌, [], Ok, map, take}
use Rattle.std.proofs.lemmas.Result.{err_from_is_err_and}
use Rattle.tk_types.specs.Lists.{all_ok}
use Rattle.tk_shape.specs.Bound.{bound_shape}
use Rattle.tk_bind.proofs.AllOk.{all_ok_more, all_ok_refusal}
use Rattle.tk_shape.proofs.binding.bound_shapes.Goals as goal

pub loop-spec-preserved : goal.loop-spec-preserved
loop-spec-preserved c =
    let bound = bound_shape c.args.sources.now.given c.args.sources.now.outer c.args.sources.now.fallback in
    let more : all_ok (map bound (take (c.loop-spec.spec-index + 1) c.args.wanted.now)) ≡ Ok (c.loop-spec.made.items ++ c.in_ok-bound.bound ∷ []) =
    all_ok_more bound c.args.wanted.now c.loop-spec.spec-index c.spec-item.result c.loop-spec.made.items c.in_ok-bound.bound c.loop-spec-test.true c.spec-item.is c.loop-spec.invariant c.in_ok-bound.ensures.bound in
    let added = c.in_ok-add.ensures in
    rw added more

pub returns-in_err-bound-clause-refused : goal.returns-in_err-bound-clause-refused
returns-in_err-bound-clause-refused c =
    let bound = bound_shape c.args.sources.now.given c.args.sources.now.outer c.args.sources.now.fallback in
    let p = err_from_is_err_and c.from_residual.result c.from_residual.ensures.1 in
    rw (p.1, p.2) (all_ok_refusal bound c.args.wanted.now c.loop-spec.spec-index c.spec-item.result c.loop-spec.made.items _ c.loop-spec-test.true c.spec-item.is c.loop-spec.invariant c.in_err-bound.ensures.refused)
