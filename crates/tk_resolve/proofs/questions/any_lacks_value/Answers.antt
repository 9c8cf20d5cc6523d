use Rattle.std.proofs.Common.{◌≡◌, sym, subst}
use Rattle.std.specs.Prelude.{IfOk, Bool}
use Rattle.tk_resolve.specs.Due.{seen}
use Rattle.tk_resolve.proofs.ByShapes.{any_lacks_same}
use Rattle.tk_resolve.proofs.questions.any_lacks_value.Goals as goal

pub returns : goal.returns
returns c =
    subst (λ (found : Bool). IfOk c.any_lacks.result (λ any. any ≡ found)) (sym (any_lacks_same c.args.lookup.now c.args.spared.now (seen c.args.texts.now))) c.any_lacks.ensures
