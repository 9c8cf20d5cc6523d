use Rattle.std.proofs.Common.{◌∙◌, ◌++◌, sym, ap, arith}
use Rattle.std.specs.List.{flat_map}
use Rattle.std.proofs.lemmas.List.{take_all}
use Rattle.tk_vars.specs.Target.{key_part}
use Rattle.tk_bind.proofs.KeyFacts.{dotted, key_of-cons}
use Rattle.tk_bind.proofs.key.key_from.Goals as goal

pub returns : goal.returns
returns c =
    let first = c.args.first.now in
    c.loop-part.invariant
    ∙ (ap (λ ps. key_part first ++ flat_map dotted ps) (take_all c.loop-part.part-index c.args.rest.now (omega arith)) ∙ sym (key_of-cons first c.args.rest.now))
