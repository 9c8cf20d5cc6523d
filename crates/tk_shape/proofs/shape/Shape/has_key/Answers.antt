use Rattle.std.proofs.Common.{ap, sym, ◌∙◌}
use Rattle.tk_shape.specs.Shape.{one, many, keyed, keys_of, has_key_of}
use Rattle.tk_shape.specs.declared.shape.Form.{Form}
use Rattle.tk_shape.specs.declared.shape.Form.TheVariants.{One, Many, Keyed}
use Rattle.tk_shape.proofs.Selected.{found_key}
use Rattle.tk_shape.proofs.shape.Shape.has_key.Goals as goal

pub returns-in-Keyed : goal.returns-in-Keyed
returns-in-Keyed c =
    c.is_some.ensures
    ∙ (found_key c.args.key.now c.in-Keyed.pairs c.get.result c.get.ensures
    ∙ (ap (λ (form : Form). has_key_of c.args.key.now (elim form [ One ↦ one | Many count ↦ many count | Keyed pairs ↦ keyed (keys_of pairs) ])) (sym c.in-Keyed.is)
    ∙ ap (has_key_of c.args.key.now) c.self.view_is))
