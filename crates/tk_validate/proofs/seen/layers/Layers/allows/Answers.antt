use Rattle.std.proofs.Common.{◌∙◌, ap, sym, true, Option}
use Rattle.std.specs.Option.{option_map_or}
use Rattle.tk_types.specs.declared.value.ParamType.{ParamType}
use Rattle.tk_bind.specs.Scope.{suits}
use Rattle.tk_validate.proofs.SeenNames.{typed}
use Rattle.tk_validate.proofs.seen.layers.Layers.allows.Goals as goal

pub returns-in-Some : goal.returns-in-Some
returns-in-Some c =
    c.suits.ensures
    ∙ (ap (λ (kind : Option ParamType). option_map_or (λ k. suits k c.args.selector.now) kind true) (sym c.in-Some.is ∙ c.kind.ensures)
    ∙ sym (typed c.args.name.now c.args.self.now c.args.selector.now))

pub returns-in-None : goal.returns-in-None
returns-in-None c =
    ap (λ (kind : Option ParamType). option_map_or (λ k. suits k c.args.selector.now) kind true) (sym c.in-None.is ∙ c.kind.ensures)
    ∙ sym (typed c.args.name.now c.args.self.now c.args.selector.now)
