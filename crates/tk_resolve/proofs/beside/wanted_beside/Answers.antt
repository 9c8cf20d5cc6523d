use Rattle.std.proofs.Common.{◌≡◌, not, List, [], ◌∷◌, refl, sym, ap, ◌∙◌}
use Rattle.std.specs.List.{filter}
use Rattle.std.proofs.lemmas.Result.{IfOk-weaker}
use Rattle.tk_types.specs.declared.value.ParamSpec.{ParamSpec}
use Rattle.tk_types.specs.Names.{is_in}
use Rattle.tk_resolve.proofs.EarlyParams.{no_elements}
use Rattle.tk_resolve.proofs.beside.wanted_beside.Goals as goal

-- none is spared where there are no names
all_wanted : (params : List ParamSpec) → filter (λ (w : ParamSpec). not (is_in [] w.name)) params ≡ params
all_wanted [] = refl
all_wanted (p ∷ ps) = ap (λ qs. p ∷ qs) (all_wanted ps)

pub returns-then-is_empty : goal.returns-then-is_empty
returns-then-is_empty c =
    let params = c.args.params.now in
    let spared = ap (λ names. filter (λ (w : ParamSpec). not (is_in names w.name)) params) (no_elements c.args.late.now c.if-is_empty.ensures) in
    IfOk-weaker c.copy.result _ _ (λ specs are. are ∙ (sym (all_wanted params) ∙ sym spared)) c.copy.ensures
