use Rattle.std.proofs.Common.{map, ap, ◌∙◌}
use Rattle.tk_types.specs.Names.{is_in}
use Rattle.tk_types.proofs.NameAdded.{any_swapped}
use Rattle.tk_types.proofs.name_set.NameSet.contains.Goals as goal

pub returns-in-None : goal.returns-in-None
returns-in-None c =
    c.is_among.ensures
    ∙ (any_swapped c.args.name.now c.as_slice.result.now
    ∙ (ap (λ names. is_in (map (λ n. n.now) names) c.args.name.now) c.as_slice.ensures.value
    ∙ ap (λ names. is_in names c.args.name.now) c.self.view_is))
