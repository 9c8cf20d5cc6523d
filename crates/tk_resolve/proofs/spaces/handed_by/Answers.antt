use Rattle.std.proofs.Common.{Some, option_map, ap, ◌∙◌}
use Rattle.tk_resolve.specs.Spaces.{binding_named, handed_on}
use Rattle.tk_resolve.proofs.spaces.handed_by.Goals as goal

pub returns-in_ok-handed_on-in-Some : goal.returns-in_ok-handed_on-in-Some
returns-in_ok-handed_on-in-Some c =
    ap Some c.in_ok-handed_on-in-Some.ensures
    ∙ ap (option_map (handed_on c.args.handing.now)) (c.in-Some.ensures ∙ ap (binding_named c.args.bindings.now) c.as_str.ensures)
