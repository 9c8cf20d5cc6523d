use Rattle.std.proofs.Common.{Some, ap, sym, ◌∙◌, bytes_eq}
use Rattle.std.specs.HashMap.{get_by}
use Rattle.std.specs.Option.{option_and_then}
use Rattle.tk_types.specs.Value.{value_named}
use Rattle.tk_bind.specs.Selector.{selected}
use Rattle.tk_bind.proofs.IndexFacts.{found_named}
use Rattle.tk_bind.proofs.param_index.ParamIndex.selected.Goals as goal

pub returns-in-Some : goal.returns-in-Some
returns-in-Some c =
    let name = c.args.name.now in
    let is = found_named c.self.inside.params name (get_by (λ k. bytes_eq name k.now) c.self.inside.long) c.in-Some.value.now (c.self.invariant name) (sym c.in-Some.ensures.value) in
    c.selected.ensures ∙ sym (ap (option_and_then (selected c.args.selector.now)) (ap (value_named name) (sym c.self.view_is) ∙ is))
