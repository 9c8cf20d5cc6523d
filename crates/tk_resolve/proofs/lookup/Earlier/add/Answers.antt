use Rattle.std.proofs.Common.{ap, sym, ◌∙◌}
use Rattle.std.specs.Option.{option_or}
use Rattle.tk_types.specs.declared.object.Item.{Item}
use Rattle.tk_resolve.specs.Lookup.{as_pipeline, as_task, value_if}
use Rattle.tk_resolve.proofs.Found.{named_more}
use Rattle.tk_resolve.proofs.lookup.Earlier.add.Goals as goal

pub invariant_of-self-in_default : goal.invariant_of-self-in_default
invariant_of-self-in_default c = (
  λ name.
      c.in_default.ensures.task name
      ∙ (ap (λ o. option_or o (value_if name (as_task c.args.item.now.object))) (c.self.invariant.0 name)
      ∙ sym (named_more (λ (i : Item). as_task i.object) c.self.inside.items.items c.push.new.self.items c.args.item name c.in_ok-push.ensures.items)),
  λ name.
      c.in_default.ensures.pipeline name
      ∙ (ap (λ o. option_or o (value_if name (as_pipeline c.args.item.now.object))) (c.self.invariant.1 name)
      ∙ sym (named_more (λ (i : Item). as_pipeline i.object) c.self.inside.items.items c.push.new.self.items c.args.item name c.in_ok-push.ensures.items)),
)
