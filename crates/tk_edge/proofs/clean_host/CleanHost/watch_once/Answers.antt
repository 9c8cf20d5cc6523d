use Rattle.std.proofs.Common.{refl, ◌∙◌, ap, ◌∷◌}
use Rattle.tk_edge.proofs.Starts.{refused_rest}
use Rattle.tk_edge.specs.declared.event.Event.TheVariants as events
use Rattle.tk_edge.proofs.clean_host.CleanHost.watch_once.Goals as goal

pub returns-then-stands-clause-others : goal.returns-then-stands-clause-others
returns-then-stands-clause-others c = (_, refl, λ path differ. refused_rest c.args.child path _ _ (c.refused.ensures.told ∙ ap (λ h. events.Refused c.args.child ∷ h) c.in_ok-make_room.ensures.told) differ)
