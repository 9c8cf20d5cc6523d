use Rattle.tk_types.specs.declared.run.Child.{Child}
use Rattle.std.proofs.Common.{◌∙◌}
use Rattle.std.specs.Prelude.{unwrap_or}
use Rattle.tk_admit.specs.Command.{task_place}
use Rattle.tk_admit.proofs.Refusals.{refused_child}
use Rattle.tk_admit.proofs.facts.child_at.Goals as goal

pub returns-clause-refused : goal.returns-clause-refused
returns-clause-refused c =
    let value : Child = record { task = unwrap_or c.place.result 0; index = c.args.child.now.index; outcome = c.args.child.now.outcome } in
    refused_child c.args.places.now c.args.place.now c.args.stood.now c.args.child.now c.place.result value c.placed.result (c.place.ensures ∙ (λ i. task_place c.args.places.now (c.as_str.ensures i))) c.in_ok-check_new.ensures.found.0 c.placed.ensures
