use Rattle.std.proofs.Common.{◌++◌, ◌∷◌, [], sym, ◌∙◌, ap}
use Rattle.tk_outcome.proofs.Walks.{exit_none, exit_some}
use Rattle.tk_outcome.proofs.walking.exits.Goals as goal

pub loop-step-preserved-in_default : goal.loop-step-preserved-in_default
loop-step-preserved-in_default c = record {
  same = c.loop-step.invariant.same;
  exits = c.loop-step.invariant.exits ∙ sym (exit_none _ _ c.loop-step.invariant.same _ _ c.loop-step-test.true c.in_default.is);
}

pub loop-step-preserved : goal.loop-step-preserved
loop-step-preserved c = record {
  same = c.loop-step.invariant.same;
  exits = c.in_ok-push.ensures.items ∙ (ap (λ es. es ++ c.in-Some.exit ∷ []) c.loop-step.invariant.exits ∙ sym (exit_some _ _ c.loop-step.invariant.same _ _ c.loop-step-test.true c.in-Some.exit c.in-Some.is));
}
