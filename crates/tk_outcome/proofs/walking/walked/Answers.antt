use Rattle.std.proofs.Common.{◌≡◌, is_none, not, true, sym, ◌∙◌, ap}
use Rattle.tk_pod.specs.Walk.{next_step}
use Rattle.tk_journal.specs.PodRows.{walk_of}
use Rattle.tk_outcome.proofs.Walks.{exit_none, exit_some, over_at, walk_more}
use Rattle.tk_outcome.proofs.walking.walked.Goals as goal

pub loop-step-preserved-in_default : goal.loop-step-preserved-in_default
loop-step-preserved-in_default c = record {
  same = c.loop-step.invariant.same;
  walk = c.loop-step.invariant.walk ∙ ap (walk_of c.args.pod.now.plan) (sym (exit_none _ _ c.loop-step.invariant.same _ _ c.loop-step-test.true c.in_default.is));
}

pub returns-then-is_none : goal.returns-then-is_none
returns-then-is_none c =
    let over : is_none (next_step c.loop-step.walk) ≡ true = ap is_none (sym c.next.ensures) ∙ ap not (c.is_none.ensures ∙ ap not c.if-is_none.true) in
    c.outcome.ensures ∙ over_at _ _ c.loop-step.invariant.same _ _ c.loop-step-test.true c.args.pod.now.plan c.in-Some.exit c.loop-step.walk c.in-Some.is c.loop-step.invariant.walk over c.requires.within

pub loop-step-preserved : goal.loop-step-preserved
loop-step-preserved c = record {
  same = c.loop-step.invariant.same;
  walk = walk_more c.args.pod.now.plan _ c.in-Some.exit c.loop-step.walk c.ended.new.self c.loop-step.invariant.walk c.ended.ensures
      ∙ ap (walk_of c.args.pod.now.plan) (sym (exit_some _ _ c.loop-step.invariant.same _ _ c.loop-step-test.true c.in-Some.exit c.in-Some.is));
}
