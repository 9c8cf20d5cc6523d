use Rattle.std.proofs.Common.{sym, ◌∙◌}
use Rattle.tk_graph.proofs.UnknownFrom.{passes, stops}
use Rattle.tk_graph.proofs.unknown.first_unknown.Goals as goal

pub loop-place-preserved : goal.loop-place-preserved
loop-place-preserved c =
    sym (passes c.args.names.now c.tasks-tasks.result.now c.loop-place.place c.index-tasks-place.result c.loop-place-test.true c.index-tasks-place.is (sym c.in_default.is ∙ c.in_ok-name.ensures))
    ∙ c.loop-place.invariant

pub returns-in-Some : goal.returns-in-Some
returns-in-Some c =
    sym (stops c.args.names.now c.tasks-tasks.result.now c.loop-place.place c.index-tasks-place.result c.in-Some.name c.loop-place-test.true c.index-tasks-place.is (sym c.in-Some.is ∙ c.in_ok-name.ensures))
    ∙ c.loop-place.invariant
