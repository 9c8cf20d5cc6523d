use Rattle.std.proofs.Common.{ap, ◌∙◌, ◌++◌, ◌∷◌, [], take}
use Rattle.std.specs.List.{zip}
use Rattle.std.proofs.Math.Seq.{take-length}
use Rattle.std.proofs.lemmas.Iterator.{YieldsList-from_slice, YieldsList-from_zip}
use Rattle.std.proofs.lemmas.Iterator.Consumers.{YieldsList-end, YieldsList-from_chain, YieldsList-turn}
use Rattle.tk_resolve.specs.Run.{all_tasks}
use Rattle.tk_resolve.proofs.Zipped.{taken_more}
use Rattle.tk_resolve.proofs.misuse.declarers.Goals as goal

pub loop-task-preserved : goal.loop-task-preserved
loop-task-preserved c =
    let pipeline = c.args.pipeline.now in
    let turn =
    YieldsList-turn
    (YieldsList-from_zip (YieldsList-from_chain (YieldsList-from_slice pipeline.tasks (cc)) (YieldsList-from_slice pipeline.finally (cc)) (cc) (cc)) (YieldsList-from_slice c.args.bodies.now (cc)))
    c.loop-task.yielded _ c.loop-task.yielded_by c.next.result c.next.new.self (c.in-Some.task, c.in-Some.body) c.in-Some.is c.next.ensures.steps in
    taken_more (zip (all_tasks pipeline) c.args.bodies.now) c.loop-task.yielded (c.in-Some.task, c.in-Some.body) (c.in-Some.task.now, c.in-Some.body.now) _ _ turn.0 turn.1 c.loop-task.invariant
    (c.in_ok-push.ensures.items ∙ ap (λ z. c.loop-task.made.items ++ z ∷ []) c.in_ok-new.ensures)

pub returns : goal.returns
returns c =
    let pipeline = c.args.pipeline.now in
    let zs = zip (all_tasks pipeline) c.args.bodies.now in
    let end =
    YieldsList-end
    (YieldsList-from_zip (YieldsList-from_chain (YieldsList-from_slice pipeline.tasks (cc)) (YieldsList-from_slice pipeline.finally (cc)) (cc) (cc)) (YieldsList-from_slice c.args.bodies.now (cc)))
    c.loop-task.yielded _ c.loop-task.yielded_by c.next.result c.next.new.self c.in-None.is c.next.ensures.steps in
    c.loop-task.invariant ∙ (ap (λ n. take n zs) end.1 ∙ take-length zs)
