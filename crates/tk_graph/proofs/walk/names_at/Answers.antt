use Rattle.std.proofs.Common.{◌≡◌, ◌∙◌, get_or, sym, ap}
use Rattle.std.proofs.lemmas.List.{map_more}
use Rattle.tk_types.specs.declared.task.PipelineTask.{PipelineTask}
use Rattle.tk_graph.specs.Cycle.{name_at}
use Rattle.tk_graph.proofs.TaskParents.{name_at_is}
use Rattle.tk_graph.proofs.walk.names_at.Goals as goal

pub loop-place-preserved : goal.loop-place-preserved
loop-place-preserved c =
    let tasks = c.args.tasks.now in
    let places = c.args.places.now in
    let i = c.loop-place.place-index in
    let p = get_or places i 0 in
    let task = c.index-tasks-place.result in
    let lt = c.requires i 0 c.loop-place-test.true in
    let name : c.in_ok-copy.field-0 ≡ name_at tasks p = c.in_ok-copy.ensures ∙ (ap (λ (t : PipelineTask). t.name) (sym c.index-tasks-place.is) ∙ sym (name_at_is tasks p task lt c.index-tasks-place.is)) in
    rw (c.in_ok-push.ensures.ok, name, c.loop-place.invariant) (sym (map_more (name_at tasks) places i 0 c.loop-place-test.true))
