use Rattle.std.proofs.Common.{◌≡◌, ◌+◌, ◌++◌, ◌∷◌, [], take, cond, ap, sym, ◌∙◌, arith, bytes_eq}
use Rattle.std.proofs.lemmas.Grind.{text_groups}
use Rattle.tk_types.specs.declared.task.PipelineTask.{PipelineTask}
use Rattle.tk_graph.specs.Index.{places_of_name}
use Rattle.tk_graph.proofs.PlacesWhere.{places_where_more}
use Rattle.tk_graph.proofs.names.grouped.Goals as goal

pub loop-place-preserved : goal.loop-place-preserved
loop-place-preserved c = λ name.
    let before = places_of_name (take c.loop-place.place c.args.tasks.now) name in
    let step : places_of_name (take (c.loop-place.place + 1) c.args.tasks.now) name ≡ before ++ cond (bytes_eq name c.as_str.result.now) (c.loop-place.place ∷ []) [] =
    places_where_more (λ (task : PipelineTask). bytes_eq name task.name) c.args.tasks.now c.loop-place.place c.index-tasks-place.result c.loop-place-test.true c.index-tasks-place.is
    ∙ ap (λ n. before ++ cond (bytes_eq name n) (c.loop-place.place ∷ []) []) (sym c.as_str.ensures) in
    rw step (grind (arith, text_groups, c.loop-place.invariant name))
