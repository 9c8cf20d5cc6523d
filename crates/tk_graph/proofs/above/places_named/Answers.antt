use Rattle.std.proofs.Common.{◌≡◌, sym, ◌∙◌, ap, bytes_eq}
use Rattle.std.specs.List.{list_any}
use Rattle.tk_types.specs.declared.task.PipelineTask.{PipelineTask}
use Rattle.tk_graph.proofs.above.places_named.Goals as goal
use Rattle.tk_graph.proofs.above.places_named.Goals.{then-is_among+in_ok-push, else-is_among}
use Rattle.tk_graph.proofs.PlacesWhere.{places_where_yes, places_where_no}

pub loop-place-preserved : goal.loop-place-preserved
loop-place-preserved c =
    let tested : c.is_among.result ≡ list_any (λ name. bytes_eq name c.index-tasks-place.result.name) c.args.names.now = c.is_among.ensures ∙ ap (λ n. list_any (λ name. bytes_eq name n) c.args.names.now) c.as_str.ensures in
    elim c.if-is_among.branch [
      | then-is_among+in_ok-push w ↦ rw (w.places-is, w.in_ok-push.ensures.ok) (places_where_yes (λ (t : PipelineTask). list_any (λ name. bytes_eq name t.name) c.args.names.now) c.args.tasks.now c.loop-place.place c.index-tasks-place.result c.loop-place.places c.loop-place-test.true c.index-tasks-place.is (sym tested ∙ w.if-is_among.true) c.loop-place.invariant)
      | else-is_among w ↦ rw w.places-is (places_where_no (λ (t : PipelineTask). list_any (λ name. bytes_eq name t.name) c.args.names.now) c.args.tasks.now c.loop-place.place c.index-tasks-place.result c.loop-place.places c.loop-place-test.true c.index-tasks-place.is (sym tested ∙ w.if-is_among.false) c.loop-place.invariant)
    ]
