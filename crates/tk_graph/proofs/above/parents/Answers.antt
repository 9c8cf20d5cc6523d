use Rattle.std.proofs.Common.{◌≡◌, [], length, refl, ap, sym, ◌∙◌}
use Rattle.std.specs.Prelude.{bytes_eq}
use Rattle.std.specs.List.{list_any}
use Rattle.std.specs.Option.{option_map_or}
use Rattle.std.proofs.lemmas.Option.{slice_get_read}
use Rattle.std.proofs.lemmas.Result.{IfOk-weaker}
use Rattle.tk_types.specs.Lists.{places_where}
use Rattle.tk_types.specs.declared.task.PipelineTask.{PipelineTask}
use Rattle.tk_graph.specs.Parents.{is_parent}
use Rattle.tk_graph.proofs.above.parents.Goals as goal

pub returns : goal.returns
returns c =
    let tasks = c.args.tasks.now in
    IfOk-weaker c.places_named.result _ _
    (λ places are.
    are ∙ (ap (λ names. places_where (λ (parent : PipelineTask). list_any (λ name. bytes_eq name parent.name) names) tasks) (c.as_slice.ensures ∙ c.in_ok-names.ensures)
    ∙ sym (ap (λ found. option_map_or (λ (task : PipelineTask). places_where (λ parent. is_parent parent task) tasks) found []) (slice_get_read tasks (length tasks) c.args.task c.index-tasks-task.result refl c.requires.exists c.index-tasks-task.is))))
    c.places_named.ensures
