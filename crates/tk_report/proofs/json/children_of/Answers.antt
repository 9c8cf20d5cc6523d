use Rattle.std.proofs.Common.{◌≡◌, [], ◌++◌, length, ◌∙◌, map}
use Rattle.std.specs.Prelude.{flat_map}
use Rattle.std.specs.List.{enumerate_from}
use Rattle.serde_json.specs.View.{view}
use Rattle.tk_cache.specs.Views.{seen}
use Rattle.tk_report.specs.Json.{children_data}
use Rattle.tk_report.proofs.Behind.{lines_split}
use Rattle.tk_report.proofs.json.children_of.Goals as goal

pub returns : goal.returns
returns c =
    let children = children_data (seen c.args.objects.now).view c.args.run.now in
    let first : map view c.push_all_children.new.items.items ≡ flat_map children (enumerate_from 0 c.args.run.now.spec.tasks) =
    c.in_ok-push_all_children.ensures ∙ (λ i. map view (c.new-items.ensures.items i) ++ flat_map children (enumerate_from 0 (c.as_slice-tasks.ensures i))) in
    let place : length c.as_slice-tasks.result.now ≡ length c.args.run.now.spec.tasks = λ i. length (c.as_slice-tasks.ensures i) in
    c.in_ok-push_all_children-2.ensures
    ∙ (λ i. first i ++ flat_map children (enumerate_from (place i) (c.as_slice-finally.ensures i)))
    ∙ lines_split children c.args.run.now.spec.tasks c.args.run.now.spec.finally []
