use Rattle.std.proofs.Common.{arith, ◌≡◌, ◌<◌, ◌∙◌, length, map}
use Rattle.serde_json.specs.View.{view}
use Rattle.tk_journal.specs.Effects.{bindings_for}
use Rattle.tk_cache.specs.Views.{seen}
use Rattle.tk_report.specs.Json.{child_data_at}
use Rattle.tk_report.proofs.Few.{few_for}
use Rattle.tk_report.proofs.Behind.{lines_next}
use Rattle.tk_report.proofs.json.push_children.Goals as goal

pub overflow_cast-index : goal.overflow_cast-index
overflow_cast-index c =
    let count : length (bindings_for c.args.place c.as_slice.result.now) ≡ length (bindings_for c.args.place c.args.run.now.scheduled) = λ i. length (bindings_for c.args.place (c.as_slice.ensures i)) in
    let few = few_for c.args.run.now c.args.place c.requires in
    omega (arith, c.loop-index-test.true, c.child_count-index-end.ensures, count, few)

pub loop-index-preserved : goal.loop-index-preserved
loop-index-preserved c =
    let count : length (bindings_for c.args.place c.as_slice.result.now) ≡ length (bindings_for c.args.place c.args.run.now.scheduled) = λ i. length (bindings_for c.args.place (c.as_slice.ensures i)) in
    let n = length (bindings_for c.args.place c.args.run.now.scheduled) in
    let within : c.loop-index.index < n = omega (arith, c.loop-index-test.true, c.child_count-index-end.ensures, count) in
    let children = child_data_at (seen c.args.objects.now).view c.args.run.now c.args.task.now in
    lines_next children (map view c.loop-index.items.items) (map view c.push_child.new.items.items) c.loop-index.index n within c.in_ok-push_child.ensures ∙ c.loop-index.invariant
