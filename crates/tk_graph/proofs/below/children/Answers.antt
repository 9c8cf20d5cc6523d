use Rattle.std.proofs.Common.{◌≡◌, ◌∙◌, [], length, arith}
use Rattle.std.proofs.lemmas.List.{get_or_default}
use Rattle.tk_graph.specs.Removal.{parents_at}
use Rattle.tk_graph.proofs.ChildLists.{made_more, made_all}
use Rattle.tk_graph.proofs.Removing.{inside_parents}
use Rattle.tk_graph.proofs.below.children.Goals as goal

pub add_child-requires : goal.add_child-requires
add_child-requires c =
    let above = c.args.above.now in
    let i = c.loop-task.task in
    let parents : c.as_slice.result.now ≡ parents_at above i = c.as_slice.ensures ∙ (c.index-above-task.is ∙ get_or_default above i c.index-above-task.result [] c.loop-task-test.true) in
    inside_parents above c.as_slice.result.now i (length c.loop-task.below.items) c.requires.inside parents c.loop-task.invariant.count

pub loop-task-preserved : goal.loop-task-preserved
loop-task-preserved c =
    let above = c.args.above.now in
    let i = c.loop-task.task in
    let count = c.loop-task.invariant.count in
    let parents : c.as_slice.result.now ≡ parents_at above i = c.as_slice.ensures ∙ (c.index-above-task.is ∙ get_or_default above i c.index-above-task.result [] c.loop-task-test.true) in
    record {
      count = c.add_child.ensures.count ∙ count;
      made = λ parent child lt.
          made_more above c.loop-task.below.items c.add_child.new.below.items i parent child c.as_slice.result.now parents
          (c.loop-task.invariant.made parent child lt) (c.in_ok-add_child.ensures.added parent child (omega arith));
    }

pub returns-clause-children : goal.returns-clause-children
returns-clause-children c = λ parent child lt.
    c.loop-task.invariant.made parent child lt ∙ made_all c.args.above.now c.loop-task.task parent child c.loop-task-test.false
