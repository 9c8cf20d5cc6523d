use Rattle.std.proofs.Common.{◌<◌, ◌∙◌, [], length, get_or, refl, arith}
use Rattle.std.proofs.lemmas.List.{length-set, get_or_default}
use Rattle.tk_graph.proofs.ChildLists.{added_more}
use Rattle.tk_graph.proofs.below.add_child.Goals as goal

pub loop-parent-preserved : goal.loop-parent-preserved
loop-parent-preserved c =
    let below = c.loop-parent.below.items in
    let i = c.loop-parent.parent-index in
    let p = get_or c.args.parents.now i 0 in
    let list = c.index_mut-children.result.now in
    let count = c.loop-parent.invariant.count in
    let within : p < length below = omega (arith, c.requires i 0 c.loop-parent-test.true) in
    record {
      count = length-set below p c.push.new.self ∙ count;
      added = λ parent child lt.
          rw c.in_ok-push.ensures.ok
          (added_more c.args.below.now.items below c.args.parents.now i p c.args.task parent child list c.loop-parent-test.true refl within
          (c.index_mut-children.ensures.value ∙ get_or_default below p list [] within)
          (c.loop-parent.invariant.added parent child lt));
    }
