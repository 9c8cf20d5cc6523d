use Rattle.std.proofs.Common.{◌∙◌, ap, map, Vec, Global}
use Rattle.std.proofs.lemmas.List.{length-set, map-append}
use Rattle.tk_types.specs.declared.run.Child.{Child}
use Rattle.tk_verdict.proofs.GroupFacts.{grouped_more}
use Rattle.tk_verdict.proofs.groups.grouped.Goals as goal
use denote.Bor.{Bor}

pub loop-child-preserved : goal.loop-child-preserved
loop-child-preserved c =
    let now = λ (child : Bor Child). child.now in
    let group_of = λ (group : Vec (Bor Child) Global). map now group.items in
    let groups = c.loop-child.groups.items in
    record {
      count = length-set groups c.child-item.result.task c.push.new.self ∙ c.loop-child.invariant.count;
      grouped = grouped_more group_of c.args.total c.args.children.now groups c.loop-child.child-index c.child-item.result c.index_mut.result.now c.push.new.self
          c.requires.exist c.loop-child.invariant.count c.loop-child-test.true c.child-item.is (λ lt. c.index_mut.ensures.value)
          (ap (map now) c.in_ok-push.ensures.items ∙ map-append now c.index_mut.result.now.items _) c.loop-child.invariant.grouped;
    }
