use Rattle.std.proofs.Common.{sym}
use Rattle.tk_rounds.proofs.Parts.{slice_back}
use Rattle.tk_rounds.proofs.round.serial_round.Goals as goal

pub both_parts-requires-clause-ones : goal.both_parts-requires-clause-ones
both_parts-requires-clause-ones g c = rw c.as_mut_slice.ensures.value c.requires.controllers

pub both_parts-requires-clause-others : goal.both_parts-requires-clause-others
both_parts-requires-clause-others g c = rw c.as_mut_slice-2.ensures.value c.requires.nodes

pub returns-in_err-both_parts-clause-controllers : goal.returns-in_err-both_parts-clause-controllers
returns-in_err-both_parts-clause-controllers g c =
    let one = slice_back c.args.bench.now.controllers.len c.both_parts.new.ones c.as_mut_slice.result.now c.args.bench.now.controllers.items c.as_mut_slice.ensures.value c.as_mut_slice.ensures.len c.both_parts.ensures.counts.0 in
    rw one c.both_parts.ensures.ones

pub returns-in_err-both_parts-clause-nodes : goal.returns-in_err-both_parts-clause-nodes
returns-in_err-both_parts-clause-nodes g c =
    let two = slice_back c.args.bench.now.kubelets.len c.both_parts.new.others c.as_mut_slice-2.result.now c.args.bench.now.kubelets.items c.as_mut_slice-2.ensures.value c.as_mut_slice-2.ensures.len c.both_parts.ensures.counts.1 in
    rw two c.both_parts.ensures.others

pub returns-in_err-both_parts-clause-grows : goal.returns-in_err-both_parts-clause-grows
returns-in_err-both_parts-clause-grows g c = rw (sym c.as_mut_slice.ensures.value, sym c.as_mut_slice-2.ensures.value) c.both_parts.ensures.grows

pub returns-in_err-both_parts-clause-controllers_follow : goal.returns-in_err-both_parts-clause-controllers_follow
returns-in_err-both_parts-clause-controllers_follow g c =
    let one = slice_back c.args.bench.now.controllers.len c.both_parts.new.ones c.as_mut_slice.result.now c.args.bench.now.controllers.items c.as_mut_slice.ensures.value c.as_mut_slice.ensures.len c.both_parts.ensures.counts.0 in
    rw (one, sym c.as_mut_slice.ensures.value) c.both_parts.ensures.ones_follow

pub returns-in_err-both_parts-clause-nodes_follow : goal.returns-in_err-both_parts-clause-nodes_follow
returns-in_err-both_parts-clause-nodes_follow g c =
    let two = slice_back c.args.bench.now.kubelets.len c.both_parts.new.others c.as_mut_slice-2.result.now c.args.bench.now.kubelets.items c.as_mut_slice-2.ensures.value c.as_mut_slice-2.ensures.len c.both_parts.ensures.counts.1 in
    rw (two, sym c.as_mut_slice-2.ensures.value) c.both_parts.ensures.others_follow

pub returns-clause-controllers : goal.returns-clause-controllers
returns-clause-controllers g c =
    let one = slice_back c.args.bench.now.controllers.len c.both_parts.new.ones c.as_mut_slice.result.now c.args.bench.now.controllers.items c.as_mut_slice.ensures.value c.as_mut_slice.ensures.len c.both_parts.ensures.counts.0 in
    rw one c.both_parts.ensures.ones

pub returns-clause-nodes : goal.returns-clause-nodes
returns-clause-nodes g c =
    let two = slice_back c.args.bench.now.kubelets.len c.both_parts.new.others c.as_mut_slice-2.result.now c.args.bench.now.kubelets.items c.as_mut_slice-2.ensures.value c.as_mut_slice-2.ensures.len c.both_parts.ensures.counts.1 in
    rw two c.both_parts.ensures.others

pub returns-clause-grows : goal.returns-clause-grows
returns-clause-grows g c = rw (sym c.as_mut_slice.ensures.value, sym c.as_mut_slice-2.ensures.value) c.both_parts.ensures.grows

pub returns-clause-controllers_follow : goal.returns-clause-controllers_follow
returns-clause-controllers_follow g c =
    let one = slice_back c.args.bench.now.controllers.len c.both_parts.new.ones c.as_mut_slice.result.now c.args.bench.now.controllers.items c.as_mut_slice.ensures.value c.as_mut_slice.ensures.len c.both_parts.ensures.counts.0 in
    rw (one, sym c.as_mut_slice.ensures.value) c.both_parts.ensures.ones_follow

pub returns-clause-nodes_follow : goal.returns-clause-nodes_follow
returns-clause-nodes_follow g c =
    let two = slice_back c.args.bench.now.kubelets.len c.both_parts.new.others c.as_mut_slice-2.result.now c.args.bench.now.kubelets.items c.as_mut_slice-2.ensures.value c.as_mut_slice-2.ensures.len c.both_parts.ensures.counts.1 in
    rw (two, sym c.as_mut_slice-2.ensures.value) c.both_parts.ensures.others_follow
