use Rattle.std.proofs.Common.{sym}
use Rattle.tk_rounds.proofs.Parts.{slice_back}
use Rattle.tk_threads.proofs.threaded.play.Goals as goal

pub returns-clause-left : goal.returns-clause-left
returns-clause-left g c =
    let one = slice_back c.args.left.now.len c.round.new.left c.as_mut_slice.result.now c.args.left.now.items c.as_mut_slice.ensures.value c.as_mut_slice.ensures.len c.round.ensures.left.0 in
    rw (one, sym c.as_mut_slice.ensures.value) c.round.ensures.left

pub returns-clause-right : goal.returns-clause-right
returns-clause-right g c =
    let two = slice_back c.args.right.now.len c.round.new.right c.as_mut_slice-2.result.now c.args.right.now.items c.as_mut_slice-2.ensures.value c.as_mut_slice-2.ensures.len c.round.ensures.right.0 in
    rw (two, sym c.as_mut_slice-2.ensures.value) c.round.ensures.right
