use Rattle.std.proofs.Common.{◌≡◌, false, true, None, ap, arith, get_or}
use Rattle.tk_types.specs.declared.run.Child.{Child}
use Rattle.tk_labels.specs.Change.{runs_at}
use Rattle.tk_labels.proofs.Changes.{that_runs}
use Rattle.tk_labels.proofs.kids.place_of.Goals as goal

pub unreachable-requires : goal.unreachable-requires
unreachable-requires c =
    let that : Child = record { task = c.args.task; index = c.args.index; outcome = None } in
    let at = c.requires in
    let no : runs_at c.args.task c.args.index (get_or c.args.children.now at.0 that) ≡ false = c.loop-place.invariant at.0 (omega (arith, at.1, c.loop-place-test.false)) that in
    let yes : runs_at c.args.task c.args.index that ≡ true = that_runs c.args.task c.args.index in
    let same = ap (runs_at c.args.task c.args.index) at.2 in
    cc
