use Rattle.std.proofs.Common.{arith, Some}
use Rattle.std.proofs.lemmas.Grind.{common_steps}
use Rattle.std.proofs.lemmas.List.FromFn.{map-range_with_len_more}
use Rattle.tk_names.specs.Children.{child_name}
use Rattle.tk_child_names.proofs.names.add_child_names.Goals as goal

pub loop-index-preserved : goal.loop-index-preserved
loop-index-preserved c =
    let more = map-range_with_len_more (λ i. child_name c.args.run.now c.args.task.now (Some i)) 0 c.loop-index.index c.loop-index.index (omega arith) in
    grind (arith, common_steps, more)
