use Rattle.std.proofs.Common.{cond, ap, ◌∙◌, ◌&&◌, Some, None, bytes_eq, sym}
use Rattle.std.specs.Option.{option_or}
use Rattle.tk_bind.proofs.IndexFacts.{results_more}
use Rattle.tk_bind.proofs.results.grouped.Goals as goal

pub loop-given-preserved : goal.loop-given-preserved
loop-given-preserved c = λ task name.
    let given = c.given-item.result in
    c.in_ok-add.ensures task name
    ∙ (ap (λ o. option_or o (cond (bytes_eq task given.task && bytes_eq name given.name) (Some given.value) None)) (c.loop-given.invariant task name)
    ∙ sym (results_more task name c.args.results.now c.loop-given.given-index given c.loop-given-test.true c.given-item.is))
