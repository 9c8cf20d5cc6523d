use Rattle.std.proofs.Common.{List, ◌∙◌, ap, map, option_map, sym}
use Rattle.tk_types.specs.Value.{value_named}
use Rattle.tk_verdict.specs.declared.emitted.EmittedResult.{EmittedResult}
use Rattle.tk_verdict.proofs.AvailableFacts.{all_first, filter_map_more}
use Rattle.tk_verdict.specs.GivenResults.{given}
use Rattle.tk_verdict.proofs.available.add_first.Goals as goal

pub loop-result-preserved : goal.loop-result-preserved
loop-result-preserved c =
    let param = λ (result : EmittedResult). result.param.now in
    let task = c.args.task.now in
    let items = c.as_slice-result-items.result.now in
    let name = c.result-item.result.param.now.name in
    let value_of = λ (results : List EmittedResult). option_map (given task name) (value_named name (map param results)) in
    c.in_ok-add_given.ensures
    ∙ filter_map_more (λ (result : EmittedResult). option_map (given task result.param.now.name) (value_named result.param.now.name (map param items))) items c.loop-result.result-index c.result-item.result c.args.made.now c.loop-result.made c.in_ok-given.given
    c.loop-result-test.true c.result-item.is
    (c.in_ok-given.ensures ∙ ap value_of (c.in_ok-index.ensures ∙ (c.as_slice.ensures.value ∙ sym c.as_slice-result-items.ensures.value)))
    c.loop-result.invariant

pub returns : goal.returns
returns c =
    let param = λ (result : EmittedResult). result.param.now in
    all_first param c.args.task.now c.as_slice-result-items.result.now _ c.loop-result.result-index c.args.made.now c.loop-result.made c.loop-result-test.false
    (ap (map param) c.as_slice-result-items.ensures.value ∙ c.in_ok-all.ensures) c.loop-result.invariant
