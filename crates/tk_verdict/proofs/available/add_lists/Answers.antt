use Rattle.std.proofs.Common.{List, ◌∙◌, ap, map, option_map}
use Rattle.std.specs.Prelude.{option_and_then}
use Rattle.tk_types.specs.declared.run.Child.{Child}
use Rattle.tk_types.specs.declared.value.Param.{Param}
use Rattle.tk_types.specs.declared.value.Value.TheVariants.{Arr}
use Rattle.tk_types.specs.Lists.{all_some}
use Rattle.tk_types.specs.Value.{value_named}
use Rattle.tk_bind.specs.Substitute.{as_text}
use Rattle.tk_verdict.proofs.AvailableFacts.{all_lists, filter_map_more}
use Rattle.tk_verdict.specs.GivenResults.{given}
use Rattle.tk_verdict.proofs.available.add_lists.Goals as goal
use denote.Bor.{Bor}

pub loop-param-preserved : goal.loop-param-preserved
loop-param-preserved c =
    let task = c.args.task.now in
    let given_by = λ (results : List (List Param)). λ (p : Param). option_map (given task p.name) (option_map Arr (all_some (map (λ params. option_and_then as_text (value_named p.name params)) results))) in
    c.in_ok-add_given.ensures
    ∙ filter_map_more (given_by c.in_ok-indexes.indexes.items) c.of_first-param-items.result.now c.loop-param.param-index c.param-item.result c.args.made.now c.loop-param.made c.in_ok-given.given
    c.loop-param-test.true c.param-item.is
    (c.in_ok-given.ensures ∙ ap (λ (results : List (List Param)). given_by results c.param-item.result) c.as_slice.ensures.value)
    c.loop-param.invariant

pub returns : goal.returns
returns c =
    all_lists c.args.task.now (map (λ (child : Bor Child). child.now) c.args.children.now) c.in_ok-indexes.indexes.items c.of_first-param-items.result.now _ c.loop-param.param-index c.args.made.now c.loop-param.made
    c.loop-param-test.false c.of_first-param-items.ensures c.in_ok-indexes.ensures c.loop-param.invariant
