use Rattle.std.proofs.Common.{◌∙◌, ◌++◌, refl}
use Rattle.std.specs.List.{flat_map, enumerate_from}
use Rattle.tk_verdict.specs.Available.{available_of}
use Rattle.tk_verdict.proofs.AvailableFacts.{both_parts}
use Rattle.tk_verdict.proofs.available.available_results.Goals as goal

pub returns : goal.returns
returns c =
    let facts = c.args.facts.now in
    both_parts (available_of facts) c.as_slice-tasks.result.now c.as_slice.result.now _ _ _ _ c.new-made.ensures refl
    (c.in_ok-add_of_tasks.ensures facts c.requires.same) (c.in_ok-add_of_tasks-2.ensures facts c.requires.same)
    ∙ (λ i. flat_map (available_of facts) (enumerate_from 0 (c.as_slice-tasks.ensures i ++ c.as_slice.ensures i)))
