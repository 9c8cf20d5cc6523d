use Rattle.tk_vars.specs.Target.{references_of}
use Rattle.tk_early.proofs.ResultFacts.{none_to_result}
use Rattle.tk_early.proofs.settled.ToResultReferenceTest.passes_over.Goals as goal

pub returns : goal.returns
returns c passed = none_to_result (references_of c.args.text.now) (c.names_no_task.ensures.references passed)
