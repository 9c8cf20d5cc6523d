use Rattle.tk_verdict.specs.declared.emitted.EmittedResult.{EmittedResult}
use Rattle.tk_verdict.proofs.AvailableFacts.{first_given, none_given}
use Rattle.tk_verdict.proofs.available.first_given.Goals as goal

pub returns-in_ok-copy-in-Some-3 : goal.returns-in_ok-copy-in-Some-3
returns-in_ok-copy-in-Some-3 c =
    first_given (λ (result : EmittedResult). result.param.now) c.args.index.now c.in-Some.first.now c.args.task.now c.args.name.now _ _ _ _ c.in-Some.ensures c.as_str.ensures
    c.in_ok-copy-in-Some.ensures c.in_ok-copy-in-Some-2.ensures c.in_ok-copy-in-Some-3.ensures

pub returns-in-None : goal.returns-in-None
returns-in-None c = none_given (λ (result : EmittedResult). result.param.now) c.args.index.now c.args.task.now c.args.name.now _ c.in-None.ensures c.as_str.ensures
