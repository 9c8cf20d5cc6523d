use Rattle.std.proofs.Common.{◌≡◌, sym, subst}
use Rattle.std.specs.Prelude.{IfOk, Bool}
use Rattle.tk_vars.specs.Reading.{pieces_of}
use Rattle.tk_resolve.proofs.PassedOver.{passes_references}
use Rattle.tk_resolve.proofs.uses.any_in_text.Goals as goal

pub returns : goal.returns
returns g c =
    subst (λ (found : Bool). IfOk c.any_reference.result (λ any. any ≡ found)) (sym (passes_references (g.Q.Question.asks c.args.question.now c.args.due) (pieces_of c.args.text.now))) c.any_reference.ensures
