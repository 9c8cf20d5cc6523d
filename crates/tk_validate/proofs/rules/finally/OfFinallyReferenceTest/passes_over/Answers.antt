use Rattle.tk_vars.specs.Target.{references_of}
use Rattle.tk_validate.specs.Finally.{refused_in_own}
use Rattle.tk_validate.proofs.NoTask.{any_of_kind, none_in_own}
use Rattle.tk_validate.proofs.rules.finally.OfFinallyReferenceTest.passes_over.Goals as goal

pub returns : goal.returns
returns c =
    let lasts = c.args.self.now.lasts.now in
    let status = c.args.self.now.may_name_status in
    λ yes. any_of_kind (refused_in_own lasts status) (none_in_own lasts status) (references_of c.args.text.now) (c.names_no_task.ensures.references yes)
