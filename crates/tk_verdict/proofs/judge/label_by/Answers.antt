use Rattle.std.proofs.Common.{◌∙◌}
use Rattle.tk_verdict.proofs.LabelParts.{without_children}
use Rattle.tk_verdict.proofs.judge.label_by.Goals as goal

pub returns-in-empty : goal.returns-in-empty
returns-in-empty c =
    c.childless.ensures c.args.combinations.now ∙ without_children c.args.children.now c.args.combinations.now c.args.row c.args.stop c.args.next c.in-empty.len_below
