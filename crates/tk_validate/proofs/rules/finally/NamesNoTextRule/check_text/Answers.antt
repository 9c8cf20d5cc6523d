use Rattle.std.proofs.Common.{refl}
use Rattle.tk_validate.proofs.NoTask.{none_of_kind}
use Rattle.tk_validate.proofs.rules.finally.NamesNoTextRule.check_text.Goals as goal

pub returns-then-passes_over : goal.returns-then-passes_over
returns-then-passes_over g c =
    (none_of_kind (g.K.ReferenceTest.is_met c.args.self.now.kind) c.args._whole c.args.place.now c.args.text.now (c.passes_over.ensures c.if-passes_over.true), refl)
