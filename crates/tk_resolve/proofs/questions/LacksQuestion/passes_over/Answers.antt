use Rattle.std.proofs.Common.{ap}
use Rattle.std.specs.List.{list_any}
use Rattle.tk_resolve.proofs.questions.LacksQuestion.passes_over.Goals as goal

pub returns : goal.returns
returns g c passed due = ap (list_any _) (c.is_plain.ensures.references passed)
