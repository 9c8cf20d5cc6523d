use Rattle.tk_validate.specs.Validate.{item_fault}
use Rattle.tk_admit.specs.Sound.{IsValid}
use Rattle.tk_admit.proofs.Nothing.{mapped_none}
use Rattle.tk_admit.proofs.admission.validate_all.Goals as goal

pub returns-clause-valid : goal.returns-clause-valid
returns-clause-valid c = mapped_none item_fault IsValid (λ item none. none) c.args.items.now c.in_ok-validate_each.ensures.0
