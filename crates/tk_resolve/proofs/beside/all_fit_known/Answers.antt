use Rattle.std.proofs.Common.{ℕ, List, All, sym, subst}
use Rattle.tk_types.specs.declared.task.TaskBody.{TaskBody}
use Rattle.tk_bind.specs.Readings.{ReadsStep}
use Rattle.tk_resolve.proofs.beside.all_fit_known.Goals as goal

pub fit_all-requires-clause-steps : goal.fit_all-requires-clause-steps
fit_all-requires-clause-steps c = subst (λ (beside : List (List ℕ) × TaskBody). All ReadsStep beside.1.spec.steps) (sym c.in_ok-beside.ensures) c.requires.body
