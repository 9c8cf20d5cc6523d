use Rattle.std.proofs.Common.{List, sym, subst}
use Rattle.tk_types.specs.declared.value.Param.{Param}
use Rattle.tk_bind.specs.Readings.{ReadsParams}
use Rattle.tk_verdict.proofs.Formed.{reads_results}
use Rattle.tk_verdict.proofs.emit.results_with.Goals as goal

pub params_with_values-requires : goal.params_with_values-requires
params_with_values-requires c = subst (λ (ps : List Param). ReadsParams ps) (sym c.as_slice-3.ensures) (reads_results c.args.facts.now c.requires.well_formed)
