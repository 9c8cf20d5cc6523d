use Rattle.std.proofs.Common.{ℕ, List, subst}
use Rattle.tk_types.specs.Rejected.{Reads}
use Rattle.tk_manifest.specs.declared.kinds.KindSet.TheVariants.{Four}
use Rattle.tk_admit.specs.Admit.{admitted, input_fault}
use Rattle.tk_run.proofs.running.admitted_of.Goals as goal

pub returns : goal.returns
returns c = record {
  admitted = subst (λ (bytes : List ℕ). Reads (input_fault Four c.args.asks bytes) (admitted Four c.args.asks c.args.root.now bytes) c.admit.result) c.in_ok-document.ensures c.admit.ensures.admitted;
}
