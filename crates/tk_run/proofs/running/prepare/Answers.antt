use Rattle.std.proofs.Common.{subst, sym}
use Rattle.std.specs.Prelude.{reverse}
use Rattle.tk_journal.specs.declared.admitted.Admitted.{Admitted}
use Rattle.tk_journal.specs.Legal.{IsLegal}
use Rattle.tk_manifest.specs.declared.kinds.KindSet.TheVariants.{Four}
use Rattle.tk_run.proofs.running.prepare.Goals as goal

pub new-requires : goal.new-requires
new-requires c = record {
  legal = subst (λ (a : Admitted). IsLegal (reverse a.entries)) (sym c.in_ok-admitted.ensures.admitted.1) (c.admitted_is_legal.ensures Four c.count_of.result c.args.root.now c.args.bytes.now c.in_ok-admitted.ensures.admitted.0);
}
