use Rattle.std.proofs.Common.{rules, sym, subst}
use Rattle.tk_run.specs.Begun.{IsNewController}
use Rattle.tk_program_tests.specs.Each.{Each}
use Rattle.tk_program_tests.proofs.Eachs.{each_more}
use Rattle.tk_program_tests.proofs.bench.controllers.Goals as goal

pub loop-preserved : goal.loop-preserved
loop-preserved c = record {
  count = search rules;
  new = subst (Each IsNewController) (sym c.in_ok-push.ensures.items) (each_more IsNewController c.loop.made.items c.in_ok-controller.controller c.loop.invariant.new c.in_ok-controller.ensures);
}
